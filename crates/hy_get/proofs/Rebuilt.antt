-- What a get replies, and when.
use Rattle.std.proofs.Common.{◌≡◌, ℕ, zero, suc, ◌+◌, ◌≤◌, ◌<◌, true, false, List, [], ◌∷◌, ◌++◌, length, take, Option, Some, None, refl, sym, ap, subst, ◌∙◌, inl, inr, arith}
use Rattle.std.specs.Prelude.{◌==◌, ◌&&◌, nat_le, All}
use Rattle.std.specs.List.{cons_option}
use Rattle.std.specs.Option.{option_or, option_map}
use Rattle.std.proofs.lemmas.Option.{none-some}
use Rattle.std.proofs.lemmas.Bool.{leb-true, leb-false}
use Rattle.std.proofs.lemmas.Bool.Decides.{nat_tests}
use Rattle.std.proofs.lemmas.List.Elements.{All-nil, All-cons}
use Rattle.hy_meta.proofs.Rising.{cases_bool}
use Rattle.hy_meta.specs.Service.{stamp_of_record}
use Rattle.hy_code.specs.declared.pick.Pick.{Pick}
use Rattle.hy_code.specs.Fragments.{rebuilt_value}
use Rattle.hy_record.specs.declared.action.Reply.{Reply}
use Rattle.hy_record.specs.declared.action.Reply.TheVariants as told
use Rattle.hy_record.specs.declared.cloud.CloudSay.{CloudSay}
use Rattle.hy_record.specs.declared.cloud.CloudSay.TheVariants.{Stored, Conflict, Body, Missing, Gone, Bad}
use Rattle.hy_record.specs.declared.turn.Cue.{Cue}
use Rattle.hy_record.specs.declared.turn.Cue.TheVariants as cues
use Rattle.hy_record.specs.declared.turn.Turn.{Turn}
use Rattle.hy_record.specs.Stamp.{Timestamp, stamp_lt, stamp_eq}
use Rattle.hy_base.specs.Shape.{cloud_count}
use Rattle.hy_record.specs.Record.{RecordValue, is_tombstone, is_valid_fragment, IsValidFragment}
use Rattle.hy_record.proofs.Validity.{test-valid}
use Rattle.hy_protocol.specs.declared.plan.GetPlan.{GetPlan}
use Rattle.hy_protocol.specs.Inputs.{has_of}
use Rattle.hy_protocol.specs.Read.{Version, version_of, newer_version, valid_bytes, valid_in, first_valid, valid_picks, answer_for, answer_of, read_reply}
use Rattle.hy_protocol.specs.Turns.{get_turn}
use Rattle.hy_get.specs.Laws.{follows, value_reply, HasEnough, IsRebuilt}
use Rattle.hy_get.specs.Standing.{own_inputs}
use Rattle.hy_get.proofs.Picks.{picks_by}
use Rattle.hy_get.proofs.Standing.{turn-answers}
use Rattle.hy_get.proofs.Outcomes.{own-turn}

-- ---- too few fragments, and enough

silent-few : (r : RecordValue) (since : List Cue) → answer_for (Some r) since ≡ None → length (valid_picks r since) < r.k
unfolding answer_for
silent-few r since none =
    elim (cases_bool (is_tombstone r.kind)) [
      | inl tomb ↦ absurd (none-some _ (sym (rw tomb at none)))
      | inr value ↦ elim (cases_bool (nat_le r.k (length (valid_picks r since)))) [
        | inl enough ↦ absurd (none-some _ (sym (rw (value, enough) at none)))
        | inr few ↦ leb-false r.k (length (valid_picks r since)) few
      ]
    ]

silent-now : (o p : Option Reply) → option_or o p ≡ None → p ≡ None
silent-now None p e = e
silent-now (Some x) p e = absurd (none-some x (sym e))

pub too-few : (inputs since : List Cue) (r : RecordValue) → version_of inputs ≡ follows r since → read_reply inputs ≡ None → length (valid_picks r since) < r.k
unfolding read_reply version_of
too-few [] since r version none = absurd (none-some _ version)
too-few (cue ∷ before) since r version none = silent-few r since (ap answer_of (sym version) ∙ silent-now (read_reply before) (answer_of (version_of (cue ∷ before))) none)

enough-answers : (r : RecordValue) (since : List Cue) → is_tombstone r.kind ≡ false → r.k ≤ length (valid_picks r since) → answer_for (Some r) since ≡ Some (value_reply r since)
unfolding answer_for
enough-answers r since value enough = let high : nat_le r.k (length (valid_picks r since)) ≡ true = grind (arith, nat_tests, enough) in rw (value, high) refl

pub enough-replies : (plan : GetPlan) (inputs since : List Cue) (cue : Cue) (r : RecordValue) → HasEnough plan inputs cue r since → (get_turn plan (cue ∷ inputs)).reply ≡ Some (value_reply r since)
enough-replies plan inputs since cue r h =
    ap (λ (t : Turn). t.reply) (own-turn plan inputs cue h.own ∙ turn-answers plan cue (own_inputs plan inputs) (follows r since) (value_reply r since) h.version h.silent (enough-answers r since h.value h.enough))

-- ---- fragments that the record's hashes verify

valid-bytes : (r : RecordValue) (i : ℕ) (say : CloudSay) (bytes : List ℕ) → valid_bytes r i say ≡ Some bytes → is_valid_fragment r i bytes ≡ true
valid-bytes r i (Body b) bytes e = elim (cases_bool (is_valid_fragment r i b)) [
  | inl valid ↦ let same : b ≡ bytes = (let s : Some b ≡ Some bytes = rw valid at e in cc) in subst (λ (x : List ℕ). is_valid_fragment r i x ≡ true) same valid
  | inr bad ↦ absurd (none-some bytes (rw bad at e))
]
valid-bytes r i (Stored fresh) bytes e = absurd (none-some bytes e)
valid-bytes r i Conflict bytes e = absurd (none-some bytes e)
valid-bytes r i Missing bytes e = absurd (none-some bytes e)
valid-bytes r i Gone bytes e = absurd (none-some bytes e)
valid-bytes r i (Bad code) bytes e = absurd (none-some bytes e)

valid-input : (r : RecordValue) (i : ℕ) (cue : Cue) (bytes : List ℕ) → valid_in r i cue ≡ Some bytes → is_valid_fragment r i bytes ≡ true
valid-input r i (cues.Cloud reply) bytes e = elim (cases_bool (reply.cloud == i && stamp_eq reply.stamp r.stamp)) [
  | inl here ↦ valid-bytes r i reply.say bytes (rw here at e)
  | inr elsewhere ↦ absurd (none-some bytes (rw elsewhere at e))
]
valid-input r i (cues.Meta say) bytes e = absurd (none-some bytes e)
valid-input r i cues.Tick bytes e = absurd (none-some bytes e)

first-is-valid : (r : RecordValue) (i : ℕ) (since : List Cue) (bytes : List ℕ) → first_valid r i since ≡ Some bytes → is_valid_fragment r i bytes ≡ true
unfolding first_valid
first-is-valid r i [] bytes e = absurd (none-some bytes e)
first-is-valid r i (cue ∷ before) bytes e = by_first (λ same. first-is-valid r i before bytes same) (first_valid r i before) refl e
  where
    by_first : (first_valid r i before ≡ Some bytes → is_valid_fragment r i bytes ≡ true) → (o : Option (List ℕ)) → first_valid r i before ≡ o → option_or o (valid_in r i cue) ≡ Some bytes → is_valid_fragment r i bytes ≡ true
    by_first earlier None is now = valid-input r i cue bytes now
    by_first earlier (Some b) is now = earlier (is ∙ now)

all-picks : (P : ℕ → List ℕ → Type 0) (g : ℕ → Option (List ℕ)) (a n : ℕ) → ((i : ℕ) (bytes : List ℕ) → g i ≡ Some bytes → P i bytes) → All (λ pick. P pick.cloud pick.bytes) (picks_by g a n)
all-picks P g a zero each = All-nil (λ (pick : Pick). P pick.cloud pick.bytes)
all-picks P g a (suc n) each = by_pick (g a) refl (all-picks P g (a + 1) n each)
  where
    by_pick : (o : Option (List ℕ)) → g a ≡ o → All (λ pick. P pick.cloud pick.bytes) (picks_by g (a + 1) n) → All (λ pick. P pick.cloud pick.bytes) (cons_option (option_map (λ bytes. record { cloud = a; bytes = bytes }) o) (picks_by g (a + 1) n))
    by_pick None is rest = rest
    by_pick (Some bytes) is rest = All-cons (λ (pick : Pick). P pick.cloud pick.bytes) (record { cloud = a; bytes = bytes }) (picks_by g (a + 1) n) (each a bytes is) rest

picks-verified : (r : RecordValue) (since : List Cue) → All (λ pick. IsValidFragment r pick.cloud pick.bytes) (valid_picks r since)
unfolding valid_picks
picks-verified r since = all-picks (λ i bytes. IsValidFragment r i bytes) (λ i. first_valid r i since) 0 (cloud_count r.f r.k) (λ i bytes e. test-valid r i bytes (first-is-valid r i since bytes e))

-- ---- the inputs since the version was read

-- the input that told the version's record, and those before it
record IsTold (inputs : List Cue) (v : Version) : Type 0 where
  pub has : Cue
  pub older : List Cue
  pub was_told : has_of has ≡ Some v.rec
  pub parts : inputs ≡ v.since ++ has ∷ older

some-same : {A : Type 0} (x y : A) → Some x ≡ Some y → x ≡ y
some-same x y e = cc

told-before : (inputs : List Cue) (v : Version) → version_of inputs ≡ Some v → IsTold inputs v
unfolding version_of
told-before [] v version = absurd (none-some v version)
told-before (cue ∷ before) v version = by_cases (λ w was. told-before before w was) (version_of before) (has_of cue) refl refl version
  where
    now : (rec : Option RecordValue) → has_of cue ≡ Some rec → Some (record { rec = rec; since = [] }) ≡ Some v → IsTold (cue ∷ before) v
    now rec has e = subst (IsTold (cue ∷ before)) (some-same (record { rec = rec; since = [] }) v e) (record { has = cue; older = before; was_told = has; parts = refl })

    kept : (w : Version) → IsTold before w → Some (record { rec = w.rec; since = cue ∷ w.since }) ≡ Some v → IsTold (cue ∷ before) v
    kept w t e = subst (IsTold (cue ∷ before)) (some-same (record { rec = w.rec; since = cue ∷ w.since }) v e) (record { has = t.has; older = t.older; was_told = t.was_told; parts = ap (λ (xs : List Cue). cue ∷ xs) t.parts })

    by_cases : ((w : Version) → version_of before ≡ Some w → IsTold before w) → (was : Option Version) (has : Option (Option RecordValue)) → version_of before ≡ was → has_of cue ≡ has → newer_version was cue has ≡ Some v → IsTold (cue ∷ before) v
    by_cases earlier None None is at_it e = absurd (none-some v e)
    by_cases earlier None (Some rec) is at_it e = now rec at_it e
    by_cases earlier (Some w) None is at_it e = kept w (earlier w is) e
    by_cases earlier (Some w) (Some rec) is at_it e = elim (cases_bool (stamp_lt (stamp_of_record w.rec) (stamp_of_record rec))) [
      | inl above ↦ now rec at_it (rw above at e)
      | inr below ↦ kept w (earlier w is) (rw below at e)
    ]

-- ---- a reply that has a value

-- the value that a version answers
record IsAnswered (v : Version) (value : List ℕ) (stamp : Timestamp) : Type 0 where
  pub rec : RecordValue
  pub is : v.rec ≡ Some rec
  pub stamped : rec.stamp ≡ stamp
  pub enough : rec.k ≤ length (valid_picks rec v.since)
  pub rebuilt : value ≡ rebuilt_value rec.size rec.k (take rec.k (valid_picks rec v.since))

answered : (v : Version) (value : List ℕ) (stamp : Timestamp) → answer_for v.rec v.since ≡ Some (told.Value value stamp) → IsAnswered v value stamp
unfolding answer_for
answered v value stamp e = by_record v.rec refl e
  where
    by_record : (o : Option RecordValue) → v.rec ≡ o → answer_for o v.since ≡ Some (told.Value value stamp) → IsAnswered v value stamp
    by_record None is e = absurd (let s : told.Absent (record { sn = 0; cid = 0 }) ≡ told.Value value stamp = some-same _ _ e in cc)
    by_record (Some r) is e = elim (cases_bool (is_tombstone r.kind)) [
      | inl tomb ↦ absurd (let s : Some (told.Absent r.stamp) ≡ Some (told.Value value stamp) = rw tomb at e in cc)
      | inr written ↦ elim (cases_bool (nat_le r.k (length (valid_picks r v.since)))) [
        | inl enough ↦
            let s : Some (told.Value (rebuilt_value r.size r.k (take r.k (valid_picks r v.since))) r.stamp) ≡ Some (told.Value value stamp) = rw (written, enough) at e in
            record { rec = r; is = is; stamped = cc; enough = leb-true r.k (length (valid_picks r v.since)) enough; rebuilt = cc }
        | inr few ↦ absurd (none-some _ (rw (written, few) at e))
      ]
    ]

rebuilt-now : (inputs : List Cue) (value : List ℕ) (stamp : Timestamp) (v : Version) → version_of inputs ≡ Some v → answer_for v.rec v.since ≡ Some (told.Value value stamp) → IsRebuilt inputs value stamp
rebuilt-now inputs value stamp v version answer =
    let t : IsTold inputs v = told-before inputs v version in
    let a : IsAnswered v value stamp = answered v value stamp answer in
    record {
      rec = a.rec;
      older = t.older;
      has = t.has;
      since = v.since;
      later = [];
      stamped = a.stamped;
      was_told = t.was_told ∙ ap Some a.is;
      parts = t.parts;
      enough = a.enough;
      verified = picks-verified a.rec v.since;
      rebuilt = a.rebuilt;
    }

rebuilt-later : (inputs : List Cue) (cue : Cue) (value : List ℕ) (stamp : Timestamp) → IsRebuilt inputs value stamp → IsRebuilt (cue ∷ inputs) value stamp
rebuilt-later inputs cue value stamp b = record {
  rec = b.rec;
  older = b.older;
  has = b.has;
  since = b.since;
  later = cue ∷ b.later;
  stamped = b.stamped;
  was_told = b.was_told;
  parts = ap (λ (xs : List Cue). cue ∷ xs) b.parts;
  enough = b.enough;
  verified = b.verified;
  rebuilt = b.rebuilt;
}

pub replies-rebuilt : (inputs : List Cue) (value : List ℕ) (stamp : Timestamp) → read_reply inputs ≡ Some (told.Value value stamp) → IsRebuilt inputs value stamp
unfolding read_reply
replies-rebuilt [] value stamp e = absurd (none-some _ e)
replies-rebuilt (cue ∷ before) value stamp e = by_reply (λ same. replies-rebuilt before value stamp same) (read_reply before) refl e
  where
    by_version : (v : Option Version) → version_of (cue ∷ before) ≡ v → answer_of v ≡ Some (told.Value value stamp) → IsRebuilt (cue ∷ before) value stamp
    by_version None version answer = absurd (none-some _ answer)
    by_version (Some v) version answer = rebuilt-now (cue ∷ before) value stamp v version answer

    by_reply : (read_reply before ≡ Some (told.Value value stamp) → IsRebuilt before value stamp) → (o : Option Reply) → read_reply before ≡ o → option_or o (answer_of (version_of (cue ∷ before))) ≡ Some (told.Value value stamp) → IsRebuilt (cue ∷ before) value stamp
    by_reply earlier None is now = by_version (version_of (cue ∷ before)) refl now
    by_reply earlier (Some reply) is now = rebuilt-later before cue value stamp (earlier (is ∙ now))
