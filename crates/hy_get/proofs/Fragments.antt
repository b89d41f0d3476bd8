-- The valid fragments of a version at one more input.
use Rattle.std.proofs.Common.{◌≡◌, ◌≢◌, ℕ, zero, suc, ◌+◌, ◌≤◌, Bool, true, false, List, [], ◌∷◌, length, Option, Some, None, refl, sym, ap, ◌∙◌, inl, inr, arith}
use Rattle.std.specs.Prelude.{◌==◌, nat_lt, insert, remove, is_some, if◌then◌else◌}
use Rattle.std.specs.Option.{option_or}
use Rattle.std.specs.List.{list_any, prefix_len}
use Rattle.std.proofs.lemmas.Bool.{eqb-true, eqb-false, false≢true}
use Rattle.std.proofs.lemmas.Bool.Decides.{nat_tests}
use Rattle.hy_meta.proofs.Rising.{cases_bool}
use Rattle.hy_code.specs.declared.pick.Pick.{Pick}
use Rattle.hy_record.specs.declared.cloud.CloudReply.{CloudReply}
use Rattle.hy_record.specs.declared.cloud.CloudSay.{CloudSay}
use Rattle.hy_record.specs.declared.cloud.CloudSay.TheVariants.{Stored, Conflict, Body, Missing, Gone, Bad}
use Rattle.hy_record.specs.declared.turn.Cue.{Cue}
use Rattle.hy_record.specs.declared.turn.Cue.TheVariants as cues
use Rattle.hy_record.specs.Stamp.{stamp_eq}
use Rattle.hy_base.specs.Shape.{cloud_count}
use Rattle.hy_record.specs.Record.{RecordValue, is_valid_fragment}
use Rattle.hy_record.proofs.Validity.{test-valid}
use Rattle.hy_protocol.specs.Read.{is_valid_body, valid_bytes, valid_in, first_valid, valid_picks}
use Rattle.hy_get.specs.Fetching.{IsValidBody}
use Rattle.hy_get.proofs.Picks.{picks-agree, picks-none, picks-insert, picks-have, picks-lack}

or-none : {A : Type 0} (o : Option A) → option_or o None ≡ o
or-none None = refl
or-none (Some x) = refl

-- nothing came since the version was read
pub picks-start : (r : RecordValue) → valid_picks r [] ≡ []
unfolding valid_picks first_valid
picks-start r = picks-none (λ i. first_valid r i []) 0 (cloud_count r.f r.k) (λ i. refl)

-- an input that brings no fragment
pub picks-same : (r : RecordValue) (since : List Cue) (cue : Cue) → ((i : ℕ) → valid_in r i cue ≡ None) → valid_picks r (cue ∷ since) ≡ valid_picks r since
unfolding valid_picks first_valid
picks-same r since cue none =
    picks-agree (λ i. first_valid r i (cue ∷ since)) (λ i. first_valid r i since) 0 (cloud_count r.f r.k)
    (λ i l. ap (λ (o : Option (List ℕ)). option_or (first_valid r i since) o) (none i) ∙ or-none (first_valid r i since))

-- an answer brings nothing of another cloud
elsewhere : (r : RecordValue) (reply : CloudReply) (i : ℕ) → i ≢ reply.cloud → valid_in r i (cues.Cloud reply) ≡ None
elsewhere r reply i other = let off : (reply.cloud == i) ≡ false = grind (arith, nat_tests, other) in rw off refl

here-valid : (r : RecordValue) (reply : CloudReply) (bytes : List ℕ) → IsValidBody r reply bytes → stamp_eq reply.stamp r.stamp ≡ true → valid_in r reply.cloud (cues.Cloud reply) ≡ Some bytes
here-valid r reply bytes v stamp =
    let on : (reply.cloud == reply.cloud) ≡ true = grind (arith, nat_tests) in
    let body : reply.say ≡ Body bytes = v.body in
    let valid : is_valid_fragment r reply.cloud bytes ≡ true = v.valid in
    rw (on, stamp, body, valid) refl

-- a second valid answer of a cloud
pub picks-again : (r : RecordValue) (since : List Cue) (reply : CloudReply) → list_any (λ pick. pick.cloud == reply.cloud) (valid_picks r since) ≡ true → valid_picks r (cues.Cloud reply ∷ since) ≡ valid_picks r since
unfolding valid_picks first_valid
picks-again r since reply any =
    picks-agree (λ i. first_valid r i (cues.Cloud reply ∷ since)) (λ i. first_valid r i since) 0 (cloud_count r.f r.k) same
  where
    has : is_some (first_valid r reply.cloud since) ≡ true
    has = picks-have (λ i. first_valid r i since) reply.cloud 0 (cloud_count r.f r.k) any

    kept : (o now : Option (List ℕ)) → is_some o ≡ true → option_or o now ≡ o
    kept None now e = absurd (false≢true e)
    kept (Some x) now e = refl

    same : (i : ℕ) → 0 ≤ i → option_or (first_valid r i since) (valid_in r i (cues.Cloud reply)) ≡ first_valid r i since
    same i l = elim (cases_bool (i == reply.cloud)) [
      | inl at_it ↦ kept (first_valid r i since) (valid_in r i (cues.Cloud reply)) (ap (λ (j : ℕ). is_some (first_valid r j since)) (eqb-true i reply.cloud at_it) ∙ has)
      | inr off ↦ ap (λ (o : Option (List ℕ)). option_or (first_valid r i since) o) (elsewhere r reply i (eqb-false i reply.cloud off)) ∙ or-none (first_valid r i since)
    ]

-- the first valid answer of a cloud
pub picks-new : (r : RecordValue) (since : List Cue) (reply : CloudReply) (bytes : List ℕ) → IsValidBody r reply bytes → stamp_eq reply.stamp r.stamp ≡ true
    → list_any (λ pick. pick.cloud == reply.cloud) (valid_picks r since) ≡ false
    → valid_picks r (cues.Cloud reply ∷ since) ≡ insert (valid_picks r since) (prefix_len (λ pick. nat_lt pick.cloud reply.cloud) (valid_picks r since)) (record { cloud = reply.cloud; bytes = bytes })
unfolding valid_picks first_valid
picks-new r since reply bytes v stamp none =
    let within = (test-valid r reply.cloud bytes v.valid).cloud in
    let lacks : first_valid r reply.cloud since ≡ None = picks-lack (λ i. first_valid r i since) reply.cloud 0 (cloud_count r.f r.k) (omega arith) (omega (arith, within)) none in
    picks-insert (λ i. first_valid r i since) (λ i. first_valid r i (cues.Cloud reply ∷ since)) reply.cloud bytes 0 (cloud_count r.f r.k)
    (λ i other. ap (λ (o : Option (List ℕ)). option_or (first_valid r i since) o) (elsewhere r reply i other) ∙ or-none (first_valid r i since))
    lacks (rw (lacks, here-valid r reply bytes v stamp) refl) (omega arith) (omega (arith, within))

invalid-bytes : (r : RecordValue) (i : ℕ) (say : CloudSay) → is_valid_body r i say ≡ false → valid_bytes r i say ≡ None
invalid-bytes r i (Body bytes) bad = rw bad refl
invalid-bytes r i (Stored fresh) bad = refl
invalid-bytes r i Conflict bad = refl
invalid-bytes r i Missing bad = refl
invalid-bytes r i Gone bad = refl
invalid-bytes r i (Bad code) bad = refl

-- an answer that is not valid brings nothing
pub invalid-in : (r : RecordValue) (reply : CloudReply) → is_valid_body r reply.cloud reply.say ≡ false → (i : ℕ) → valid_in r i (cues.Cloud reply) ≡ None
invalid-in r reply bad i =
    elim (cases_bool (reply.cloud == i)) [
      | inr off ↦ rw off refl
      | inl on ↦
          let none : valid_bytes r i reply.say ≡ None = ap (λ (j : ℕ). valid_bytes r j reply.say) (sym (eqb-true reply.cloud i on)) ∙ invalid-bytes r reply.cloud reply.say bad in
          rw (on, none) (either (stamp_eq reply.stamp r.stamp))
    ]
  where
    nothing : Option (List ℕ)
    nothing = None

    either : (b : Bool) → (if b then nothing else nothing) ≡ nothing
    either true = refl
    either false = refl

pub insert-longer : (xs : List Pick) (i : ℕ) (x : Pick) → i ≤ length xs → length (insert xs i x) ≡ length xs + 1
insert-longer [] zero x l = refl
insert-longer [] (suc i) x l = absurd (omega (arith, l))
insert-longer (y ∷ ys) zero x l = omega arith
insert-longer (y ∷ ys) (suc i) x l = let rest = insert-longer ys i x (omega (arith, l)) in omega (arith, rest)

-- what was put in is taken out again
pub remove-insert : (xs : List Pick) (i : ℕ) (x : Pick) → i ≤ length xs → remove (insert xs i x) i ≡ xs
remove-insert [] zero x l = refl
remove-insert [] (suc i) x l = absurd (omega (arith, l))
remove-insert (y ∷ ys) zero x l = refl
remove-insert (y ∷ ys) (suc i) x l = ap (λ (zs : List Pick). y ∷ zs) (remove-insert ys i x (omega (arith, l)))
