-- The point of a read: the step at which the answer was made that gave its version.
use Rattle.std.proofs.Common.{◌≡◌, ℕ, ◌+◌, ◌≤◌, ◌<◌, true, List, [], ◌∷◌, length, Option, Some, None, refl, sym, ap, subst, ◌∙◌, inl, inr, arith}
use Rattle.std.specs.Prelude.{◌&&◌, ◌==◌, ◌⊎◌}
use Rattle.std.specs.Option.{option_map}
use Rattle.std.proofs.lemmas.Option.{none-some, same_Some}
use Rattle.std.proofs.lemmas.Bool.{eqb-true}
use Rattle.hy_record.specs.declared.message.MetaSay.TheVariants as says
use Rattle.hy_record.specs.declared.action.Action.{Action}
use Rattle.hy_record.specs.declared.action.Action.TheVariants as asked
use Rattle.hy_record.specs.declared.action.Reply.{Reply}
use Rattle.hy_record.specs.Stamp.{stamp_lt}
use Rattle.hy_record.specs.Record.{RecordValue}
use Rattle.hy_meta.specs.Service.{stamp_of_record}
use Rattle.hy_meta.proofs.Rising.{cases_bool, both}
use Rattle.hy_record.specs.declared.turn.Cue.{Cue}
use Rattle.hy_record.specs.declared.turn.Cue.TheVariants as cues
use Rattle.hy_protocol.specs.Inputs.{addresses, has_of}
use Rattle.hy_protocol.specs.Read.{Version, version_of, newer_version, answer_of, read_reply}
use Rattle.hy_trace.specs.Deeds.{Params, Deed, Joined, Began, Handed, Served, Granted, Stopped, Nothing, Start, inputs_of, start_of, start_at, reply_of}
use Rattle.hy_trace.specs.Messages.{Message, Say, IsSent, IsSentAt}
use Rattle.hy_protocol.specs.Operations.{key_of, replied}
use Rattle.hy_trace.specs.Trace.{IsMade, Awaits, Fits, IsTrace}
pub use Rattle.hy_trace.specs.Points.{newer_made, version_made}
use Rattle.hy_trace.proofs.Growth.{or-cases, start-keeps, start-now, start-same}
use Rattle.hy_trace.proofs.Heard.{same-name, version-told, inputs-heard}
use Rattle.hy_theorems.proofs.Meaning.{IsReading}
use Rattle.hy_theorems.proofs.Invariant.{trace-holds}
use Rattle.hy_trace.proofs.Steps.{at-sent}
use Rattle.hy_trace.specs.History.{Return, return_of}
use Rattle.hy_theorems.proofs.RealTime.{return-reply, shorter}

-- an operation has one input more, or none, and its version is as old
pub record TakesInput (p : Params) (c o : ℕ) (d : Deed) (t : List Deed) : Type 0 where
  pub made : ℕ
  pub cue : Cue
  pub awaits : Awaits p c o cue t
  pub is_made : IsMade p t made cue
  pub inputs : inputs_of c o (d ∷ t) ≡ cue ∷ inputs_of c o t
  pub version : version_made c o (d ∷ t) ≡ newer_made (version_of (inputs_of c o t)) (has_of cue) made (version_made c o t)

pub made-step : (p : Params) (c o : ℕ) (d : Deed) (t : List Deed) → Fits p t d → ((inputs_of c o (d ∷ t) ≡ inputs_of c o t) × (version_made c o (d ∷ t) ≡ version_made c o t)) ⊎ TakesInput p c o d t
unfolding inputs_of version_made
made-step p c o Joined t fits = inl (refl, refl)
made-step p c o (Began b n a) t fits = inl (refl, refl)
made-step p c o (Served ask) t fits = inl (refl, refl)
made-step p c o (Granted ask) t fits = inl (refl, refl)
made-step p c o (Stopped b) t fits = inl (refl, refl)
made-step p c o Nothing t fits = inl (refl, refl)
made-step p c o (Handed b n w cue) t fits =
    elim (cases_bool ((b == c) && (n == o))) [
      | inl own ↦
          let tests = both (b == c) (n == o) own in
          inr (record {
            made = w;
            cue = cue;
            awaits = subst (λ (x : ℕ). Awaits p x o cue t) (eqb-true b c tests.0) (subst (λ (y : ℕ). Awaits p b y cue t) (eqb-true n o tests.1) fits.0);
            is_made = fits.1;
            inputs = rw own refl;
            version = rw own refl;
          })
      | inr other ↦ inl (rw other refl, rw other refl)
    ]

sent-within : (p : Params) (t : List Deed) (w : ℕ) (m : Message) → IsSentAt p t w m → w ≤ length t
unfolding IsSentAt
sent-within p [] w m sent = absurd sent
sent-within p (d ∷ t) w m (inl now) = (let same = now.0 in omega (arith, same))
sent-within p (d ∷ t) w m (inr was) = (let le = sent-within p t w m was in omega (arith, le))

said-now : (p : Params) (d : Deed) (t : List Deed) (w : ℕ) (m : Message) → IsSentAt p (d ∷ t) w m → IsSent p (d ∷ t) m
said-now p d t w m sent = at-sent p (d ∷ t) w m sent

pub start-short : (c o : ℕ) (d : Deed) (t : List Deed) (s : Start) → start_of c o (d ∷ t) ≡ Some s → length s.before ≤ length t
unfolding start_of
start-short c o d t s began =
    elim (or-cases (start_of c o t) (start_at c o d t) s began) [
      | inl was ↦ shorter c o t s was
      | inr now ↦ (let e = ap (λ (x : List Deed). length x) (start-now c o d t s now.1) in omega (arith, e))
    ]

-- an answer to an operation was made after it began
sent-after : (p : Params) (t : List Deed) (w c o : ℕ) (k : List ℕ) (r : Option RecordValue) (s : Start) → IsTrace p t → IsSentAt p t w (Say (says.Has c o k r)) → start_of c o t ≡ Some s → length s.before < w
unfolding IsTrace IsSentAt
sent-after p [] w c o k r s trace sent began = absurd sent
sent-after p (d ∷ t) w c o k r s trace (inl now) began = (let le = start-short c o d t s began in let at = now.0 in omega (arith, le, at))
sent-after p (d ∷ t) w c o k r s trace (inr was) began =
    let reading : IsReading c o k r t = (trace-holds p t trace.1).said (Say (says.Has c o k r)) (at-sent p t w (Say (says.Has c o k r)) was) in
    let same : reading.start ≡ s = same_Some reading.start s (sym (start-keeps c o d t reading.start reading.began) ∙ began) in
    subst (λ (x : Start). length x.before < w) same (sent-after p t w c o k r reading.start trace.1 was reading.began)

pub made-has : (p : Params) (t : List Deed) (w c o : ℕ) (key : List ℕ) (cue : Cue) (r : Option RecordValue) → has_of cue ≡ Some r → addresses c o key cue ≡ true → IsMade p t w cue → IsSentAt p t w (Say (says.Has c o key r))
unfolding addresses
made-has p t w c o key (cues.Meta (says.Has b n k q)) r tells own sent = same-name b c n o k key (λ x y z. IsSentAt p t w (Say (says.Has x y z r))) own (subst (λ (x : Option RecordValue). IsSentAt p t w (Say (says.Has b n k x))) (same_Some q r tells) sent)
made-has p t w c o key (cues.Meta (says.Applied b n k s)) r tells own sent = absurd (none-some r tells)
made-has p t w c o key (cues.Meta (says.Kept b n k s)) r tells own sent = absurd (none-some r tells)
made-has p t w c o key (cues.Meta (says.Fired b n k s)) r tells own sent = absurd (none-some r tells)
made-has p t w c o key (cues.Meta (says.OldList b n k ss)) r tells own sent = absurd (none-some r tells)
made-has p t w c o key (cues.Meta (says.Forgot b n k)) r tells own sent = absurd (none-some r tells)
made-has p t w c o key (cues.Meta (says.Swapped b n k s)) r tells own sent = absurd (none-some r tells)
made-has p t w c o key (cues.Meta (says.Changed b n k s)) r tells own sent = absurd (none-some r tells)
made-has p t w c o key (cues.Cloud reply) r tells own sent = absurd (none-some r tells)
made-has p t w c o key cues.Tick r tells own sent = absurd (none-some r tells)

none-version : (c o : ℕ) (v : Version) → version_of (inputs_of c o []) ≡ Some v → ⊥
unfolding inputs_of version_of
none-version c o v is = none-some v is

newest : (w : ℕ) (cue : Cue) (inputs : List Cue) (v : Version) (P : ℕ → Type 0) (old : ℕ) → version_of (cue ∷ inputs) ≡ Some v → ((r : Option RecordValue) → has_of cue ≡ Some r → P w) → ((u : Version) → version_of inputs ≡ Some u → P old) → P (newer_made (version_of inputs) (has_of cue) w old)
unfolding version_of
newest w cue inputs v P old is new was = by_both (version_of inputs) (has_of cue) refl refl is
  where
    by_both : (o : Option Version) (has : Option (Option RecordValue)) → version_of inputs ≡ o → has_of cue ≡ has → newer_version o cue has ≡ Some v → P (newer_made o has w old)
    by_both None None o_is has_is e = absurd (none-some v e)
    by_both None (Some r) o_is has_is e = new r has_is
    by_both (Some u) None o_is has_is e = was u o_is
    by_both (Some u) (Some r) o_is has_is e =
        elim (cases_bool (stamp_lt (stamp_of_record u.rec) (stamp_of_record r))) [
          | inl above ↦ rw above (new r has_is)
          | inr not_above ↦ rw not_above (was u o_is)
        ]

early-newer : (o : Option Version) (has : Option (Option RecordValue)) (w old n : ℕ) → ((r : Option RecordValue) → has ≡ Some r → w ≤ n) → old ≤ n → newer_made o has w old ≤ n
early-newer o None w old n low le = le
early-newer None (Some r) w old n low le = low r refl
early-newer (Some u) (Some r) w old n low le =
    elim (cases_bool (stamp_lt (stamp_of_record u.rec) (stamp_of_record r))) [
      | inl above ↦ rw above (low r refl)
      | inr not_above ↦ rw not_above le
    ]

-- an operation with a version had inputs, so it began
pub version-before : (p : Params) (c o : ℕ) (t : List Deed) → IsTrace p t → (v : Version) → version_of (inputs_of c o t) ≡ Some v → (u : Start) × (start_of c o t ≡ Some u)
version-before p c o t trace v is =
    let b = version-told (inputs_of c o t) v is in
    let h = inputs-heard p c o b.cue t trace b.input in
    (h.start, h.began)

none-made : (c o : ℕ) → version_made c o [] ≡ 0
unfolding version_made
none-made c o = refl

pub version-late : (p : Params) (c o : ℕ) (t : List Deed) → IsTrace p t → (s : Start) → start_of c o t ≡ Some s → (v : Version) → version_of (inputs_of c o t) ≡ Some v → length s.before < version_made c o t
unfolding IsTrace
version-late p c o [] trace s began v is = absurd (none-version c o v is)
version-late p c o (d ∷ t) trace s began v is =
    elim (made-step p c o d t trace.0) [
      | inl same ↦ rw same.1 (old_start (version-before p c o t trace.1 v (ap version_of (sym same.0) ∙ is)) (λ u began_ w was. version-late p c o t trace.1 u began_ w was) v (ap version_of (sym same.0) ∙ is))
      | inr one ↦
          let start_is : one.awaits.start ≡ s = same_Some one.awaits.start s (sym (start-keeps c o d t one.awaits.start one.awaits.began) ∙ began) in
          let began_ : start_of c o t ≡ Some s = one.awaits.began ∙ ap Some start_is in
          rw one.version
          (newest one.made one.cue (inputs_of c o t) v (λ n. length s.before < n) (version_made c o t) (ap version_of (sym one.inputs) ∙ is)
          (λ r tells. sent-after p t one.made c o (key_of one.awaits.start.action) r s trace.1 (made-has p t one.made c o (key_of one.awaits.start.action) one.cue r tells one.awaits.own one.is_made) began_)
          (λ u was. version-late p c o t trace.1 s began_ u was))
    ]
  where
    old_start : (u : Start) × (start_of c o t ≡ Some u) → ((u : Start) → start_of c o t ≡ Some u → (w : Version) → version_of (inputs_of c o t) ≡ Some w → length u.before < version_made c o t) → (w : Version) → version_of (inputs_of c o t) ≡ Some w → length s.before < version_made c o t
    old_start has before w was =
        let same : has.0 ≡ s = same_Some has.0 s (sym (start-keeps c o d t has.0 has.1) ∙ began) in
        subst (λ (x : Start). length x.before < version_made c o t) same (before has.0 has.1 w was)

pub version-early : (p : Params) (c o : ℕ) (t : List Deed) → IsTrace p t → version_made c o t ≤ length t
unfolding IsTrace
version-early p c o [] trace = (let e = none-made c o in omega (arith, e))
version-early p c o (d ∷ t) trace =
    let before = version-early p c o t trace.1 in
    elim (made-step p c o d t trace.0) [
      | inl same ↦ (let e = same.1 in omega (arith, before, e))
      | inr one ↦ rw one.version
          (early-newer (version_of (inputs_of c o t)) (has_of one.cue) one.made (version_made c o t) (length (d ∷ t))
          (λ r tells. (let le = sent-within p t one.made (Say (says.Has c o (key_of one.awaits.start.action) r)) (made-has p t one.made c o (key_of one.awaits.start.action) one.cue r tells one.awaits.own one.is_made) in omega (arith, le)))
          (omega (arith, before)))
    ]

-- a version was made no later than its operation returned
pub version-returned : (p : Params) (c o : ℕ) (t : List Deed) (r : Return) → IsTrace p t → return_of p c o t ≡ Some r → version_made c o t ≤ r.at
unfolding IsTrace return_of
version-returned p c o [] r trace is = absurd (none-some r is)
version-returned p c o (d ∷ t) r trace is =
    elim (or-cases (return_of p c o t) (option_map (λ reply. record { at = length t + 1; reply = reply }) (reply_of p c o (d ∷ t))) r is) [
      | inr now ↦ by_reply (reply_of p c o (d ∷ t)) now.1
      | inl was ↦ elim (made-step p c o d t trace.0) [
        | inl same ↦ rw same.1 (version-returned p c o t r trace.1 was)
        | inr one ↦
            let h = return-reply p c o t r trace.1 was in
            let start_is = start-same c o t one.awaits.start h.start one.awaits.began h.began in
            absurd (none-some r.reply (sym one.awaits.unfinished ∙ (ap (λ (x : Start). replied p.f p.k c o x.action (inputs_of c o t)) start_is ∙ h.replies)))
      ]
    ]
  where
    by_reply : (q : Option Reply) → option_map (λ reply. record { at = length t + 1; reply = reply }) q ≡ Some r → version_made c o (d ∷ t) ≤ r.at
    by_reply None e = absurd (none-some r e)
    by_reply (Some reply) e = (let at_is = ap (λ (x : Return). x.at) (same_Some (record { at = length t + 1; reply = reply }) r e) in let le = version-early p c o (d ∷ t) trace in omega (arith, at_is, le))

-- a version stays, or a newer one comes
version-stays : (cue : Cue) (before : List Cue) (v : Version) → version_of before ≡ Some v → (u : Version) × (version_of (cue ∷ before) ≡ Some u)
unfolding version_of
version-stays cue before v is = rw is (by_has (has_of cue))
  where
    by_has : (has : Option (Option RecordValue)) → (u : Version) × (newer_version (Some v) cue has ≡ Some u)
    by_has None = (record { rec = v.rec; since = cue ∷ v.since }, refl)
    by_has (Some r) =
        elim (cases_bool (stamp_lt (stamp_of_record v.rec) (stamp_of_record r))) [
          | inl above ↦ (record { rec = r; since = [] }, rw above refl)
          | inr not_above ↦ (record { rec = v.rec; since = cue ∷ v.since }, rw not_above refl)
        ]

pub answered-version : (o : Option Version) (reply : Reply) → answer_of o ≡ Some reply → (v : Version) × (o ≡ Some v)
answered-version None reply is = absurd (none-some reply is)
answered-version (Some v) reply is = (v, refl)

read-version : (inputs : List Cue) (reply : Reply) → read_reply inputs ≡ Some reply → (v : Version) × (version_of inputs ≡ Some v)
unfolding read_reply
read-version [] reply is = absurd (none-some reply is)
read-version (cue ∷ before) reply is =
    elim (or-cases (read_reply before) (answer_of (version_of (cue ∷ before))) reply is) [
      | inl was ↦ (let v = read-version before reply was in version-stays cue before v.0 v.1)
      | inr now ↦ answered-version (version_of (cue ∷ before)) reply now.1
    ]

-- the point of a read lies between its invocation and its return
pub point-timely : (p : Params) (t : List Deed) → IsTrace p t → (c o : ℕ) (s : Start) (r : Return) → start_of c o t ≡ Some s → s.action ≡ asked.Get (key_of s.action) → return_of p c o t ≡ Some r → (length s.before < version_made c o t) × (version_made c o t ≤ r.at)
unfolding replied
point-timely p t trace c o s r began action returned =
    let h = return-reply p c o t r trace returned in
    let replies : read_reply (inputs_of c o t) ≡ Some r.reply = sym (ap (λ (a : Action). replied p.f p.k c o a (inputs_of c o t)) (ap (λ (x : Start). x.action) (start-same c o t h.start s h.began began) ∙ action)) ∙ h.replies in
    let v = read-version (inputs_of c o t) r.reply replies in
    (version-late p c o t trace s began v.0 v.1, version-returned p c o t r trace returned)
