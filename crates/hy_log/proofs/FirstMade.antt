-- Where the answer was made that told an operation the record first, and that it wrote later.
use Rattle.std.proofs.Common.{◌≡◌, ℕ, ◌+◌, ◌≤◌, ◌<◌, true, List, [], ◌∷◌, length, Option, Some, None, refl, sym, ap, subst, ◌∙◌, inl, inr, arith}
use Rattle.std.specs.Prelude.{◌⊎◌, ◌&&◌, ◌==◌}
use Rattle.std.specs.Option.{option_map}
use Rattle.std.proofs.lemmas.Option.{none-some, same_Some}
use Rattle.std.proofs.lemmas.Bool.{eqb-true}
use Rattle.hy_record.specs.declared.action.Action.{Action}
use Rattle.hy_record.specs.declared.action.Reply.{Reply}
use Rattle.hy_record.specs.declared.action.Reply.TheVariants as told
use Rattle.hy_record.specs.declared.message.MetaAsk.{MetaAsk}
use Rattle.hy_record.specs.declared.message.MetaSay.TheVariants as says
use Rattle.hy_record.specs.declared.turn.Cue.{Cue}
use Rattle.hy_record.specs.Record.{RecordValue}
use Rattle.hy_record.specs.Stamp.{Timestamp, stamp_lt}
use Rattle.hy_meta.specs.Service.{Attempt, attempt_of, stamp_of_record}
use Rattle.hy_meta.proofs.Rising.{cases_bool, both}
use Rattle.hy_protocol.specs.declared.plan.PutPlan.{PutPlan}
use Rattle.hy_protocol.specs.Inputs.{has_of}
use Rattle.hy_protocol.specs.Operations.{key_of, write_plan, replied}
use Rattle.hy_protocol.specs.Read.{Version, version_of, newer_version}
use Rattle.hy_protocol.specs.Write.{first_has, own_stamp, write_reply}
use Rattle.hy_trace.specs.Deeds.{Params, Deed, Joined, Began, Handed, Served, Granted, Stopped, Nothing, Start, served, inputs_of, start_of, reply_of}
use Rattle.hy_trace.specs.History.{Return, return_of}
use Rattle.hy_trace.specs.Messages.{Ask, Say, IsSent, IsSentAt}
use Rattle.hy_trace.specs.Order.{is_done}
use Rattle.hy_trace.specs.Points.{Update, update_by, update_at, passing, first_update, is_own, newer_made, version_made}
use Rattle.hy_trace.specs.Trace.{Awaits, Fits, IsMade, IsTrace}
use Rattle.hy_trace.proofs.Growth.{or-first, or-second, or-cases, start-keeps, start-same, inputs-step}
use Rattle.hy_trace.proofs.Heard.{has-told, inputs-heard, said-answer}
use Rattle.hy_trace.proofs.Steps.{has-replied}
use Rattle.hy_theorems.specs.Writing.{Change, Puts, Deletes, Swaps, change_value, change_expected, change_action}
use Rattle.hy_theorems.proofs.Apart.{own-has, change_reply, replied-write}
use Rattle.hy_theorems.proofs.Invariant.{attempt-means, trace-holds}
use Rattle.hy_theorems.proofs.Marks.{write-done}
use Rattle.hy_theorems.proofs.Meaning.{IsUpdating, IsUpdated, ask_with, attempt-ask}
use Rattle.hy_theorems.proofs.Points.{made-has, made-step, version-before}
use Rattle.hy_theorems.proofs.ReadPoints.{has-at}
use Rattle.hy_theorems.proofs.RealTime.{return-reply}
use Rattle.hy_theorems.proofs.Replies.{done-heard}
use Rattle.hy_theorems.proofs.TopAt.{mapped-is, serves-or-not, first-served, first-keeps, tried-first}
use Rattle.hy_theorems.proofs.Writes.{update-own}
use Rattle.hy_log.specs.Courses.{earlier_made, first_made}

-- an operation has one input more
record TakesInput (p : Params) (c o : ℕ) (d : Deed) (t : List Deed) : Type 0 where
  made : ℕ
  cue : Cue
  awaits : Awaits p c o cue t
  is_made : IsMade p t made cue
  inputs : inputs_of c o (d ∷ t) ≡ cue ∷ inputs_of c o t
  first : first_made c o (d ∷ t) ≡ earlier_made (first_has (inputs_of c o t)) (has_of cue) made (first_made c o t)

first-step : (p : Params) (c o : ℕ) (d : Deed) (t : List Deed) → Fits p t d → ((inputs_of c o (d ∷ t) ≡ inputs_of c o t) × (first_made c o (d ∷ t) ≡ first_made c o t)) ⊎ TakesInput p c o d t
unfolding inputs_of first_made
first-step p c o Joined t fits = inl (refl, refl)
first-step p c o (Began b n a) t fits = inl (refl, refl)
first-step p c o (Served ask) t fits = inl (refl, refl)
first-step p c o (Granted ask) t fits = inl (refl, refl)
first-step p c o (Stopped b) t fits = inl (refl, refl)
first-step p c o Nothing t fits = inl (refl, refl)
first-step p c o (Handed b n w cue) t fits =
    elim (cases_bool ((b == c) && (n == o))) [
      | inl own ↦
          let tests = both (b == c) (n == o) own in
          inr (record {
            made = w;
            cue = cue;
            awaits = subst (λ (x : ℕ). Awaits p x o cue t) (eqb-true b c tests.0) (subst (λ (y : ℕ). Awaits p b y cue t) (eqb-true n o tests.1) fits.0);
            is_made = fits.1;
            inputs = rw own refl;
            first = rw own refl;
          })
      | inr other ↦ inl (rw other refl, rw other refl)
    ]

-- what an operation was told first stays
pub first-kept : (p : Params) (c o : ℕ) (d : Deed) (t : List Deed) (r : Option RecordValue) → Fits p t d → first_has (inputs_of c o t) ≡ Some r → (first_has (inputs_of c o (d ∷ t)) ≡ Some r) × (first_made c o (d ∷ t) ≡ first_made c o t)
unfolding first_has
first-kept p c o d t r fits is =
    elim (first-step p c o d t fits) [
      | inl same ↦ (ap first_has same.0 ∙ is, same.1)
      | inr one ↦ (
        ap first_has one.inputs ∙ or-first (first_has (inputs_of c o t)) (has_of one.cue) r is,
        one.first ∙ ap (λ (h : Option (Option RecordValue)). earlier_made h (has_of one.cue) one.made (first_made c o t)) is,
      )
    ]

none-told : (c o : ℕ) (r : Option RecordValue) → first_has (inputs_of c o []) ≡ Some r → ⊥
unfolding inputs_of first_has
none-told c o r is = none-some r is

none-made : (c o : ℕ) → first_made c o [] ≡ 0
unfolding first_made
none-made c o = refl

early : (h has : Option (Option RecordValue)) (w old n : ℕ) → ((r : Option RecordValue) → has ≡ Some r → w ≤ n) → old ≤ n → earlier_made h has w old ≤ n
early (Some q) has w old n low le = le
early None None w old n low le = le
early None (Some r) w old n low le = low r refl

-- it was made before the last deed
pub first-before : (p : Params) (c o : ℕ) (d : Deed) (t : List Deed) → IsTrace p (d ∷ t) → first_made c o t ≤ length t → first_made c o (d ∷ t) ≤ length t
unfolding IsTrace
first-before p c o d t trace within =
    elim (first-step p c o d t trace.0) [
      | inl same ↦ (let e = same.1 in omega (arith, e, within))
      | inr one ↦ rw one.first (early (first_has (inputs_of c o t)) (has_of one.cue) one.made (first_made c o t) (length t)
          (λ r tells. (has-at p t one.made c o (key_of one.awaits.start.action) r (made-has p t one.made c o (key_of one.awaits.start.action) one.cue r tells one.awaits.own one.is_made)).within) within)
    ]

pub first-within : (p : Params) (c o : ℕ) (t : List Deed) → IsTrace p t → first_made c o t ≤ length t
unfolding IsTrace
first-within p c o [] trace = (let e = none-made c o in omega (arith, e))
first-within p c o (d ∷ t) trace = (let le = first-before p c o d t trace (first-within p c o t trace.1) in omega (arith, le))

-- the answer that told it so was made there
pub first-sent : (p : Params) (c o : ℕ) (t : List Deed) → IsTrace p t → (s : Start) → start_of c o t ≡ Some s → (r : Option RecordValue) → first_has (inputs_of c o t) ≡ Some r → IsSentAt p t (first_made c o t) (Say (says.Has c o (key_of s.action) r))
unfolding IsTrace first_has IsSentAt
first-sent p c o [] trace s began r is = absurd (none-told c o r is)
first-sent p c o (d ∷ t) trace s began r is = by_told (first_has (inputs_of c o t)) refl (λ u began_ q was. first-sent p c o t trace.1 u began_ q was)
  where
    by_told : (h : Option (Option RecordValue)) → first_has (inputs_of c o t) ≡ h → ((u : Start) → start_of c o t ≡ Some u → (q : Option RecordValue) → first_has (inputs_of c o t) ≡ Some q → IsSentAt p t (first_made c o t) (Say (says.Has c o (key_of u.action) q)))
        → IsSentAt p (d ∷ t) (first_made c o (d ∷ t)) (Say (says.Has c o (key_of s.action) r))
    by_told (Some q) was earlier =
        (let told_ = has-told (inputs_of c o t) q was in
        let h = inputs-heard p c o told_.cue t trace.1 told_.input in
        let kept = first-kept p c o d t q trace.0 was in
        let start_is : h.start ≡ s = same_Some h.start s (sym (start-keeps c o d t h.start h.began) ∙ began) in
        let record_is : q ≡ r = same_Some q r (sym kept.0 ∙ is) in
        rw kept.1 (inr (subst (λ (x : Start). IsSentAt p t (first_made c o t) (Say (says.Has c o (key_of x.action) r))) start_is
        (subst (λ (x : Option RecordValue). IsSentAt p t (first_made c o t) (Say (says.Has c o (key_of h.start.action) x))) record_is (earlier h.start h.began q was)))))
    by_told None none earlier =
        elim (first-step p c o d t trace.0) [
          | inl same ↦ absurd (none-some r (sym none ∙ (ap first_has (sym same.0) ∙ is)))
          | inr one ↦
              let tells : has_of one.cue ≡ Some r = or-second (first_has (inputs_of c o t)) (has_of one.cue) r none (ap first_has (sym one.inputs) ∙ is) in
              let start_is : one.awaits.start ≡ s = same_Some one.awaits.start s (sym (start-keeps c o d t one.awaits.start one.awaits.began) ∙ began) in
              let sent = made-has p t one.made c o (key_of one.awaits.start.action) one.cue r tells one.awaits.own one.is_made in
              let made : first_made c o (d ∷ t) ≡ one.made = one.first ∙ (ap (λ (h : Option (Option RecordValue)). earlier_made h (has_of one.cue) one.made (first_made c o t)) none ∙ ap (λ (h : Option (Option RecordValue)). earlier_made None h one.made (first_made c o t)) tells) in
              rw made (inr (subst (λ (x : Start). IsSentAt p t one.made (Say (says.Has c o (key_of x.action) r))) start_is sent))
        ]

-- an update was served after the operation was told the record
pub record IsToldBefore (t : List Deed) (c o step : ℕ) : Type 0 where
  pub held : Option RecordValue
  pub told_ : first_has (inputs_of c o t) ≡ Some held
  pub sooner : first_made c o t < step

-- an update that is served is that of an attempt
pub record IsTriedBy (c o : ℕ) (ask : MetaAsk) (t : List Deed) (u : Update) : Type 0 where
  pub attempt : Attempt
  pub tried : attempt_of (served t) ask ≡ Some attempt
  pub ask_is : ask ≡ ask_with attempt attempt.expected
  pub client : attempt.client ≡ c
  pub op : attempt.op ≡ o
  pub step : u.step ≡ length t + 1

pub tried-by : (c o : ℕ) (ask : MetaAsk) (t : List Deed) (u : Update) → update_by ask t ≡ Some u → is_own c o u ≡ true → IsTriedBy c o ask t u
tried-by c o ask t u is own =
    let x = mapped-is t (attempt_of (served t) ask) u is in
    let parts = both (u.client == c) (u.op == o) own in
    record {
      attempt = x.0;
      tried = x.1;
      ask_is = attempt-ask (served t) ask x.0 x.1;
      client = ap (λ (v : Update). v.client) x.2 ∙ eqb-true u.client c parts.0;
      op = ap (λ (v : Update). v.op) x.2 ∙ eqb-true u.op o parts.1;
      step = sym (ap (λ (v : Update). v.step) x.2);
    }

pub passes-own : (c o : ℕ) (v : Option Update) (u : Update) → passing (is_own c o) v ≡ Some u → (v ≡ Some u) × (is_own c o u ≡ true)
passes-own c o None u is = absurd (none-some u is)
passes-own c o (Some v) u is =
    elim (cases_bool (is_own c o v)) [
      | inl own ↦ (let same = rw own at is in (same, ap (is_own c o) (sym (same_Some v u same)) ∙ own))
      | inr other ↦ absurd (none-some u (rw other at is))
    ]

pub told-before : (p : Params) (c o : ℕ) (t : List Deed) → IsTrace p t → (u : Update) → first_update (is_own c o) t ≡ Some u → IsToldBefore t c o u.step
unfolding IsTrace first_update
told-before p c o [] trace u is = absurd (none-some u is)
told-before p c o (d ∷ t) trace u is =
    elim (or-cases (first_update (is_own c o) t) (passing (is_own c o) (update_at d t)) u is) [
      | inl was ↦ later (told-before p c o t trace.1 u was)
      | inr now ↦ (let own = passes-own c o (update_at d t) u now.1 in elim (serves-or-not d t) [
        | inr quiet ↦ absurd (none-some u (sym quiet.1 ∙ own.0))
        | inl serves ↦ served_now serves.0 serves.1 own.0 own.1
      ])
    ]
  where
    later : {n : ℕ} → IsToldBefore t c o n → IsToldBefore (d ∷ t) c o n
    later b = (let kept = first-kept p c o d t b.held trace.0 b.told_ in record { held = b.held; told_ = kept.0; sooner = rw kept.1 b.sooner })

    served_now : (ask : MetaAsk) → d ≡ Served ask → update_at d t ≡ Some u → is_own c o u ≡ true → IsToldBefore (d ∷ t) c o u.step
    served_now ask serves at own =
        (let x = tried-by c o ask t u (ap (λ (y : Deed). update_at y t) (sym serves) ∙ at) own in
        let a = x.attempt in
        let sent : IsSent p t (Ask (ask_with a a.expected)) = subst (λ (q : MetaAsk). IsSent p t (Ask q)) x.ask_is (subst (Fits p t) serves trace.0) in
        let meant : IsUpdating p a.client a.op a.key a.expected a.rec t = attempt-means p t a a.expected refl ((trace-holds p t trace.1).said (Ask (ask_with a a.expected)) sent) in
        let mine : IsUpdating p c o a.key a.expected a.rec t = subst (λ (b : ℕ). IsUpdating p b o a.key a.expected a.rec t) x.client (subst (λ (n : ℕ). IsUpdating p a.client n a.key a.expected a.rec t) x.op meant) in
        let plan = write_plan p.f p.k c o a.key (change_value mine.change) in
        let has = own-has plan (inputs_of c o t) a.rec.stamp (update-own plan (inputs_of c o t) a.rec mine.update) in
        let kept = first-kept p c o d t has.0 trace.0 has.1 in
        let step = x.step in
        let within = first-within p c o t trace.1 in
        record { held = has.0; told_ = kept.0; sooner = rw kept.1 (omega (arith, step, within)) })

-- it was made no later than the operation returned
pub first-returned : (p : Params) (c o : ℕ) (t : List Deed) (r : Return) → IsTrace p t → return_of p c o t ≡ Some r → first_made c o t ≤ r.at
unfolding IsTrace return_of
first-returned p c o [] r trace is = absurd (none-some r is)
first-returned p c o (d ∷ t) r trace is =
    elim (or-cases (return_of p c o t) (option_map (λ reply. record { at = length t + 1; reply = reply }) (reply_of p c o (d ∷ t))) r is) [
      | inr now ↦ by_reply (reply_of p c o (d ∷ t)) now.1
      | inl was ↦ elim (first-step p c o d t trace.0) [
        | inl same ↦ rw same.1 (first-returned p c o t r trace.1 was)
        | inr one ↦
            let h = return-reply p c o t r trace.1 was in
            let start_is = start-same c o t one.awaits.start h.start one.awaits.began h.began in
            absurd (none-some r.reply (sym one.awaits.unfinished ∙ (ap (λ (x : Start). replied p.f p.k c o x.action (inputs_of c o t)) start_is ∙ h.replies)))
      ]
    ]
  where
    by_reply : (q : Option Reply) → option_map (λ reply. record { at = length t + 1; reply = reply }) q ≡ Some r → first_made c o (d ∷ t) ≤ r.at
    by_reply None e = absurd (none-some r e)
    by_reply (Some reply) e = (let at = ap (λ (x : Return). x.at) (same_Some (record { at = length t + 1; reply = reply }) r e) in let le = first-within p c o (d ∷ t) trace in omega (arith, at, le))

-- a put or a delete replies as a write
pub free-reply : (plan : PutPlan) (change : Change) (inputs : List Cue) → change_expected change ≡ None → change_reply plan change inputs ≡ write_reply plan inputs
free-reply plan (Puts v) inputs free = refl
free-reply plan Deletes inputs free = refl
free-reply plan (Swaps e v) inputs free = absurd (none-some e (sym free))

-- where a put or a delete has a timestamp, an update of it was served before it returned
pub updated-before : (p : Params) (c o : ℕ) (t : List Deed) → IsTrace p t → (key : List ℕ) (change : Change) → change_expected change ≡ None → (s : Start) → start_of c o t ≡ Some s → s.action ≡ change_action key change
    → (x : Timestamp) → own_stamp (write_plan p.f p.k c o key (change_value change)) (inputs_of c o t) ≡ Some x → (r : Return) → return_of p c o t ≡ Some r → (u : Update) × (first_update (is_own c o) t ≡ Some u) × (u.step ≤ r.at)
unfolding IsTrace return_of
updated-before p c o [] trace key change free s began action x own r is = absurd (none-some r is)
updated-before p c o (d ∷ t) trace key change free s began action x own r is =
    elim (or-cases (return_of p c o t) (option_map (λ reply. record { at = length t + 1; reply = reply }) (reply_of p c o (d ∷ t))) r is) [
      | inl was ↦
          let h = return-reply p c o t r trace.1 was in
          let start_is : h.start ≡ s = same_Some h.start s (sym (start-keeps c o d t h.start h.began) ∙ began) in
          elim (inputs-step p c o d t trace.0) [
            | inl same ↦
                let before = updated-before p c o t trace.1 key change free h.start h.began (ap (λ (y : Start). y.action) start_is ∙ action) x (ap (own_stamp (write_plan p.f p.k c o key (change_value change))) (sym same) ∙ own) r was in
                (before.0, first-keeps (is_own c o) d t before.0 before.1, before.2)
            | inr one ↦
                let same = start-same c o t one.1.start h.start one.1.began h.began in
                absurd (none-some r.reply (sym one.1.unfinished ∙ (ap (λ (y : Start). replied p.f p.k c o y.action (inputs_of c o t)) same ∙ h.replies)))
          ]
      | inr now ↦ by_reply (reply_of p c o (d ∷ t)) refl now.1
    ]
  where
    by_reply : (q : Option Reply) → reply_of p c o (d ∷ t) ≡ q → option_map (λ reply. record { at = length t + 1; reply = reply }) q ≡ Some r → (u : Update) × (first_update (is_own c o) (d ∷ t) ≡ Some u) × (u.step ≤ r.at)
    by_reply None reply_is e = absurd (none-some r e)
    by_reply (Some reply) reply_is e =
        (let at = ap (λ (y : Return). y.at) (same_Some (record { at = length t + 1; reply = reply }) r e) in
        let plan = write_plan p.f p.k c o key (change_value change) in
        let inputs = inputs_of c o (d ∷ t) in
        let h = has-replied p c o (d ∷ t) reply reply_is in
        let start_is : h.start ≡ s = same_Some h.start s (sym h.began ∙ began) in
        let replies : write_reply plan inputs ≡ Some reply = sym (replied-write p c o key change inputs ∙ free-reply plan change inputs free) ∙ (ap (λ (a : Action). replied p.f p.k c o a inputs) (sym (ap (λ (y : Start). y.action) start_is ∙ action)) ∙ h.replies) in
        let done : told.Done x ≡ reply = write-done plan inputs x reply own replies in
        let heard = done-heard plan inputs reply replies (ap is_done (sym done)) in
        let b = inputs-heard p c o heard.0 (d ∷ t) trace heard.1 in
        let said = said-answer p (d ∷ t) c o (key_of b.start.action) heard.0 heard.2 b.own b.delivered in
        let updated : IsUpdated (d ∷ t) c o (key_of b.start.action) = elim said.1 [
          | inl applied ↦ (trace-holds p (d ∷ t) trace).said (Say (says.Applied c o (key_of b.start.action) said.0)) applied
          | inr kept ↦ (trace-holds p (d ∷ t) trace).said (Say (says.Kept c o (key_of b.start.action) said.0)) kept
        ] in
        let u = tried-first updated.0 (d ∷ t) updated.1 in
        let first : first_update (is_own c o) (d ∷ t) ≡ Some u.0 = subst (λ (n : ℕ). first_update (is_own c n) (d ∷ t) ≡ Some u.0) updated.2.1 (subst (λ (b : ℕ). first_update (is_own b updated.0.op) (d ∷ t) ≡ Some u.0) updated.2.0 u.1) in
        let within = (first-served (is_own c o) (d ∷ t) u.0 first).0.within in
        (u.0, first, omega (arith, at, within)))

-- a version after one input more is the one that the input tells, made when that was, or the one before
newest : (made : ℕ) (cue : Cue) (inputs : List Cue) (v : Version) (P : Option RecordValue → ℕ → Type 0) (old : ℕ) → version_of (cue ∷ inputs) ≡ Some v → ((r : Option RecordValue) → has_of cue ≡ Some r → P r made)
    → ((u : Version) → version_of inputs ≡ Some u → P u.rec old) → P v.rec (newer_made (version_of inputs) (has_of cue) made old)
unfolding version_of
newest made cue inputs v P old is new was = by_both (version_of inputs) (has_of cue) refl refl is
  where
    by_both : (o : Option Version) (has : Option (Option RecordValue)) → version_of inputs ≡ o → has_of cue ≡ has → newer_version o cue has ≡ Some v → P v.rec (newer_made o has made old)
    by_both None None o_is has_is e = absurd (none-some v e)
    by_both None (Some r) o_is has_is e = subst (λ (x : Version). P x.rec made) (same_Some (record { rec = r; since = [] }) v e) (new r has_is)
    by_both (Some u) None o_is has_is e = subst (λ (x : Version). P x.rec old) (same_Some (record { rec = u.rec; since = cue ∷ u.since }) v e) (was u o_is)
    by_both (Some u) (Some r) o_is has_is e =
        elim (cases_bool (stamp_lt (stamp_of_record u.rec) (stamp_of_record r))) [
          | inl above ↦ rw above (subst (λ (x : Version). P x.rec made) (same_Some (record { rec = r; since = [] }) v (rw above at e)) (new r has_is))
          | inr not_above ↦ rw not_above (subst (λ (x : Version). P x.rec old) (same_Some (record { rec = u.rec; since = cue ∷ u.since }) v (rw not_above at e)) (was u o_is))
        ]

-- where the record was told, there is a version
pub has-version : (inputs : List Cue) (held : Option RecordValue) → first_has inputs ≡ Some held → (v : Version) × (version_of inputs ≡ Some v)
unfolding first_has version_of
has-version [] held is = absurd (none-some held is)
has-version (cue ∷ inputs) held is =
    elim (or-cases (first_has inputs) (has_of cue) held is) [
      | inl was ↦ (let v = has-version inputs held was in by_version v.0 (has_of cue) (version_of inputs) v.1)
      | inr now ↦ by_has now.1 (version_of inputs)
    ]
  where
    by_version : (u : Version) (has : Option (Option RecordValue)) (o : Option Version) → o ≡ Some u → (v : Version) × (newer_version o cue has ≡ Some v)
    by_version u None None is_ = absurd (none-some u is_)
    by_version u (Some r) None is_ = (record { rec = r; since = [] }, refl)
    by_version u None (Some w) is_ = (_, refl)
    by_version u (Some r) (Some w) is_ = elim (cases_bool (stamp_lt (stamp_of_record w.rec) (stamp_of_record r))) [ inl above ↦ rw above (_, refl) | inr upto ↦ rw upto (_, refl) ]

    by_has : has_of cue ≡ Some held → (o : Option Version) → (v : Version) × (newer_version o cue (has_of cue) ≡ Some v)
    by_has tells None = (record { rec = held; since = [] }, ap (newer_version None cue) tells)
    by_has tells (Some w) = (let x = by_version w (Some held) (Some w) refl in (x.0, ap (newer_version (Some w) cue) tells ∙ x.1))

none-version : (c o : ℕ) (v : Version) → version_of (inputs_of c o []) ≡ Some v → ⊥
unfolding inputs_of version_of
none-version c o v is = none-some v is

-- the answer that gave a version was made there
pub version-sent : (p : Params) (c o : ℕ) (t : List Deed) → IsTrace p t → (s : Start) → start_of c o t ≡ Some s → (v : Version) → version_of (inputs_of c o t) ≡ Some v → IsSentAt p t (version_made c o t) (Say (says.Has c o (key_of s.action) v.rec))
unfolding IsTrace IsSentAt
version-sent p c o [] trace s began v is = absurd (none-version c o v is)
version-sent p c o (d ∷ t) trace s began v is =
    elim (made-step p c o d t trace.0) [
      | inl same ↦ rw same.1 (inr (old (λ u began_ w was. version-sent p c o t trace.1 u began_ w was) v (ap version_of (sym same.0) ∙ is)))
      | inr one ↦
          let start_is : one.awaits.start ≡ s = same_Some one.awaits.start s (sym (start-keeps c o d t one.awaits.start one.awaits.began) ∙ began) in
          rw one.version (inr
          (newest one.made one.cue (inputs_of c o t) v (λ x n. IsSentAt p t n (Say (says.Has c o (key_of s.action) x))) (version_made c o t) (ap version_of (sym one.inputs) ∙ is)
          (λ r tells. subst (λ (x : Start). IsSentAt p t one.made (Say (says.Has c o (key_of x.action) r))) start_is (made-has p t one.made c o (key_of one.awaits.start.action) one.cue r tells one.awaits.own one.is_made))
          (λ u was. old (λ x began_ w was_. version-sent p c o t trace.1 x began_ w was_) u was)))
    ]
  where
    old : ((u : Start) → start_of c o t ≡ Some u → (w : Version) → version_of (inputs_of c o t) ≡ Some w → IsSentAt p t (version_made c o t) (Say (says.Has c o (key_of u.action) w.rec))) → (w : Version) → version_of (inputs_of c o t) ≡ Some w
        → IsSentAt p t (version_made c o t) (Say (says.Has c o (key_of s.action) w.rec))
    old before w was =
        let has = version-before p c o t trace.1 w was in
        let same : has.0 ≡ s = same_Some has.0 s (sym (start-keeps c o d t has.0 has.1) ∙ began) in
        subst (λ (x : Start). IsSentAt p t (version_made c o t) (Say (says.Has c o (key_of x.action) w.rec))) same (before has.0 has.1 w was)
