-- The deed of each step: which one begins an operation, tells it the record, serves its update, or lets it return.
use Rattle.std.proofs.Common.{◌≡◌, ℕ, ◌+◌, ◌≤◌, ◌<◌, true, false, List, [], ◌∷◌, length, map, Option, Some, None, refl, sym, ap, subst, ◌∙◌, inl, inr, arith}
use Rattle.std.specs.Prelude.{◌⊎◌, ◌&&◌, ◌==◌, if◌then◌else◌}
use Rattle.std.specs.List.{AllByRecursion}
use Rattle.std.specs.Option.{option_map}
use Rattle.std.proofs.lemmas.Option.{none-some, same_Some, cond_some}
use Rattle.std.proofs.lemmas.Bool.{eqb-true, eq-eqb}
use Rattle.std.proofs.lemmas.Bool.Decides.{nat_tests}
use Rattle.hy_record.specs.declared.action.Reply.{Reply}
use Rattle.hy_record.specs.declared.message.MetaAsk.{MetaAsk}
use Rattle.hy_record.specs.declared.message.MetaAsk.TheVariants as asks
use Rattle.hy_record.specs.declared.message.MetaSay.TheVariants as says
use Rattle.hy_record.specs.declared.turn.Cue.{Cue}
use Rattle.hy_record.specs.declared.turn.Out.{Out}
use Rattle.hy_record.specs.declared.turn.Out.TheVariants as outs
use Rattle.hy_record.specs.Record.{RecordValue}
use Rattle.hy_record.specs.Stamp.{Timestamp, stamp_lt}
use Rattle.hy_meta.specs.declared.watcher.Watcher.{Watcher}
use Rattle.hy_meta.specs.Service.{Attempt, is_judged, applies, record_after, record_stamp}
use Rattle.hy_meta.specs.Meta.{judged_answer, Judged, last_swap, repeated_answer, fired_by, service_answers}
use Rattle.hy_meta.specs.Watches.{fired, fired_watches}
use Rattle.hy_meta.proofs.Rising.{cases_bool, both}
use Rattle.hy_protocol.specs.Operations.{key_of, sends_of, replied}
use Rattle.hy_protocol.specs.Read.{Version, version_of}
use Rattle.hy_trace.specs.Deeds.{Params, Deed, Joined, Began, Handed, Served, Granted, Stopped, Nothing, Start, served, inputs_of, start_of, start_at, reply_of}
use Rattle.hy_trace.specs.History.{Return, return_of}
use Rattle.hy_trace.specs.Messages.{Message, Ask, Say, Request, Answer, message_of, sent_at, sent_after, IsSent, IsSentAt}
use Rattle.hy_trace.specs.Points.{Update, update_at, passing, first_update, is_own, version_made}
use Rattle.hy_trace.specs.Trace.{Fits, IsTrace}
use Rattle.hy_trace.proofs.Growth.{or-cases, all-among, start-keeps}
use Rattle.hy_trace.proofs.Steps.{has-replied, replied-has}
use Rattle.hy_theorems.proofs.Invariant.{begins-empty, trace-holds}
use Rattle.hy_theorems.proofs.Meaning.{IsBegun, ask_with}
use Rattle.hy_theorems.proofs.ReadPoints.{has-at}
use Rattle.hy_theorems.proofs.RealTime.{returned-within, return-reply}
use Rattle.hy_theorems.proofs.TopAt.{first-served, serves-or-not}
use Rattle.hy_theorems.proofs.Writes.{all-mapped}
use Rattle.hy_log.proofs.Coursing.{never-replied, no-reply}
use Rattle.hy_log.proofs.FirstMade.{tried-by, passes-own, version-sent}

-- the deed of the step
unfoldable pub deed_at : List Deed → ℕ → Option Deed
deed_at [] n = None
deed_at (d ∷ t) n = if n == length t + 1 then Some d else deed_at t n

pub deed-here : (d : Deed) (t : List Deed) (n : ℕ) → n ≡ length t + 1 → deed_at (d ∷ t) n ≡ Some d
unfolding deed_at
deed-here d t n at = (let test : (n == length t + 1) ≡ true = eq-eqb n (length t + 1) at in rw test refl)

pub deed-earlier : (d : Deed) (t : List Deed) (n : ℕ) → n ≤ length t → deed_at (d ∷ t) n ≡ deed_at t n
unfolding deed_at
deed-earlier d t n le = (let test : (n == length t + 1) ≡ false = grind (arith, nat_tests) in rw test refl)

-- ---- answers that tell the record

abbrev AnswersRead : Deed → Message → Type 0
AnswersRead d (Say (says.Has c o k r)) = d ≡ Served (asks.Read c o k)
AnswersRead d (Say (says.Applied c o k s)) = Unit {0}
AnswersRead d (Say (says.Kept c o k s)) = Unit {0}
AnswersRead d (Say (says.Fired c o k s)) = Unit {0}
AnswersRead d (Say (says.OldList c o k ss)) = Unit {0}
AnswersRead d (Say (says.Forgot c o k)) = Unit {0}
AnswersRead d (Say (says.Swapped c o k s)) = Unit {0}
AnswersRead d (Say (says.Changed c o k s)) = Unit {0}
AnswersRead d (Ask ask) = Unit {0}
AnswersRead d (Request ask) = Unit {0}
AnswersRead d (Answer reply) = Unit {0}

out-answers : (d : Deed) (out : Out) → AnswersRead d (message_of out)
out-answers d (outs.Meta ask) = tt
out-answers d (outs.Cloud ask) = tt

fired-answers : (d : Deed) (ws : List Watcher) → AllByRecursion (AnswersRead d) (map Say (map fired ws))
fired-answers d [] = tt
fired-answers d (w ∷ ws) = (tt, fired-answers d ws)

judged-answers : (d : Deed) (requests : List MetaAsk) (a : Attempt) → AnswersRead d (Say (judged_answer requests a))
unfolding judged_answer
judged-answers d requests a = elim (cases_bool (applies (record_after requests a.key) a)) [ inl applied ↦ rw applied tt | inr refused ↦ rw refused tt ]

fired-by-answers : (d : Deed) (requests : List MetaAsk) (a : Attempt) → AllByRecursion (AnswersRead d) (map Say (fired_by requests a))
fired-by-answers d requests a =
    elim (cases_bool (applies (record_after requests a.key) a)) [
      | inl applied ↦ rw applied (fired-answers d (fired_watches requests a.key a.rec.stamp))
      | inr refused ↦ rw refused tt
    ]

-- what the last swap of a client was answered that was judged
last-answers : (d : Deed) (requests : List MetaAsk) (client : ℕ) (j : Judged) → last_swap requests client ≡ Some j → AnswersRead d (Say j.say)
unfolding last_swap
last-answers d [] client j is = absurd (none-some j is)
last-answers d (asks.Read c o k ∷ before) client j is = last-answers d before client j is
last-answers d (asks.Update c o k r ∷ before) client j is = last-answers d before client j is
last-answers d (asks.Watch c o k s ∷ before) client j is = last-answers d before client j is
last-answers d (asks.Olds c o k ∷ before) client j is = last-answers d before client j is
last-answers d (asks.Forget c o k ss ∷ before) client j is = last-answers d before client j is
last-answers d (asks.Swap c o k e r ∷ before) client j is =
    elim (cases_bool (c == client && is_judged before c o)) [
      | inr other ↦ last-answers d before client j (rw other at is)
      | inl last ↦ subst (λ (x : Judged). AnswersRead d (Say x.say)) (same_Some _ j (rw last at is)) (judged-answers d before (record { client = c; op = o; key = k; rec = r; expected = Some e }))
    ]

repeat-answers : (d : Deed) (requests : List MetaAsk) (client op : ℕ) (last : Option Judged) → last_swap requests client ≡ last → AllByRecursion (AnswersRead d) (map Say (repeated_answer last op))
repeat-answers d requests client op None is = tt
repeat-answers d requests client op (Some j) is = elim (cases_bool (j.op == op)) [ inl same ↦ rw same (last-answers d requests client j is, tt) | inr other ↦ rw other tt ]

service-answers : (t : List Deed) (ask : MetaAsk) → AllByRecursion (AnswersRead (Served ask)) (map Say (service_answers (served t) ask))
unfolding service_answers
service-answers t (asks.Read c o k) = (refl, tt)
service-answers t (asks.Update c o k r) =
    elim (cases_bool (stamp_lt (record_stamp (served t) k) r.stamp)) [
      | inl above ↦ rw above (tt, fired-answers (Served (asks.Update c o k r)) (fired_watches (served t) k r.stamp))
      | inr not_above ↦ rw not_above (tt, tt)
    ]
service-answers t (asks.Watch c o k s) =
    elim (cases_bool (stamp_lt s (record_stamp (served t) k))) [
      | inl due ↦ rw due (tt, tt)
      | inr waits ↦ rw waits tt
    ]
service-answers t (asks.Swap c o k e r) =
    let a : Attempt = record { client = c; op = o; key = k; rec = r; expected = Some e } in
    elim (cases_bool (is_judged (served t) c o)) [
      | inl judged ↦ rw judged (judged-answers (Served (asks.Swap c o k e r)) (served t) a, fired-by-answers (Served (asks.Swap c o k e r)) (served t) a)
      | inr repeated ↦ rw repeated (repeat-answers (Served (asks.Swap c o k e r)) (served t) c o (last_swap (served t) c) refl)
    ]
service-answers t (asks.Olds c o k) = (tt, tt)
service-answers t (asks.Forget c o k ss) = (tt, tt)

deed-answers : (p : Params) (d : Deed) (t : List Deed) → AllByRecursion (AnswersRead d) (sent_at p d t)
unfolding sent_at
deed-answers p Joined t = tt
deed-answers p (Stopped c) t = tt
deed-answers p Nothing t = tt
deed-answers p (Granted ask) t = (tt, tt)
deed-answers p (Served ask) t = service-answers t ask
deed-answers p (Began c o a) t = all-mapped (AnswersRead (Began c o a)) message_of (sends_of p.f p.k c o a []) (out-answers (Began c o a))
deed-answers p (Handed c o made cue) t = by_start (start_of c o t)
  where
    by_start : (s : Option Start) → AllByRecursion (AnswersRead (Handed c o made cue)) (sent_after p c o (cue ∷ inputs_of c o t) s)
    by_start None = tt
    by_start (Some s) = all-mapped (AnswersRead (Handed c o made cue)) message_of (sends_of p.f p.k c o s.action (cue ∷ inputs_of c o t)) (out-answers (Handed c o made cue))

-- an answer that tells the record was made where the request for it was served
pub read-deed : (p : Params) (t : List Deed) (w c o : ℕ) (k : List ℕ) (r : Option RecordValue) → IsSentAt p t w (Say (says.Has c o k r)) → deed_at t w ≡ Some (Served (asks.Read c o k))
unfolding IsSentAt
read-deed p [] w c o k r sent = absurd sent
read-deed p (d ∷ t) w c o k r (inl now) = deed-here d t w now.0 ∙ ap Some (all-among (AnswersRead d) (sent_at p d t) (Say (says.Has c o k r)) (deed-answers p d t) now.1)
read-deed p (d ∷ t) w c o k r (inr was) = deed-earlier d t w (has-at p t w c o k r was).within ∙ read-deed p t w c o k r was

-- ---- beginnings, updates, returns

starts-here : (c o : ℕ) (d : Deed) (t : List Deed) (s : Start) → start_at c o d t ≡ Some s → (d ≡ Began c o s.action) × (s.before ≡ t)
starts-here c o (Began b n a) t s is =
    let parts = cond_some (b == c && n == o) (record { action = a; before = t }) s is in
    let own = both (b == c) (n == o) parts.0 in (
      ap (λ (x : ℕ). Began x n a) (eqb-true b c own.0) ∙ (ap (λ (x : ℕ). Began c x a) (eqb-true n o own.1) ∙ ap (λ (x : Start). Began c o x.action) parts.1),
      sym (ap (λ (x : Start). x.before) parts.1),
    )
starts-here c o Joined t s is = absurd (none-some s is)
starts-here c o (Handed b n w cue) t s is = absurd (none-some s is)
starts-here c o (Served ask) t s is = absurd (none-some s is)
starts-here c o (Granted ask) t s is = absurd (none-some s is)
starts-here c o (Stopped b) t s is = absurd (none-some s is)
starts-here c o Nothing t s is = absurd (none-some s is)

pub begin-deed : (c o : ℕ) (t : List Deed) (s : Start) → start_of c o t ≡ Some s → (deed_at t (length s.before + 1) ≡ Some (Began c o s.action)) × (length s.before + 1 ≤ length t)
unfolding start_of
begin-deed c o [] s is = absurd (none-some s is)
begin-deed c o (d ∷ t) s is =
    elim (or-cases (start_of c o t) (start_at c o d t) s is) [
      | inl was ↦ (let before = begin-deed c o t s was in let le = before.1 in (deed-earlier d t (length s.before + 1) le ∙ before.0, omega (arith, le)))
      | inr now ↦
          let here = starts-here c o d t s now.1 in
          let count = ap (λ (x : List Deed). length x) here.1 in
          (deed-here d t (length s.before + 1) (omega (arith, count)) ∙ ap Some here.0, omega (arith, count))
    ]

-- an update is served at its step, or a swap is judged there
pub record IsTriedAt (c o : ℕ) (t : List Deed) (step : ℕ) : Type 0 where
  pub attempt : Attempt
  pub client : attempt.client ≡ c
  pub op : attempt.op ≡ o
  pub deed : deed_at t step ≡ Some (Served (ask_with attempt attempt.expected))

pub update-deed : (c o : ℕ) (t : List Deed) (u : Update) → first_update (is_own c o) t ≡ Some u → IsTriedAt c o t u.step
unfolding first_update
update-deed c o [] u is = absurd (none-some u is)
update-deed c o (d ∷ t) u is =
    elim (or-cases (first_update (is_own c o) t) (passing (is_own c o) (update_at d t)) u is) [
      | inl was ↦ (let before = update-deed c o t u was in record { attempt = before.attempt; client = before.client; op = before.op; deed = deed-earlier d t u.step (first-served (is_own c o) t u was).0.within ∙ before.deed })
      | inr now ↦ (let own = passes-own c o (update_at d t) u now.1 in elim (serves-or-not d t) [
        | inr quiet ↦ absurd (none-some u (sym quiet.1 ∙ own.0))
        | inl serves ↦
            let x = tried-by c o serves.0 t u (ap (λ (y : Deed). update_at y t) (sym serves.1) ∙ own.0) own.1 in
            record { attempt = x.attempt; client = x.client; op = x.op; deed = deed-here d t u.step x.step ∙ ap Some (serves.1 ∙ ap Served x.ask_is) }
      ])
    ]

-- a request for the record is served after its operation began
pub read-late : (p : Params) (t : List Deed) (w c o : ℕ) (k : List ℕ) → IsTrace p t → deed_at t w ≡ Some (Served (asks.Read c o k)) → (s : Start) × (start_of c o t ≡ Some s) × (length s.before + 1 < w)
unfolding deed_at IsTrace
read-late p [] w c o k trace is = absurd (none-some (Served (asks.Read c o k)) is)
read-late p (d ∷ t) w c o k trace is =
    elim (cases_bool (w == length t + 1)) [
      | inl here ↦
          let at : w ≡ length t + 1 = eqb-true w (length t + 1) here in
          let same : d ≡ Served (asks.Read c o k) = same_Some d (Served (asks.Read c o k)) (rw here at is) in
          let sent : IsSent p t (Ask (asks.Read c o k)) = subst (Fits p t) same trace.0 in
          let meant : IsBegun c o k t = (trace-holds p t trace.1).said (Ask (asks.Read c o k)) sent in
          let le = (begin-deed c o t meant.start meant.began).1 in
          (meant.start, start-keeps c o d t meant.start meant.began, omega (arith, at, le))
      | inr earlier ↦ (let before = read-late p t w c o k trace.1 (rw earlier at is) in (before.0, start-keeps c o d t before.0 before.1, before.2))
    ]

-- an operation has no input more, or is handed one
handed-or : (c o : ℕ) (d : Deed) (t : List Deed) → (inputs_of c o (d ∷ t) ≡ inputs_of c o t) ⊎ ((w : ℕ) × (cue : Cue) × (d ≡ Handed c o w cue))
unfolding inputs_of
handed-or c o Joined t = inl refl
handed-or c o (Began b n a) t = inl refl
handed-or c o (Served ask) t = inl refl
handed-or c o (Granted ask) t = inl refl
handed-or c o (Stopped b) t = inl refl
handed-or c o Nothing t = inl refl
handed-or c o (Handed b n w cue) t =
    elim (cases_bool ((b == c) && (n == o))) [
      | inl own ↦ (let tests = both (b == c) (n == o) own in inr (w, cue, ap (λ (x : ℕ). Handed x n w cue) (eqb-true b c tests.0) ∙ ap (λ (x : ℕ). Handed c x w cue) (eqb-true n o tests.1)))
      | inr other ↦ inl (rw other refl)
    ]

pub end-deed : (p : Params) (c o : ℕ) (t : List Deed) (r : Return) → IsTrace p t → return_of p c o t ≡ Some r → (w : ℕ) × (cue : Cue) × (deed_at t r.at ≡ Some (Handed c o w cue))
unfolding return_of IsTrace start_of
end-deed p c o [] r trace is = absurd (none-some r is)
end-deed p c o (d ∷ t) r trace is =
    elim (or-cases (return_of p c o t) (option_map (λ reply. record { at = length t + 1; reply = reply }) (reply_of p c o (d ∷ t))) r is) [
      | inl was ↦ (let before = end-deed p c o t r trace.1 was in (before.0, before.1, deed-earlier d t r.at (returned-within p c o t r was) ∙ before.2))
      | inr now ↦ by_reply now.0 (reply_of p c o (d ∷ t)) refl now.1
    ]
  where
    never : return_of p c o t ≡ None → (reply : Reply) → reply_of p c o (d ∷ t) ≡ Some reply → inputs_of c o (d ∷ t) ≡ inputs_of c o t → ⊥
    never none reply reply_is same =
        (let h = has-replied p c o (d ∷ t) reply reply_is in
        elim (or-cases (start_of c o t) (start_at c o d t) h.start h.began) [
          | inl was ↦ none-some reply (sym (never-replied p c o t none) ∙ replied-has p c o t reply (record { start = h.start; began = was; replies = ap (replied p.f p.k c o h.start.action) (sym same) ∙ h.replies }))
          | inr now ↦ none-some reply (sym (no-reply p c o h.start.action) ∙ (ap (replied p.f p.k c o h.start.action) (sym (begins-empty p c o d t h.start trace.0 now.1)) ∙ h.replies))
        ])

    by_reply : return_of p c o t ≡ None → (q : Option Reply) → reply_of p c o (d ∷ t) ≡ q → option_map (λ reply. record { at = length t + 1; reply = reply }) q ≡ Some r → (w : ℕ) × (cue : Cue) × (deed_at (d ∷ t) r.at ≡ Some (Handed c o w cue))
    by_reply none None reply_is e = absurd (none-some r e)
    by_reply none (Some reply) reply_is e =
        (let at = ap (λ (x : Return). x.at) (same_Some (record { at = length t + 1; reply = reply }) r e) in
        elim (handed-or c o d t) [
          | inr handed ↦ (handed.0, handed.1, deed-here d t r.at (sym at) ∙ ap Some handed.2)
          | inl same ↦ absurd (never none reply reply_is same)
        ])

-- an operation returns after it began
pub return-late : (p : Params) (c o : ℕ) (t : List Deed) (r : Return) (s : Start) → IsTrace p t → return_of p c o t ≡ Some r → start_of c o t ≡ Some s → length s.before + 1 ≤ r.at
unfolding return_of IsTrace
return-late p c o [] r s trace is began = absurd (none-some r is)
return-late p c o (d ∷ t) r s trace is began =
    elim (or-cases (return_of p c o t) (option_map (λ reply. record { at = length t + 1; reply = reply }) (reply_of p c o (d ∷ t))) r is) [
      | inl was ↦
          let h = return-reply p c o t r trace.1 was in
          let same : h.start ≡ s = same_Some h.start s (sym (start-keeps c o d t h.start h.began) ∙ began) in
          subst (λ (x : Start). length x.before + 1 ≤ r.at) same (return-late p c o t r h.start trace.1 was h.began)
      | inr now ↦ by_reply (reply_of p c o (d ∷ t)) now.1
    ]
  where
    by_reply : (q : Option Reply) → option_map (λ reply. record { at = length t + 1; reply = reply }) q ≡ Some r → length s.before + 1 ≤ r.at
    by_reply None e = absurd (none-some r e)
    by_reply (Some reply) e = (let at = ap (λ (x : Return). x.at) (same_Some (record { at = length t + 1; reply = reply }) r e) in let le = (begin-deed c o (d ∷ t) s began).1 in omega (arith, at, le))

-- ---- whose request is served at a step

abbrev pub asker_of : MetaAsk → ℕ × ℕ
asker_of (asks.Read c o k) = (c, o)
asker_of (asks.Update c o k r) = (c, o)
asker_of (asks.Watch c o k s) = (c, o)
asker_of (asks.Olds c o k) = (c, o)
asker_of (asks.Forget c o k ss) = (c, o)
asker_of (asks.Swap c o k e r) = (c, o)

-- a request of the operation is served at the step
pub record AsksAt (t : List Deed) (step c o : ℕ) : Type 0 where
  pub ask : MetaAsk
  pub deed : deed_at t step ≡ Some (Served ask)
  pub asker : asker_of ask ≡ (c, o)

pub asks-once : (t : List Deed) (n m c o b k : ℕ) → AsksAt t n c o → AsksAt t m b k → n ≡ m → (c ≡ b) × (o ≡ k)
asks-once t n m c o b k first second same =
    let deed : Served first.ask ≡ Served second.ask = same_Some (Served first.ask) (Served second.ask) (sym first.deed ∙ (ap (deed_at t) same ∙ second.deed)) in
    let one : (c, o) ≡ (b, k) = sym first.asker ∙ (ap (asker_or first.ask) deed ∙ second.asker) in
    (ap (λ (x : ℕ × ℕ). x.0) one, ap (λ (x : ℕ × ℕ). x.1) one)
  where
    asker_or : MetaAsk → Deed → ℕ × ℕ
    asker_or other (Served ask) = asker_of ask
    asker_or other Joined = asker_of other
    asker_or other (Began b n a) = asker_of other
    asker_or other (Handed b n w cue) = asker_of other
    asker_or other (Granted ask) = asker_of other
    asker_or other (Stopped b) = asker_of other
    asker_or other Nothing = asker_of other

tried-asker : (a : Attempt) (e : Option Timestamp) → asker_of (ask_with a e) ≡ (a.client, a.op)
tried-asker a None = refl
tried-asker a (Some e) = refl

pub update-asks : (c o : ℕ) (t : List Deed) (u : Update) → first_update (is_own c o) t ≡ Some u → AsksAt t u.step c o
update-asks c o t u first =
    let x = update-deed c o t u first in
    record { ask = ask_with x.attempt x.attempt.expected; deed = x.deed; asker = tried-asker x.attempt x.attempt.expected ∙ (ap (λ (b : ℕ). (b, x.attempt.op)) x.client ∙ ap (λ (n : ℕ). (c, n)) x.op) }

pub version-asks : (p : Params) (c o : ℕ) (t : List Deed) → IsTrace p t → (s : Start) → start_of c o t ≡ Some s → (v : Version) → version_of (inputs_of c o t) ≡ Some v → AsksAt t (version_made c o t) c o
version-asks p c o t trace s began v is =
    record { ask = asks.Read c o (key_of s.action); deed = read-deed p t (version_made c o t) c o (key_of s.action) v.rec (version-sent p c o t trace s began v is); asker = refl }
