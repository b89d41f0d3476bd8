-- The point of a read: the record had the timestamp that the read found.
use Rattle.std.proofs.Common.{◌≡◌, ℕ, ◌+◌, ◌≤◌, Bool, true, false, cond, List, [], ◌∷◌, length, map, Option, Some, None, refl, sym, ap, subst, ◌∙◌, inl, inr, arith}
use Rattle.std.specs.List.{AllByRecursion}
use Rattle.std.specs.Prelude.{◌&&◌, ◌==◌}
use Rattle.std.proofs.lemmas.Option.{none-some, same_Some}
use Rattle.hy_record.specs.declared.message.MetaAsk.{MetaAsk}
use Rattle.hy_record.specs.declared.message.MetaAsk.TheVariants as asks
use Rattle.hy_record.specs.declared.message.MetaSay.TheVariants as says
use Rattle.hy_record.specs.declared.action.Action.{Action}
use Rattle.hy_record.specs.declared.action.Action.TheVariants as asked
use Rattle.hy_record.specs.declared.action.Reply.{Reply}
use Rattle.hy_record.specs.Stamp.{Timestamp, stamp_lt}
use Rattle.hy_record.specs.Record.{RecordValue}
use Rattle.hy_record.specs.declared.turn.Cue.{Cue}
use Rattle.hy_record.specs.declared.turn.Out.{Out}
use Rattle.hy_record.specs.declared.turn.Out.TheVariants as outs
use Rattle.hy_meta.specs.declared.watcher.Watcher.{Watcher}
use Rattle.hy_meta.specs.Service.{Attempt, is_judged, applies, stamp_of_record, record_after, record_stamp}
use Rattle.hy_meta.specs.Watches.{fired, fired_watches}
use Rattle.hy_meta.specs.Meta.{judged_answer, Judged, last_swap, repeated_answer, fired_by, service_answers}
use Rattle.hy_meta.proofs.Rising.{cases_bool}
use Rattle.hy_protocol.specs.Inputs.{has_of}
use Rattle.hy_protocol.specs.Operations.{key_of, sends_of, replied}
use Rattle.hy_protocol.specs.Read.{Version, version_of, newer_version, answer_of, read_reply}
use Rattle.hy_trace.specs.Deeds.{Params, Deed, Joined, Began, Handed, Served, Granted, Stopped, Nothing, Start, served, inputs_of, start_of}
use Rattle.hy_trace.specs.Messages.{Message, Ask, Say, Request, Answer, message_of, sent_at, sent_after, IsSentAt}
use Rattle.hy_trace.specs.Trace.{IsTrace}
use Rattle.hy_trace.specs.Points.{newer_made, version_made}
use Rattle.hy_trace.proofs.Growth.{top, or-second, start-keeps, all-among}
use Rattle.hy_theorems.proofs.Writes.{all-mapped}
use Rattle.hy_theorems.proofs.TopAt.{top_at, at-end, at-earlier}
use Rattle.hy_theorems.proofs.Points.{made-step, made-has, version-before}

-- the record had this timestamp at the step, and just before it
pub record IsReadAt (t : List Deed) (key : List ℕ) (s : Timestamp) (step : ℕ) : Type 0 where
  pub within : step ≤ length t
  pub here : top_at t key step ≡ s
  pub before : (n : ℕ) → n + 1 ≡ step → top_at t key n ≡ s

read-keeps : (d : Deed) (t : List Deed) (key : List ℕ) (s : Timestamp) (step : ℕ) → IsReadAt t key s step → IsReadAt (d ∷ t) key s step
read-keeps d t key s step is =
    let within = is.within in
    record {
      within = omega (arith, within);
      here = at-earlier d t key step within ∙ is.here;
      before = λ n e. at-earlier d t key n (omega (arith, e, within)) ∙ is.before n e;
    }

-- an answer that tells a record tells what the record is before and after it
abbrev pub TellsRecord : Deed → List Deed → Message → Type 0
TellsRecord d t (Say (says.Has c o k r)) = (top t k ≡ stamp_of_record r) × (top (d ∷ t) k ≡ stamp_of_record r)
TellsRecord d t (Say (says.Applied c o k s)) = Unit {0}
TellsRecord d t (Say (says.Kept c o k s)) = Unit {0}
TellsRecord d t (Say (says.Fired c o k s)) = Unit {0}
TellsRecord d t (Say (says.OldList c o k ss)) = Unit {0}
TellsRecord d t (Say (says.Forgot c o k)) = Unit {0}
TellsRecord d t (Say (says.Swapped c o k s)) = Unit {0}
TellsRecord d t (Say (says.Changed c o k s)) = Unit {0}
TellsRecord d t (Ask ask) = Unit {0}
TellsRecord d t (Request ask) = Unit {0}
TellsRecord d t (Answer reply) = Unit {0}

out-tells : (d : Deed) (t : List Deed) (out : Out) → TellsRecord d t (message_of out)
out-tells d t (outs.Meta ask) = tt
out-tells d t (outs.Cloud ask) = tt

fired-tells : (d : Deed) (t : List Deed) (ws : List Watcher) → AllByRecursion (TellsRecord d t) (map Say (map fired ws))
fired-tells d t [] = tt
fired-tells d t (w ∷ ws) = (tt, fired-tells d t ws)

judged-tells : (d : Deed) (t : List Deed) (a : Attempt) → TellsRecord d t (Say (judged_answer (served t) a))
unfolding judged_answer
judged-tells d t a =
    elim (cases_bool (applies (record_after (served t) a.key) a)) [
      | inl applied ↦ rw applied tt
      | inr refused ↦ rw refused tt
    ]

fired-by-tells : (d : Deed) (t : List Deed) (a : Attempt) → AllByRecursion (TellsRecord d t) (map Say (fired_by (served t) a))
fired-by-tells d t a =
    elim (cases_bool (applies (record_after (served t) a.key) a)) [
      | inl applied ↦ rw applied (fired-tells d t (fired_watches (served t) a.key a.rec.stamp))
      | inr refused ↦ rw refused tt
    ]

-- the last swap of a client that was judged told no record
last-tells : (d : Deed) (t : List Deed) (requests : List MetaAsk) (client : ℕ) (j : Judged) → last_swap requests client ≡ Some j → TellsRecord d t (Say j.say)
unfolding last_swap judged_answer
last-tells d t [] client j is = absurd (none-some j is)
last-tells d t (asks.Read c o k ∷ before) client j is = last-tells d t before client j is
last-tells d t (asks.Update c o k r ∷ before) client j is = last-tells d t before client j is
last-tells d t (asks.Watch c o k s ∷ before) client j is = last-tells d t before client j is
last-tells d t (asks.Olds c o k ∷ before) client j is = last-tells d t before client j is
last-tells d t (asks.Forget c o k ss ∷ before) client j is = last-tells d t before client j is
last-tells d t (asks.Swap c o k e r ∷ before) client j is =
    elim (cases_bool (c == client && is_judged before c o)) [
      | inr other ↦ last-tells d t before client j (rw other at is)
      | inl last ↦ subst (λ (x : Judged). TellsRecord d t (Say x.say)) (same_Some _ j (rw last at is)) (by_test (applies (record_after before k) (record { client = c; op = o; key = k; rec = r; expected = Some e })))
    ]
  where
    by_test : (b : Bool) → TellsRecord d t (Say (cond b (says.Swapped c o k r.stamp) (says.Changed c o k (record_stamp before k))))
    by_test true = tt
    by_test false = tt

repeat-tells : (d : Deed) (t : List Deed) (client op : ℕ) (last : Option Judged) → last_swap (served t) client ≡ last → AllByRecursion (TellsRecord d t) (map Say (repeated_answer last op))
repeat-tells d t client op None is = tt
repeat-tells d t client op (Some j) is =
    elim (cases_bool (j.op == op)) [
      | inl same ↦ rw same (last-tells d t (served t) client j is, tt)
      | inr other ↦ rw other tt
    ]

service-tells : (t : List Deed) (ask : MetaAsk) → AllByRecursion (TellsRecord (Served ask) t) (map Say (service_answers (served t) ask))
unfolding service_answers served record_stamp record_after
service-tells t (asks.Read c o k) = ((refl, refl), tt)
service-tells t (asks.Update c o k r) =
    elim (cases_bool (stamp_lt (record_stamp (served t) k) r.stamp)) [
      | inl above ↦ rw above (tt, fired-tells (Served (asks.Update c o k r)) t (fired_watches (served t) k r.stamp))
      | inr not_above ↦ rw not_above (tt, tt)
    ]
service-tells t (asks.Watch c o k s) =
    elim (cases_bool (stamp_lt s (record_stamp (served t) k))) [
      | inl due ↦ rw due (tt, tt)
      | inr waits ↦ rw waits tt
    ]
service-tells t (asks.Swap c o k e r) =
    let a : Attempt = record { client = c; op = o; key = k; rec = r; expected = Some e } in
    elim (cases_bool (is_judged (served t) c o)) [
      | inl judged ↦ rw judged (judged-tells (Served (asks.Swap c o k e r)) t a, fired-by-tells (Served (asks.Swap c o k e r)) t a)
      | inr repeated ↦ rw repeated (repeat-tells (Served (asks.Swap c o k e r)) t c o (last_swap (served t) c) refl)
    ]
service-tells t (asks.Olds c o k) = (tt, tt)
service-tells t (asks.Forget c o k ss) = (tt, tt)

deed-tells : (p : Params) (d : Deed) (t : List Deed) → AllByRecursion (TellsRecord d t) (sent_at p d t)
unfolding sent_at
deed-tells p Joined t = tt
deed-tells p (Stopped c) t = tt
deed-tells p Nothing t = tt
deed-tells p (Granted ask) t = (tt, tt)
deed-tells p (Served ask) t = service-tells t ask
deed-tells p (Began c o a) t = all-mapped (TellsRecord (Began c o a) t) message_of (sends_of p.f p.k c o a []) (out-tells (Began c o a) t)
deed-tells p (Handed c o made cue) t = by_start (start_of c o t)
  where
    by_start : (s : Option Start) → AllByRecursion (TellsRecord (Handed c o made cue) t) (sent_after p c o (cue ∷ inputs_of c o t) s)
    by_start None = tt
    by_start (Some s) = all-mapped (TellsRecord (Handed c o made cue) t) message_of (sends_of p.f p.k c o s.action (cue ∷ inputs_of c o t)) (out-tells (Handed c o made cue) t)

-- an answer that was made at a step tells what the record was then
pub has-at : (p : Params) (t : List Deed) (step c o : ℕ) (k : List ℕ) (r : Option RecordValue) → IsSentAt p t step (Say (says.Has c o k r)) → IsReadAt t k (stamp_of_record r) step
unfolding IsSentAt
has-at p [] step c o k r sent = absurd sent
has-at p (d ∷ t) step c o k r (inr was) = read-keeps d t k (stamp_of_record r) step (has-at p t step c o k r was)
has-at p (d ∷ t) step c o k r (inl now) =
    let at = now.0 in
    let tells = all-among (TellsRecord d t) (sent_at p d t) (Say (says.Has c o k r)) (deed-tells p d t) now.1 in
    record {
      within = omega (arith, at);
      here = at-end (d ∷ t) k step (omega (arith, at)) ∙ tells.1;
      before = λ n e. at-earlier d t k n (omega (arith, at, e)) ∙ (at-end t k n (omega (arith, at, e)) ∙ tells.0);
    }

-- a version after one input more is the one that the input tells, made when that was, or the one before
newest : (made : ℕ) (cue : Cue) (inputs : List Cue) (v : Version) (P : Timestamp → ℕ → Type 0) (old : ℕ) → version_of (cue ∷ inputs) ≡ Some v → ((r : Option RecordValue) → has_of cue ≡ Some r → P (stamp_of_record r) made) → ((u : Version) → version_of inputs ≡ Some u → P (stamp_of_record u.rec) old) → P (stamp_of_record v.rec) (newer_made (version_of inputs) (has_of cue) made old)
unfolding version_of
newest made cue inputs v P old is new was = by_both (version_of inputs) (has_of cue) refl refl is
  where
    stamp : Version → Timestamp
    stamp x = stamp_of_record x.rec

    by_both : (o : Option Version) (has : Option (Option RecordValue)) → version_of inputs ≡ o → has_of cue ≡ has → newer_version o cue has ≡ Some v → P (stamp_of_record v.rec) (newer_made o has made old)
    by_both None None o_is has_is e = absurd (none-some v e)
    by_both None (Some r) o_is has_is e = subst (λ (x : Version). P (stamp_of_record x.rec) made) (same_Some (record { rec = r; since = [] }) v e) (new r has_is)
    by_both (Some u) None o_is has_is e = subst (λ (x : Version). P (stamp_of_record x.rec) old) (same_Some (record { rec = u.rec; since = cue ∷ u.since }) v e) (was u o_is)
    by_both (Some u) (Some r) o_is has_is e =
        elim (cases_bool (stamp_lt (stamp_of_record u.rec) (stamp_of_record r))) [
          | inl above ↦ rw above (subst (λ (x : Version). P (stamp_of_record x.rec) made) (same_Some (record { rec = r; since = [] }) v (rw above at e)) (new r has_is))
          | inr not_above ↦ rw not_above (subst (λ (x : Version). P (stamp_of_record x.rec) old) (same_Some (record { rec = u.rec; since = cue ∷ u.since }) v (rw not_above at e)) (was u o_is))
        ]

none-version : (c o : ℕ) (v : Version) → version_of (inputs_of c o []) ≡ Some v → ⊥
unfolding inputs_of version_of
none-version c o v is = none-some v is

-- where a version was made, the record had its timestamp
pub version-at : (p : Params) (c o : ℕ) (t : List Deed) → IsTrace p t → (s : Start) → start_of c o t ≡ Some s → (v : Version) → version_of (inputs_of c o t) ≡ Some v → IsReadAt t (key_of s.action) (stamp_of_record v.rec) (version_made c o t)
unfolding IsTrace
version-at p c o [] trace s began v is = absurd (none-version c o v is)
version-at p c o (d ∷ t) trace s began v is =
    elim (made-step p c o d t trace.0) [
      | inl same ↦ rw same.1 (read-keeps d t (key_of s.action) (stamp_of_record v.rec) (version_made c o t) (old (λ u began_ w was. version-at p c o t trace.1 u began_ w was) v (ap version_of (sym same.0) ∙ is)))
      | inr one ↦
          let start_is : one.awaits.start ≡ s = same_Some one.awaits.start s (sym (start-keeps c o d t one.awaits.start one.awaits.began) ∙ began) in
          rw one.version
          (read-keeps d t (key_of s.action) (stamp_of_record v.rec) (newer_made (version_of (inputs_of c o t)) (has_of one.cue) one.made (version_made c o t))
          (newest one.made one.cue (inputs_of c o t) v (λ x n. IsReadAt t (key_of s.action) x n) (version_made c o t) (ap version_of (sym one.inputs) ∙ is)
          (λ r tells. subst (λ (x : Start). IsReadAt t (key_of x.action) (stamp_of_record r) one.made) start_is (has-at p t one.made c o (key_of one.awaits.start.action) r (made-has p t one.made c o (key_of one.awaits.start.action) one.cue r tells one.awaits.own one.is_made)))
          (λ u was. old (λ x began_ w was_. version-at p c o t trace.1 x began_ w was_) u was)))
    ]
  where
    old : ((u : Start) → start_of c o t ≡ Some u → (w : Version) → version_of (inputs_of c o t) ≡ Some w → IsReadAt t (key_of u.action) (stamp_of_record w.rec) (version_made c o t)) → (w : Version) → version_of (inputs_of c o t) ≡ Some w → IsReadAt t (key_of s.action) (stamp_of_record w.rec) (version_made c o t)
    old before w was =
        let has = version-before p c o t trace.1 w was in
        let same : has.0 ≡ s = same_Some has.0 s (sym (start-keeps c o d t has.0 has.1) ∙ began) in
        subst (λ (x : Start). IsReadAt t (key_of x.action) (stamp_of_record w.rec) (version_made c o t)) same (before has.0 has.1 w was)

none-reply : (c o : ℕ) (reply : Reply) → read_reply (inputs_of c o []) ≡ Some reply → ⊥
unfolding inputs_of read_reply
none-reply c o reply is = none-some reply is

reply-now : (p : Params) (c o : ℕ) (key : List ℕ) (reply : Reply) (cue : Cue) (before : List Cue) (a : Action) → a ≡ asked.Get key → replied p.f p.k c o a before ≡ None → read_reply (cue ∷ before) ≡ Some reply → answer_of (version_of (cue ∷ before)) ≡ Some reply
unfolding replied read_reply
reply-now p c o key reply cue before a get unfinished is = or-second (read_reply before) (answer_of (version_of (cue ∷ before))) reply (ap (λ (x : Action). replied p.f p.k c o x before) (sym get) ∙ unfinished) is

-- what a read replied is what it answers for its version: it takes nothing after its reply
pub reply-version : (p : Params) (c o : ℕ) (key : List ℕ) (reply : Reply) (t : List Deed) → IsTrace p t → ((s : Start) → start_of c o t ≡ Some s → s.action ≡ asked.Get key) → read_reply (inputs_of c o t) ≡ Some reply → answer_of (version_of (inputs_of c o t)) ≡ Some reply
unfolding IsTrace
reply-version p c o key reply [] trace gets is = absurd (none-reply c o reply is)
reply-version p c o key reply (d ∷ t) trace gets is =
    elim (made-step p c o d t trace.0) [
      | inl same ↦ rw same.0 (reply-version p c o key reply t trace.1 (λ s began. gets s (start-keeps c o d t s began)) (ap read_reply (sym same.0) ∙ is))
      | inr one ↦ rw one.inputs (reply-now p c o key reply one.cue (inputs_of c o t) one.awaits.start.action (gets one.awaits.start (start-keeps c o d t one.awaits.start one.awaits.began)) one.awaits.unfinished (ap read_reply (sym one.inputs) ∙ is))
    ]
