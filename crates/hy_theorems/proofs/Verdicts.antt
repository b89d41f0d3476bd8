-- A swap that found another record: at its point the record had the timestamp that it replied, and the point lies within it.
use Rattle.std.proofs.Common.{◌≡◌, ◌≢◌, ℕ, ◌+◌, ◌≤◌, ◌<◌, true, false, List, [], ◌∷◌, length, map, Option, Some, None, refl, sym, ap, subst, ◌∙◌, inl, inr, arith}
use Rattle.std.specs.Prelude.{◌⊎◌, ◌==◌}
use Rattle.std.specs.Option.{option_or, option_map}
use Rattle.std.specs.List.{AllByRecursion}
use Rattle.std.proofs.lemmas.Option.{none-some, same_Some}
use Rattle.std.proofs.lemmas.Bool.{eq-eqb, both_ways}
use Rattle.hy_record.specs.declared.message.MetaAsk.{MetaAsk}
use Rattle.hy_record.specs.declared.message.MetaAsk.TheVariants as asks
use Rattle.hy_record.specs.declared.message.MetaSay.TheVariants as says
use Rattle.hy_record.specs.declared.action.Action.{Action}
use Rattle.hy_record.specs.declared.action.Action.TheVariants as asked
use Rattle.hy_record.specs.declared.action.Reply.{Reply}
use Rattle.hy_record.specs.declared.action.Reply.TheVariants as told
use Rattle.hy_record.specs.Stamp.{Timestamp, stamp_lt, stamp_eq}
use Rattle.hy_record.specs.Record.{RecordValue}
use Rattle.hy_record.proofs.Order.{stamp_eq-same}
use Rattle.hy_record.specs.declared.turn.Cue.{Cue}
use Rattle.hy_record.specs.declared.turn.Out.{Out}
use Rattle.hy_record.specs.declared.turn.Out.TheVariants as outs
use Rattle.hy_meta.specs.declared.watcher.Watcher.{Watcher}
use Rattle.hy_meta.specs.Run.{IsTried}
use Rattle.hy_meta.specs.Service.{Attempt, is_judged, attempt_of, is_expected, applies, stamp_of_record, record_after, record_stamp}
use Rattle.hy_meta.specs.Watches.{fired, fired_watches}
use Rattle.hy_meta.specs.Meta.{judged_answer, Judged, last_swap, repeated_answer, fired_by, service_answers}
use Rattle.hy_meta.proofs.Rising.{cases_bool}
use Rattle.hy_meta.proofs.Lasting.{stamp-is, attempt-own, applied-tried}
use Rattle.hy_protocol.specs.Inputs.{addresses, has_of}
use Rattle.hy_protocol.specs.declared.plan.PutPlan.{PutPlan}
use Rattle.hy_protocol.specs.Write.{first_has}
use Rattle.hy_protocol.specs.Swap.{swap_reply}
use Rattle.hy_protocol.specs.Read.{Version, version_of, newer_version}
use Rattle.hy_protocol.specs.Operations.{key_of, write_plan, sends_of, replied}
use Rattle.hy_trace.specs.Deeds.{Params, Deed, Joined, Began, Handed, Served, Granted, Stopped, Nothing, Start, served, inputs_of, start_of, start_at, reply_of}
use Rattle.hy_trace.specs.Messages.{Message, Ask, Say, Request, Answer, message_of, sent_at, sent_after, IsSent}
use Rattle.hy_trace.specs.Trace.{Fits, IsTrace}
use Rattle.hy_trace.specs.Points.{Point, changed_by, Update, update_as, update_by, update_at, passing, first_update, is_own, version_made, changed_point, was_applied}
use Rattle.hy_trace.specs.History.{Return, return_of}
use Rattle.hy_trace.proofs.Growth.{top, or-cases, or-second, start-keeps, start-now, start-same, inputs-step, all-among}
use Rattle.hy_trace.proofs.Heard.{inputs-heard, said-verdict}
use Rattle.hy_theorems.specs.Writing.{Change, Puts, Deletes, Swaps, change_action, change_expected, IsMet}
use Rattle.hy_theorems.proofs.Writes.{all-mapped, has-keeps, none-first, none-second, IsChangedSwap, SwapReplies, open-met, swap-replied}
use Rattle.hy_theorems.proofs.Meaning.{Meaning, IsUpdating, IsBy, ask_with, attempt-ask, tried-keeps}
use Rattle.hy_theorems.proofs.Numbers.{lt-number}
use Rattle.hy_theorems.proofs.Invariant.{trace-holds, last-sent, by-means, attempt-means, updating-next, swap-cell}
use Rattle.hy_theorems.proofs.RealTime.{return-reply}
use Rattle.hy_theorems.proofs.TopAt.{top_at, at-end, at-earlier, first-served, first-keeps, serves-or-not, passing-is, mapped-is}
use Rattle.hy_theorems.proofs.Overwritten.{own-parts, applied-own, second-refused, first-applied}
use Rattle.hy_theorems.proofs.Points.{start-short, version-late, version-returned}
use Rattle.hy_theorems.proofs.ReadPoints.{IsReadAt, version-at}

-- a deed that begins an operation serves nothing
begins-quiet : (c o : ℕ) (d : Deed) (t : List Deed) (s : Start) → start_at c o d t ≡ Some s → served (d ∷ t) ≡ served t
unfolding served
begins-quiet c o (Began b n a) t s is = refl
begins-quiet c o Joined t s is = refl
begins-quiet c o (Handed b n made cue) t s is = refl
begins-quiet c o (Served ask) t s is = absurd (none-some s is)
begins-quiet c o (Granted ask) t s is = refl
begins-quiet c o (Stopped b) t s is = refl
begins-quiet c o Nothing t s is = refl

-- the record at the step of an invocation is that before it
pub at-start : (c o : ℕ) (t : List Deed) (s : Start) (key : List ℕ) → start_of c o t ≡ Some s → (length s.before + 1 ≤ length t) × (top_at t key (length s.before + 1) ≡ top s.before key)
unfolding start_of
at-start c o [] s key began = absurd (none-some s began)
at-start c o (d ∷ t) s key began =
    elim (or-cases (start_of c o t) (start_at c o d t) s began) [
      | inl was ↦ (let before = at-start c o t s key was in let within = before.0 in (omega (arith, within), at-earlier d t key (length s.before + 1) within ∙ before.1))
      | inr now ↦
          let same = start-now c o d t s now.1 in
          let count = ap (λ (x : List Deed). length x) same in (
            omega (arith, count),
            at-end (d ∷ t) key (length s.before + 1) (omega (arith, count)) ∙ (ap (λ (x : List _). record_stamp x key) (begins-quiet c o d t s now.1) ∙ ap (λ (x : List Deed). top x key) (sym same)),
          )
    ]

-- the first attempt of the operation was refused, and the record had this timestamp then
pub record IsVerdict (t : List Deed) (client op : ℕ) (key : List ℕ) (s : Timestamp) : Type 0 where
  pub update : Update
  pub first : first_update (is_own client op) t ≡ Some update
  pub key_is : update.key ≡ key
  pub refused : update.is_applied ≡ false
  pub here : top_at t key update.step ≡ s
  -- a swap of the operation expects another one
  pub attempt : Attempt
  pub tried : IsTried (served t) attempt
  pub by : IsBy client op key attempt
  pub other : (e : Timestamp) → attempt.expected ≡ Some e → s ≢ e

verdict-keeps : (d : Deed) (t : List Deed) (c o : ℕ) (k : List ℕ) (s : Timestamp) → IsVerdict t c o k s → IsVerdict (d ∷ t) c o k s
verdict-keeps d t c o k s v =
    let within = (first-served (is_own c o) t v.update v.first).0.within in
    record {
      update = v.update;
      first = first-keeps (is_own c o) d t v.update v.first;
      key_is = v.key_is;
      refused = v.refused;
      here = at-earlier d t k v.update.step within ∙ v.here;
      attempt = v.attempt;
      tried = tried-keeps d t v.attempt v.tried;
      by = v.by;
      other = v.other;
    }

-- what it means that a swap was told of another record
abbrev pub MeansVerdict : List Deed → Message → Type 0
MeansVerdict t (Say (says.Changed c o k s)) = IsVerdict t c o k s
MeansVerdict t (Say (says.Has c o k r)) = Unit {0}
MeansVerdict t (Say (says.Applied c o k s)) = Unit {0}
MeansVerdict t (Say (says.Kept c o k s)) = Unit {0}
MeansVerdict t (Say (says.Fired c o k s)) = Unit {0}
MeansVerdict t (Say (says.OldList c o k ss)) = Unit {0}
MeansVerdict t (Say (says.Forgot c o k)) = Unit {0}
MeansVerdict t (Say (says.Swapped c o k s)) = Unit {0}
MeansVerdict t (Ask ask) = Unit {0}
MeansVerdict t (Request ask) = Unit {0}
MeansVerdict t (Answer reply) = Unit {0}

means-keeps : (d : Deed) (t : List Deed) (m : Message) → MeansVerdict t m → MeansVerdict (d ∷ t) m
means-keeps d t (Say (says.Changed c o k s)) v = verdict-keeps d t c o k s v
means-keeps d t (Say (says.Has c o k r)) v = tt
means-keeps d t (Say (says.Applied c o k s)) v = tt
means-keeps d t (Say (says.Kept c o k s)) v = tt
means-keeps d t (Say (says.Fired c o k s)) v = tt
means-keeps d t (Say (says.OldList c o k ss)) v = tt
means-keeps d t (Say (says.Forgot c o k)) v = tt
means-keeps d t (Say (says.Swapped c o k s)) v = tt
means-keeps d t (Ask ask) v = tt
means-keeps d t (Request ask) v = tt
means-keeps d t (Answer reply) v = tt

out-means : (t : List Deed) (out : Out) → MeansVerdict t (message_of out)
out-means t (outs.Meta ask) = tt
out-means t (outs.Cloud ask) = tt

fired-means : (t : List Deed) (ws : List Watcher) → AllByRecursion (MeansVerdict t) (map Say (map fired ws))
fired-means t [] = tt
fired-means t (w ∷ ws) = (tt, fired-means t ws)

fired-by-means : (t before : List Deed) (a : Attempt) → AllByRecursion (MeansVerdict t) (map Say (fired_by (served before) a))
fired-by-means t before a =
    elim (cases_bool (applies (record_after (served before) a.key) a)) [
      | inl applied ↦ rw applied (fired-means t (fired_watches (served before) a.key a.rec.stamp))
      | inr refused ↦ rw refused tt
    ]

-- a swap that is judged is the first attempt of its operation
judged-first : (p : Params) (t : List Deed) (ask : MetaAsk) (a : Attempt) (e : Timestamp) → IsTrace p t → IsSent p t (Ask ask) → attempt_of (served t) ask ≡ Some a → a.expected ≡ Some e → first_update (is_own a.client a.op) (Served ask ∷ t) ≡ Some (update_as t a)
unfolding first_update
judged-first p t ask a e trace sent made is = by_first (first_update (is_own a.client a.op) t) refl
  where
    own : is_own a.client a.op (update_as t a) ≡ true
    own = (let one = eq-eqb a.client a.client refl in let two = eq-eqb a.op a.op refl in rw (one, two) refl)

    by_first : (f : Option Update) → first_update (is_own a.client a.op) t ≡ f → option_or (first_update (is_own a.client a.op) t) (passing (is_own a.client a.op) (update_by ask t)) ≡ Some (update_as t a)
    by_first (Some u) was = absurd (none-some e (sym (second-refused p a.client a.op t ask a u trace sent made refl refl was).0 ∙ is))
    by_first None was = rw was (ap (λ (o : Option Attempt). passing (is_own a.client a.op) (option_map (update_as t) o)) made ∙ rw own refl)

-- a swap that is refused found another timestamp than it expects
refused-other : (p : Params) (t : List Deed) (ask : MetaAsk) (a : Attempt) (e : Timestamp) → IsTrace p t → IsSent p t (Ask ask) → attempt_of (served t) ask ≡ Some a → a.expected ≡ Some e → applies (record_after (served t) a.key) a ≡ false → record_stamp (served t) a.key ≢ e
unfolding record_stamp
refused-other p t ask a e trace sent made is refused same =
    let holds = trace-holds p t trace in
    let mean : Meaning p t (Ask (ask_with a a.expected)) = subst (λ (x : MetaAsk). Meaning p t (Ask x)) (attempt-ask (served t) ask a made) (holds.said (Ask ask) sent) in
    let mine : IsUpdating p a.client a.op a.key (Some e) a.rec t = subst (λ (x : Option Timestamp). IsUpdating p a.client a.op a.key x a.rec t) is (attempt-means p t a a.expected refl mean) in
    let next = updating-next p t trace holds a.client a.op a.key (Some e) a.rec (swap-cell p t trace holds a.client a.op a.key e a.rec mine) mine in
    let one : e ≡ next.0 = same_Some e next.0 next.1 in
    let number = next.2 in
    let sn = ap (λ (x : Timestamp). x.sn) one in
    let held = ap (λ (x : Timestamp). x.sn) same in
    let above : stamp_lt (stamp_of_record (record_after (served t) a.key)) a.rec.stamp ≡ true = lt-number (stamp_of_record (record_after (served t) a.key)) a.rec.stamp (omega (arith, number, sn, held)) in
    let met : is_expected a.expected (stamp_of_record (record_after (served t) a.key)) ≡ true = ap (λ (x : Option Timestamp). is_expected x (stamp_of_record (record_after (served t) a.key))) is ∙ (ap (λ (x : Timestamp). stamp_eq x e) same ∙ stamp_eq-same e) in
    both_ways (applies (record_after (served t) a.key) a) refused (rw (met, above) refl)

judged-verdict : (p : Params) (t : List Deed) (ask : MetaAsk) (a : Attempt) (e : Timestamp) → IsTrace p t → IsSent p t (Ask ask) → attempt_of (served t) ask ≡ Some a → a.expected ≡ Some e → MeansVerdict (Served ask ∷ t) (Say (judged_answer (served t) a))
unfolding judged_answer served
judged-verdict p t ask a e trace sent made is =
    elim (cases_bool (applies (record_after (served t) a.key) a)) [
      | inl applied ↦ rw applied tt
      | inr refused ↦ rw refused (record {
        update = update_as t a;
        first = judged-first p t ask a e trace sent made is;
        key_is = refl;
        refused = refused;
        here = at-end (Served ask ∷ t) a.key (length t + 1) (omega arith) ∙ (stamp-is (ask ∷ served t) a.key (record_after (served t) a.key) (attempt-own ask (served t) a made ∙ rw refused refl) ∙ sym (stamp-is (served t) a.key (record_after (served t) a.key) refl));
        attempt = a;
        tried = inl made;
        by = (refl, refl, refl);
        other = λ d expects. refused-other p t ask a d trace sent made expects refused;
      })
    ]

repeat-verdict : (t : List Deed) (op : ℕ) (last : Option Judged) → ((j : Judged) → last ≡ Some j → MeansVerdict t (Say j.say)) → AllByRecursion (MeansVerdict t) (map Say (repeated_answer last op))
repeat-verdict t op None means = tt
repeat-verdict t op (Some j) means =
    elim (cases_bool (j.op == op)) [
      | inl same ↦ rw same (means j refl, tt)
      | inr other ↦ rw other tt
    ]

service-verdicts : (p : Params) (t : List Deed) (ask : MetaAsk) → IsTrace p t → IsSent p t (Ask ask) → ((client : ℕ) (j : Judged) → last_swap (served t) client ≡ Some j → MeansVerdict (Served ask ∷ t) (Say j.say)) → AllByRecursion (MeansVerdict (Served ask ∷ t)) (map Say (service_answers (served t) ask))
unfolding service_answers
service-verdicts p t (asks.Read c o k) trace sent repeats = (tt, tt)
service-verdicts p t (asks.Update c o k r) trace sent repeats =
    elim (cases_bool (stamp_lt (record_stamp (served t) k) r.stamp)) [
      | inl above ↦ rw above (tt, fired-means (Served (asks.Update c o k r) ∷ t) (fired_watches (served t) k r.stamp))
      | inr below ↦ rw below (tt, tt)
    ]
service-verdicts p t (asks.Watch c o k s) trace sent repeats =
    elim (cases_bool (stamp_lt s (record_stamp (served t) k))) [
      | inl due ↦ rw due (tt, tt)
      | inr waits ↦ rw waits tt
    ]
service-verdicts p t (asks.Olds c o k) trace sent repeats = (tt, tt)
service-verdicts p t (asks.Forget c o k ss) trace sent repeats = (tt, tt)
service-verdicts p t (asks.Swap c o k e r) trace sent repeats =
    let a : Attempt = record { client = c; op = o; key = k; rec = r; expected = Some e } in
    elim (cases_bool (is_judged (served t) c o)) [
      | inl judged ↦ (let made : attempt_of (served t) (asks.Swap c o k e r) ≡ Some a = rw judged refl in
          rw judged (judged-verdict p t (asks.Swap c o k e r) a e trace sent made refl, fired-by-means (Served (asks.Swap c o k e r) ∷ t) t a))
      | inr repeated ↦ rw repeated (repeat-verdict (Served (asks.Swap c o k e r) ∷ t) o (last_swap (served t) c) (repeats c))
    ]

operation-verdicts : (p : Params) (c o : ℕ) (t : List Deed) (inputs : List Cue) (s : Option Start) → AllByRecursion (MeansVerdict t) (sent_after p c o inputs s)
operation-verdicts p c o t inputs None = tt
operation-verdicts p c o t inputs (Some s) = all-mapped (MeansVerdict t) message_of (sends_of p.f p.k c o s.action inputs) (out-means t)

verdicts-at : (p : Params) (d : Deed) (t : List Deed) → IsTrace p t → Fits p t d → ((m : Message) → IsSent p t m → MeansVerdict t m) → AllByRecursion (MeansVerdict (d ∷ t)) (sent_at p d t)
unfolding sent_at
verdicts-at p Joined t trace fits all = tt
verdicts-at p (Stopped c) t trace fits all = tt
verdicts-at p Nothing t trace fits all = tt
verdicts-at p (Granted ask) t trace fits all = (tt, tt)
verdicts-at p (Began c o a) t trace fits all = all-mapped (MeansVerdict (Began c o a ∷ t)) message_of (sends_of p.f p.k c o a []) (out-means (Began c o a ∷ t))
verdicts-at p (Handed c o w cue) t trace fits all = operation-verdicts p c o (Handed c o w cue ∷ t) (cue ∷ inputs_of c o t) (start_of c o t)
verdicts-at p (Served ask) t trace fits all = service-verdicts p t ask trace fits (λ client j is. means-keeps (Served ask) t (Say j.say) (all (Say j.say) (last-sent p t client j is)))

pub verdicts-hold : (p : Params) (t : List Deed) → IsTrace p t → (m : Message) → IsSent p t m → MeansVerdict t m
unfolding IsTrace IsSent
verdicts-hold p [] trace m sent = absurd sent
verdicts-hold p (d ∷ t) trace m (inl now) = all-among (MeansVerdict (d ∷ t)) (sent_at p d t) m (verdicts-at p d t trace.1 trace.0 (verdicts-hold p t trace.1)) now
verdicts-hold p (d ∷ t) trace m (inr was) = means-keeps d t m (verdicts-hold p t trace.1 m was)

-- before the first answer there is no version
no-version : (inputs : List Cue) → first_has inputs ≡ None → version_of inputs ≡ None
unfolding first_has version_of
no-version [] is = refl
no-version (cue ∷ before) is =
    ap (λ (o : Option Version). newer_version o cue (has_of cue)) (no-version before (none-first (first_has before) (has_of cue) is)) ∙ ap (newer_version None cue) (none-second (first_has before) (has_of cue) is)

-- the first answer makes the version
first-version : (cue : Cue) (before : List Cue) (held : Option RecordValue) → first_has before ≡ None → first_has (cue ∷ before) ≡ Some held → version_of (cue ∷ before) ≡ Some (record { rec = held; since = [] })
unfolding first_has version_of
first-version cue before held none has =
    let tells : has_of cue ≡ Some held = or-second (first_has before) (has_of cue) held none has in
    ap (λ (o : Option Version). newer_version o cue (has_of cue)) (no-version before none) ∙ ap (newer_version None cue) tells

-- the step of an operation's first attempt is behind its beginning
attempt-step : (d : Deed) (t : List Deed) (u : Update) → update_at d t ≡ Some u → u.step ≡ length t + 1
attempt-step d t u is =
    elim (serves-or-not d t) [
      | inr quiet ↦ absurd (none-some u (sym quiet.1 ∙ is))
      | inl serves ↦ (let m = mapped-is t (attempt_of (served t) serves.0) u (ap (λ (x : Deed). update_at x t) (sym serves.1) ∙ is) in ap (λ (x : Update). x.step) (sym m.2))
    ]

attempt-late : (p : Params) (c o : ℕ) (t : List Deed) → IsTrace p t → (s : Start) → start_of c o t ≡ Some s → (u : Update) → first_update (is_own c o) t ≡ Some u → length s.before < u.step
unfolding IsTrace first_update
attempt-late p c o [] trace s began u first = absurd (none-some u first)
attempt-late p c o (d ∷ t) trace s began u first =
    elim (or-cases (first_update (is_own c o) t) (passing (is_own c o) (update_at d t)) u first) [
      | inl was ↦
          let f = first-served (is_own c o) t u was in
          let own = own-parts c o u f.1 in
          let a = f.0.attempt in
          let meant : IsUpdating p c o u.key a.expected a.rec t = by-means p t a c o u.key trace.1 (trace-holds p t trace.1) f.0.tried (f.0.by.0 ∙ own.0, f.0.by.1 ∙ own.1, f.0.by.2) in
          let same : meant.start ≡ s = same_Some meant.start s (sym (start-keeps c o d t meant.start meant.began) ∙ began) in
          subst (λ (x : Start). length x.before < u.step) same (attempt-late p c o t trace.1 meant.start meant.began u was)
      | inr now ↦
          let step = attempt-step d t u (passing-is (is_own c o) (update_at d t) u now.1).0 in
          let low = start-short c o d t s began in
          omega (arith, step, low)
    ]

none-changed : (plan : PutPlan) (e : Timestamp) (c o : ℕ) (reply : Reply) → swap_reply plan e (inputs_of c o []) ≡ Some reply → ⊥
unfolding inputs_of swap_reply
none-changed plan e c o reply is = none-some reply is

pub expects-swap : (k key v : List ℕ) (e : Timestamp) (change : Change) → change_action k change ≡ asked.Swap key e v → change_expected change ≡ Some e
expects-swap k key v e (Puts w) action = absurd cc
expects-swap k key v e Deletes action = absurd cc
expects-swap k key v e (Swaps d w) action = cc

swapped-not-changed : (x s : Timestamp) → told.Swapped x ≡ told.Changed s → ⊥
swapped-not-changed x s is = absurd cc

ended-not-changed : (x s : Timestamp) → told.Exhausted x ≡ told.Changed s → ⊥
ended-not-changed x s is = absurd cc

changed-same : (x s : Timestamp) → told.Changed x ≡ told.Changed s → x ≡ s
changed-same x s is = cc

-- the operation is a swap
module _ (p : Params) (c o : ℕ) (key : List ℕ) (e : Timestamp) (v : List ℕ) where
  abbrev pub plan : PutPlan
  plan = write_plan p.f p.k c o key (Some v)

  abbrev pub AreSwaps : List Deed → Type 0
  AreSwaps t = (s : Start) → start_of c o t ≡ Some s → s.action ≡ asked.Swap key e v

  swapped-as : (a : Action) (inputs : List Cue) → a ≡ asked.Swap key e v → replied p.f p.k c o a inputs ≡ swap_reply plan e inputs
  unfolding replied
  swapped-as a inputs is = ap (λ (x : Action). replied p.f p.k c o x inputs) is

  -- what an attempt of it that was served means
  tried-of : (t : List Deed) → IsTrace p t → AreSwaps t → (a : Attempt) → IsTried (served t) a → a.client ≡ c → a.op ≡ o → IsMet (Some e) (inputs_of c o t) × (a.expected ≡ Some e)
  tried-of t trace swaps a tried client op =
      let meant : IsUpdating p c o a.key a.expected a.rec t = by-means p t a c o a.key trace (trace-holds p t trace) tried (client, op, refl) in
      let expects : change_expected meant.change ≡ Some e = expects-swap a.key key v e meant.change (sym meant.action_is ∙ swaps meant.start meant.began) in
      (subst (λ (x : Option Timestamp). IsMet x (inputs_of c o t)) expects meant.met, sym meant.expects ∙ expects)

  first-met : (t : List Deed) → IsTrace p t → AreSwaps t → (u : Update) → first_update (is_own c o) t ≡ Some u → IsMet (Some e) (inputs_of c o t)
  first-met t trace swaps u first =
      let f = (first-served (is_own c o) t u first) in
      let own = own-parts c o u f.1 in
      (tried-of t trace swaps f.0.attempt f.0.tried (f.0.by.0 ∙ own.0) (f.0.by.1 ∙ own.1)).0

  changed-met : (inputs : List Cue) (reply : Reply) → IsChangedSwap e inputs reply → IsMet (Some e) inputs → ⊥
  changed-met inputs reply changed met =
      both_ways (stamp_eq (stamp_of_record changed.held) e) changed.other (ap (λ (y : Timestamp). stamp_eq y e) (ap stamp_of_record (same_Some changed.held met.0 (sym changed.has ∙ met.1)) ∙ met.2) ∙ stamp_eq-same e)

  -- one that replied that it found another record, by its answer or at once
  found-cases : (t : List Deed) (s : Timestamp) → IsTrace p t → (start : Start) → start_of c o t ≡ Some start → AreSwaps t → swap_reply plan e (inputs_of c o t) ≡ Some (told.Changed s) → IsVerdict t c o key s ⊎ IsChangedSwap e (inputs_of c o t) (told.Changed s)
  found-cases t s trace start began swaps is = by_reply (swap-replied plan e (inputs_of c o t) (told.Changed s) is)
    where
      by_reply : SwapReplies plan e (inputs_of c o t) (told.Changed s) → IsVerdict t c o key s ⊎ IsChangedSwap e (inputs_of c o t) (told.Changed s)
      by_reply (inr (inl changed)) = inr changed
      by_reply (inr (inr ended)) = absurd (ended-not-changed (stamp_of_record ended.held) s ended.reply_is)
      by_reply (inl a) =
          let h = inputs-heard p c o a.cue t trace a.input in
          let key_is : key_of h.start.action ≡ key = ap key_of (swaps h.start h.began) in
          let own_key : addresses c o key a.cue ≡ true = subst (λ (k : List ℕ). addresses c o k a.cue ≡ true) key_is h.own in
          let heard = said-verdict p t c o key a.cue a.rec (told.Changed s) a.answer own_key h.delivered in
          elim heard.1 [
            | inl swapped ↦ absurd (swapped-not-changed a.rec.stamp s swapped.1)
            | inr changed ↦ inl (subst (λ (x : Timestamp). IsVerdict t c o key x) (changed-same heard.0 s changed.1) (verdicts-hold p t trace (Say (says.Changed c o key heard.0)) changed.0))
          ]

  -- one that replied so at once took nothing after that answer, which is its version
  changed-version : (t : List Deed) (s : Timestamp) → IsTrace p t → AreSwaps t → swap_reply plan e (inputs_of c o t) ≡ Some (told.Changed s) → IsChangedSwap e (inputs_of c o t) (told.Changed s) → (w : Version) × (version_of (inputs_of c o t) ≡ Some w) × (stamp_of_record w.rec ≡ s)
  unfolding IsTrace
  changed-version [] s trace swaps is changed = absurd (none-changed plan e c o (told.Changed s) is)
  changed-version (d ∷ t) s trace swaps is changed =
      elim (inputs-step p c o d t trace.0) [
        | inl same ↦
            let was = changed-version t s trace.1 (λ x began. swaps x (start-keeps c o d t x began)) (ap (swap_reply plan e) (sym same) ∙ is) (subst (λ (x : List Cue). IsChangedSwap e x (told.Changed s)) same changed) in
            (was.0, ap version_of same ∙ was.1, was.2)
        | inr one ↦ newest one.0 (sym (swapped-as one.1.start.action (inputs_of c o t) (swaps one.1.start (start-keeps c o d t one.1.start one.1.began))) ∙ one.1.unfinished) one.2 (first_has (inputs_of c o t)) refl
      ]
    where
      newest : (cue : Cue) → swap_reply plan e (inputs_of c o t) ≡ None → inputs_of c o (d ∷ t) ≡ cue ∷ inputs_of c o t → (h : Option (Option RecordValue)) → first_has (inputs_of c o t) ≡ h → (w : Version) × (version_of (inputs_of c o (d ∷ t)) ≡ Some w) × (stamp_of_record w.rec ≡ s)
      newest cue pending more (Some held) was =
          let met = open-met plan e (inputs_of c o t) held pending was in
          absurd (changed-met (inputs_of c o (d ∷ t)) (told.Changed s) changed (held, ap first_has more ∙ has-keeps cue (inputs_of c o t) held was, met))
      newest cue pending more None was =
          (record { rec = changed.held; since = [] }, ap version_of more ∙ first-version cue (inputs_of c o t) changed.held was (ap first_has (sym more) ∙ changed.has), changed-same (stamp_of_record changed.held) s changed.reply_is)

  replied-as : (t : List Deed) (r : Return) (s : Timestamp) → IsTrace p t → AreSwaps t → return_of p c o t ≡ Some r → r.reply ≡ told.Changed s → (start : Start) × (start_of c o t ≡ Some start) × (swap_reply plan e (inputs_of c o t) ≡ Some (told.Changed s))
  replied-as t r s trace swaps returned reply_is =
      let h = return-reply p c o t r trace returned in
      (h.start, h.began, sym (swapped-as h.start.action (inputs_of c o t) (swaps h.start h.began)) ∙ (h.replies ∙ ap Some reply_is))

  -- the first attempt was served before the reply
  changed-returned : (t : List Deed) → IsTrace p t → AreSwaps t → (r : Return) (s : Timestamp) → return_of p c o t ≡ Some r → r.reply ≡ told.Changed s → (u : Update) → first_update (is_own c o) t ≡ Some u → u.step ≤ r.at
  unfolding IsTrace return_of
  changed-returned [] trace swaps r s returned reply_is u first = absurd (none-some r returned)
  changed-returned (d ∷ t) trace swaps r s returned reply_is u first =
      elim (or-cases (return_of p c o t) (option_map (λ reply. record { at = length t + 1; reply = reply }) (reply_of p c o (d ∷ t))) r returned) [
        | inr now ↦ by_reply (reply_of p c o (d ∷ t)) now.1
        | inl was ↦ by_first (λ w w_first. changed-returned t trace.1 earlier r s was reply_is w w_first) was (first_update (is_own c o) t) refl
      ]
    where
      earlier : AreSwaps t
      earlier x began = swaps x (start-keeps c o d t x began)

      by_reply : (q : Option Reply) → option_map (λ reply. record { at = length t + 1; reply = reply }) q ≡ Some r → u.step ≤ r.at
      by_reply None is = absurd (none-some r is)
      by_reply (Some q) is = (let at = ap (λ (x : Return). x.at) (same_Some (record { at = length t + 1; reply = q }) r is) in let within = (first-served (is_own c o) (d ∷ t) u first).0.within in omega (arith, at, within))

      later_has : (held : Option RecordValue) → first_has (inputs_of c o t) ≡ Some held → first_has (inputs_of c o (d ∷ t)) ≡ Some held
      later_has held has = elim (inputs-step p c o d t trace.0) [ inl same ↦ ap first_has same ∙ has | inr one ↦ ap first_has one.2 ∙ has-keeps one.0 (inputs_of c o t) held has ]

      none_first : return_of p c o t ≡ Some r → first_update (is_own c o) t ≡ None → ⊥
      none_first was none =
          let as_ = replied-as t r s trace.1 earlier was reply_is in
          elim (found-cases t s trace.1 as_.0 as_.1 earlier as_.2) [
            | inl verdict ↦ none-some verdict.update (sym none ∙ verdict.first)
            | inr changed ↦ changed-met (inputs_of c o (d ∷ t)) (told.Changed s) (record { held = changed.held; has = later_has changed.held changed.has; other = changed.other; reply_is = changed.reply_is }) (first-met (d ∷ t) trace swaps u first)
          ]

      by_first : ((w : Update) → first_update (is_own c o) t ≡ Some w → w.step ≤ r.at) → return_of p c o t ≡ Some r → (f : Option Update) → first_update (is_own c o) t ≡ f → u.step ≤ r.at
      by_first before was None none = absurd (none_first was none)
      by_first before was (Some w) is = (let same = ap (λ (x : Update). x.step) (same_Some w u (sym (first-keeps (is_own c o) d t w is) ∙ first)) in let le = before w is in omega (arith, same, le))

  -- what a swap replied that found another record, and where
  pub record FoundAt (t : List Deed) (start : Start) (r : Return) (s : Timestamp) (point : Point) : Type 0 where
    pub at : IsReadAt t key s point.step
    pub side : point.is_just_before ≡ false
    pub late : length start.before < point.step
    pub early : point.step ≤ r.at
    pub other : s ≢ e

  point-first : (t : List Deed) (f : Option Update) → first_update (is_own c o) t ≡ f → changed_point c o t ≡ changed_by f c o t
  unfolding changed_point
  point-first t f is = ap (λ (x : Option Update). changed_by x c o t) is

  by-version : (t : List Deed) (start : Start) (r : Return) (s : Timestamp) → IsTrace p t → start_of c o t ≡ Some start → AreSwaps t → return_of p c o t ≡ Some r → swap_reply plan e (inputs_of c o t) ≡ Some (told.Changed s) → IsChangedSwap e (inputs_of c o t) (told.Changed s) → first_update (is_own c o) t ≡ None → FoundAt t start r s (changed_point c o t)
  by-version t start r s trace began swaps returned is changed none =
      let w = changed-version t s trace swaps is changed in
      let key_is : key_of start.action ≡ key = ap key_of (swaps start began) in
      let at : IsReadAt t (key_of start.action) (stamp_of_record w.0.rec) (version_made c o t) = version-at p c o t trace start began w.0 w.1 in
      let at_ : IsReadAt t key s (version_made c o t) = subst (λ (x : Timestamp). IsReadAt t key x (version_made c o t)) w.2 (subst (λ (k : List ℕ). IsReadAt t k (stamp_of_record w.0.rec) (version_made c o t)) key_is at) in
      let apart : s ≢ e = λ same. both_ways (stamp_eq (stamp_of_record changed.held) e) changed.other (ap (λ (x : Timestamp). stamp_eq x e) (changed-same (stamp_of_record changed.held) s changed.reply_is ∙ same) ∙ stamp_eq-same e) in
      subst (FoundAt t start r s) (sym (point-first t None none)) (record { at = at_; side = refl; late = version-late p c o t trace start began w.0 w.1; early = version-returned p c o t r trace returned; other = apart })

  by-verdict : (t : List Deed) (start : Start) (r : Return) (s : Timestamp) → IsTrace p t → start_of c o t ≡ Some start → AreSwaps t → return_of p c o t ≡ Some r → r.reply ≡ told.Changed s → IsVerdict t c o key s → FoundAt t start r s (changed_point c o t)
  by-verdict t start r s trace began swaps returned reply_is verdict =
      let u = verdict.update in
      let first = verdict.first in
      let f = (first-served (is_own c o) t u first).0 in
      let still : (n : ℕ) → n + 1 ≡ u.step → top_at t key n ≡ top_at t key u.step = λ n is. subst (λ (k : List ℕ). top_at t k n ≡ top_at t k u.step) verdict.key_is (f.still verdict.refused n is) in
      let at : IsReadAt t key s u.step = record { within = f.within; here = verdict.here; before = λ n is. still n is ∙ verdict.here } in
      let expects = (tried-of t trace swaps verdict.attempt verdict.tried verdict.by.0 verdict.by.1).1 in
      subst (FoundAt t start r s) (sym (point-first t (Some u) first)) (record { at = at; side = refl; late = attempt-late p c o t trace start began u first; early = changed-returned t trace swaps r s returned reply_is u first; other = verdict.other e expects })

  pub found-at : (t : List Deed) (start : Start) (r : Return) (s : Timestamp) → IsTrace p t → start_of c o t ≡ Some start → start.action ≡ asked.Swap key e v → return_of p c o t ≡ Some r → r.reply ≡ told.Changed s → FoundAt t start r s (changed_point c o t)
  found-at t start r s trace began action returned reply_is =
      let swaps : AreSwaps t = λ x x_began. ap (λ (y : Start). y.action) (start-same c o t x start x_began began) ∙ action in
      let as_ = replied-as t r s trace swaps returned reply_is in
      elim (found-cases t s trace as_.0 as_.1 swaps as_.2) [
        | inl verdict ↦ by-verdict t start r s trace began swaps returned reply_is verdict
        | inr changed ↦ by_first swaps as_.2 changed (first_update (is_own c o) t) refl
      ]
    where
      by_first : AreSwaps t → swap_reply plan e (inputs_of c o t) ≡ Some (told.Changed s) → IsChangedSwap e (inputs_of c o t) (told.Changed s) → (f : Option Update) → first_update (is_own c o) t ≡ f → FoundAt t start r s (changed_point c o t)
      by_first swaps is changed None none = by-version t start r s trace began swaps returned is changed none
      by_first swaps is changed (Some u) first = absurd (changed-met (inputs_of c o t) (told.Changed s) changed (first-met t trace swaps u first))

  -- a swap that was applied did not reply so
  pub applied-unchanged : (t : List Deed) (start : Start) (r : Return) (s : Timestamp) → IsTrace p t → start_of c o t ≡ Some start → start.action ≡ asked.Swap key e v → return_of p c o t ≡ Some r → r.reply ≡ told.Changed s → was_applied (served t) c o ≡ true → ⊥
  applied-unchanged t start r s trace began action returned reply_is applied =
      let swaps : AreSwaps t = λ x x_began. ap (λ (y : Start). y.action) (start-same c o t x start x_began began) ∙ action in
      let as_ = replied-as t r s trace swaps returned reply_is in
      elim (found-cases t s trace as_.0 as_.1 swaps as_.2) [
        | inl verdict ↦ both_ways verdict.update.is_applied verdict.refused (first-applied p c o t verdict.update trace verdict.first applied)
        | inr changed ↦
            let a = applied-own (served t) c o applied in
            changed-met (inputs_of c o t) (told.Changed s) changed (tried-of t trace swaps a.0 (applied-tried (served t) a.0 a.1) a.2 a.3).0
      ]
