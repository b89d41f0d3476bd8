-- One deed more changes the courses of operations as its effects tell.
use Rattle.std.proofs.Common.{◌≡◌, ℕ, ◌+◌, ◌≤◌, Bool, true, false, cond, List, [], ◌∷◌, length, Option, Some, None, refl, sym, ap, subst, ◌∙◌, inl, inr, arith}
use Rattle.std.specs.Prelude.{◌==◌, ◌&&◌, ◌||◌}
use Rattle.std.specs.Option.{option_map, option_or}
use Rattle.std.proofs.lemmas.Option.{none-some, same_Some}
use Rattle.std.proofs.lemmas.Bool.{eqb-true}
use Rattle.std.proofs.lemmas.Bool.Decides.{nat_tests}
use Rattle.hy_record.specs.declared.action.Action.{Action}
use Rattle.hy_record.specs.declared.action.Action.TheVariants as asked
use Rattle.hy_record.specs.declared.action.Reply.{Reply}
use Rattle.hy_record.specs.declared.message.MetaAsk.{MetaAsk}
use Rattle.hy_record.specs.declared.message.MetaAsk.TheVariants as asks
use Rattle.hy_record.specs.declared.message.MetaSay.{MetaSay}
use Rattle.hy_record.specs.declared.message.MetaSay.TheVariants as says
use Rattle.hy_record.specs.declared.turn.Cue.{Cue}
use Rattle.hy_record.specs.Record.{RecordValue}
use Rattle.hy_record.specs.Stamp.{Timestamp, stamp_lt, stamp_eq}
use Rattle.hy_record.proofs.Order.{stamp_eq-true}
use Rattle.hy_meta.specs.Service.{Attempt, attempt_of, is_judged, is_expected, applies, stamp_of_record, record_after, record_stamp}
use Rattle.hy_meta.specs.Meta.{judged_answer, Judged, last_swap, repeated_answer, service_answers}
use Rattle.hy_meta.specs.Run.{IsTried, IsApplied}
use Rattle.hy_meta.proofs.Rising.{cases_bool, both}
use Rattle.hy_protocol.specs.Inputs.{has_of}
use Rattle.hy_protocol.specs.Operations.{replied}
use Rattle.hy_protocol.specs.Read.{Version, version_of, newer_version, read_reply}
use Rattle.hy_protocol.specs.Swap.{swap_reply}
use Rattle.hy_protocol.specs.Write.{first_has, write_reply}
use Rattle.hy_protocol.specs.Collect.{collect_reply}
use Rattle.hy_trace.specs.Deeds.{Params, Deed, Joined, Began, Handed, Served, Granted, Stopped, Nothing, Start, served, inputs_of, start_of, start_at, reply_after, reply_of}
use Rattle.hy_trace.specs.History.{Return, return_of}
use Rattle.hy_trace.specs.Points.{Update, update_as, update_by, passing, first_update, is_own, version_made, newer_made, is_applied_own, was_applied}
use Rattle.hy_trace.specs.Trace.{IsTrace, IsIdle, Awaits}
use Rattle.hy_trace.proofs.Growth.{or-none}
use Rattle.hy_theorems.proofs.Overwritten.{applied-was}
use Rattle.hy_theorems.proofs.RealTime.{return-reply}
use Rattle.hy_theorems.proofs.TopAt.{first-served, tried-first}
use Rattle.hy_log.specs.declared.course.FirstUpdate.{FirstUpdate}
use Rattle.hy_log.specs.declared.course.Returned.{Returned}
use Rattle.hy_log.specs.declared.course.Course.{Course}
use Rattle.hy_log.specs.declared.course.News.TheVariants.{Heard, Replied, Updated}
use Rattle.hy_log.specs.Effects.{return_with, return_at, heard_with, heard_at, is_swapped, found_by, answered_swap, updated_as, updated_by, updated_at}
use Rattle.hy_log.specs.Courses.{fresh, noted, noted_by, note_of_heard, note_of_return, note_of_update, kept_return, kept_update, stamp_before, version_stamp, earlier_made, first_made, course_of}

abbrev course : Option Returned → Option Timestamp → ℕ → Option Timestamp → ℕ → Option FirstUpdate → Bool → Course
course returned first first_made version made updated is_applied =
    record { returned = returned; first = first; first_made = first_made; version = version; made = made; updated = updated; is_applied = is_applied }

course-same : (r q : Option Returned) (f g : Option Timestamp) (i j : ℕ) (v w : Option Timestamp) (m n : ℕ) (s u : Option FirstUpdate) (x y : Bool) →
    r ≡ q → f ≡ g → i ≡ j → v ≡ w → m ≡ n → s ≡ u → x ≡ y → course r f i v m s x ≡ course q g j w n u y
course-same r q f g i j v w m n s u x y a b d e h k l = cc

-- ---- returns

abbrev pub return_now : ℕ → Option Reply → Option Return
return_now at reply = option_map (λ (x : Reply). record { at = at; reply = x }) reply

-- an operation without a return has no reply
pub never-replied : (p : Params) (c o : ℕ) (t : List Deed) → return_of p c o t ≡ None → reply_of p c o t ≡ None
unfolding return_of reply_of start_of
never-replied p c o [] none = refl
never-replied p c o (d ∷ t) none = by (return_of p c o t) (reply_after p c o (inputs_of c o (d ∷ t)) (start_of c o (d ∷ t))) none
  where
    by : (old : Option Return) (now : Option Reply) → option_or old (return_now (length t + 1) now) ≡ None → now ≡ None
    by None None is = refl
    by None (Some reply) is = absurd (none-some _ (sym is))
    by (Some r) None is = refl
    by (Some r) (Some reply) is = absurd (none-some r (sym is))

-- what changes no reply changes no return
return-same : (p : Params) (c o : ℕ) (d : Deed) (t : List Deed) → reply_of p c o (d ∷ t) ≡ reply_of p c o t → return_of p c o (d ∷ t) ≡ return_of p c o t
unfolding return_of
return-same p c o d t same = ap (λ (x : Option Reply). option_or (return_of p c o t) (return_now (length t + 1) x)) same ∙ by (return_of p c o t) refl
  where
    by : (old : Option Return) → return_of p c o t ≡ old → option_or old (return_now (length t + 1) (reply_of p c o t)) ≡ old
    by None is = ap (return_now (length t + 1)) (never-replied p c o t is)
    by (Some r) is = refl

-- an operation that has no reply has no return
unfinished-return : (p : Params) (c o : ℕ) (t : List Deed) → IsTrace p t → reply_of p c o t ≡ None → return_of p c o t ≡ None
unfolding reply_of
unfinished-return p c o t trace none = by (return_of p c o t) refl
  where
    by : (old : Option Return) → return_of p c o t ≡ old → old ≡ None
    by None is = refl
    by (Some r) is =
        let h = return-reply p c o t r trace is in
        absurd (none-some r.reply (sym none ∙ ap (reply_after p c o (inputs_of c o t)) h.began ∙ h.replies))

-- an operation that took no input has no reply
pub no-reply : (p : Params) (c o : ℕ) (a : Action) → replied p.f p.k c o a [] ≡ None
unfolding replied write_reply read_reply collect_reply swap_reply
no-reply p c o (asked.Put key value) = refl
no-reply p c o (asked.Delete key) = refl
no-reply p c o (asked.Get key) = refl
no-reply p c o (asked.Swap key expected value) = refl
no-reply p c o (asked.Collect key) = refl

no-reply-after : (p : Params) (c o : ℕ) (s : Option Start) → reply_after p c o [] s ≡ None
no-reply-after p c o None = refl
no-reply-after p c o (Some s) = no-reply p c o s.action

-- ---- what the record was before an update

pub before-now : (d : Deed) (t : List Deed) (key : List ℕ) (n : ℕ) → n ≡ length t + 1 → stamp_before (d ∷ t) key n ≡ stamp_of_record (record_after (served t) key)
unfolding stamp_before
before-now d t key n now = (let test : (n == length t + 1) ≡ true = grind (arith, nat_tests) in rw test refl)

pub before-later : (d : Deed) (t : List Deed) (key : List ℕ) (n : ℕ) → n ≤ length t → stamp_before (d ∷ t) key n ≡ stamp_before t key n
unfolding stamp_before
before-later d t key n within = (let test : (n == length t + 1) ≡ false = grind (arith, nat_tests) in rw test refl)

-- what is kept of a first update stays
kept-later : (d : Deed) (t : List Deed) (c o : ℕ) → option_map (kept_update (d ∷ t)) (first_update (is_own c o) t) ≡ option_map (kept_update t) (first_update (is_own c o) t)
kept-later d t c o = by_first (first_update (is_own c o) t) refl
  where
    by_first : (f : Option Update) → first_update (is_own c o) t ≡ f → option_map (kept_update (d ∷ t)) f ≡ option_map (kept_update t) f
    by_first None is = refl
    by_first (Some u) is =
        ap (λ (s : Timestamp). Some (record { at = u.step; is_applied = u.is_applied; found = s })) (before-later d t u.key u.step (first-served (is_own c o) t u is).0.within)

-- ---- the deeds that change no course

unchanged : (p : Params) (c o : ℕ) (d : Deed) (t : List Deed) → inputs_of c o (d ∷ t) ≡ inputs_of c o t → first_made c o (d ∷ t) ≡ first_made c o t → version_made c o (d ∷ t) ≡ version_made c o t →
    first_update (is_own c o) (d ∷ t) ≡ first_update (is_own c o) t → was_applied (served (d ∷ t)) c o ≡ was_applied (served t) c o → reply_of p c o (d ∷ t) ≡ reply_of p c o t → course_of p (d ∷ t) c o ≡ course_of p t c o
unfolding course_of
unchanged p c o d t inputs first made updates applied reply =
    course-same _ _ _ _ _ _ _ _ _ _ _ _ _ _
    (ap (option_map kept_return) (return-same p c o d t reply))
    (ap (λ (x : List Cue). option_map stamp_of_record (first_has x)) inputs)
    first
    (ap (λ (x : List Cue). option_map version_stamp (version_of x)) inputs)
    made (ap (option_map (kept_update (d ∷ t))) updates ∙ kept-later d t c o) applied

reply-same : (p : Params) (c o : ℕ) (d : Deed) (t : List Deed) → inputs_of c o (d ∷ t) ≡ inputs_of c o t → start_of c o (d ∷ t) ≡ start_of c o t → reply_of p c o (d ∷ t) ≡ reply_of p c o t
unfolding reply_of
reply-same p c o d t inputs start = ap (λ (x : List Cue). reply_after p c o x (start_of c o (d ∷ t))) inputs ∙ ap (reply_after p c o (inputs_of c o t)) start

started-same : (c o : ℕ) (d : Deed) (t : List Deed) → start_at c o d t ≡ None → start_of c o (d ∷ t) ≡ start_of c o t
unfolding start_of
started-same c o d t none = ap (option_or (start_of c o t)) none ∙ or-none (start_of c o t)

-- ---- a beginning

began-reply : (p : Params) (b n c o : ℕ) (a : Action) (t : List Deed) → IsIdle p b n t → reply_of p c o (Began b n a ∷ t) ≡ reply_of p c o t
unfolding reply_of inputs_of
began-reply p b n c o a t idle =
    elim (cases_bool ((b == c) && (n == o))) [
      | inl own ↦
          let tests = both (b == c) (n == o) own in
          let inputs : inputs_of c o t ≡ [] = subst (λ (y : ℕ). inputs_of c y t ≡ []) (eqb-true n o tests.1) (subst (λ (x : ℕ). inputs_of x n t ≡ []) (eqb-true b c tests.0) idle.inputs) in
          ap (λ (x : List Cue). reply_after p c o x (start_of c o (Began b n a ∷ t))) inputs ∙ no-reply-after p c o (start_of c o (Began b n a ∷ t))
          ∙ sym (ap (λ (x : List Cue). reply_after p c o x (start_of c o t)) inputs ∙ no-reply-after p c o (start_of c o t))
      | inr other ↦ ap (reply_after p c o (inputs_of c o t)) (started-same c o (Began b n a) t (rw other refl))
    ]

-- ---- an update that is served

more-updated : (f : Update → FirstUpdate) (old : Option Update) (u : Update) → option_map f (option_or old (Some u)) ≡ option_or (option_map f old) (Some (f u))
more-updated f None u = refl
more-updated f (Some v) u = refl

none-updated : (f : Update → FirstUpdate) (old : Option Update) → option_map f (option_or old None) ≡ option_map f old
none-updated f old = ap (option_map f) (or-none old)

-- the last swap of a client that was judged was attempted, and applied where its answer says so
record WasJudged (requests : List MetaAsk) (c o : ℕ) (say : MetaSay) : Type 0 where
  attempt : Attempt
  tried : IsTried requests attempt
  client : attempt.client ≡ c
  op : attempt.op ≡ o
  applied : is_swapped say ≡ true → IsApplied requests attempt

judged-later : (ask : MetaAsk) (before : List MetaAsk) (client op : ℕ) (say : MetaSay) → WasJudged before client op say → WasJudged (ask ∷ before) client op say
judged-later ask before client op say was = record { attempt = was.attempt; tried = inr was.tried; client = was.client; op = was.op; applied = λ is. inr (was.applied is) }

last-tried : (requests : List MetaAsk) (client : ℕ) (j : Judged) → last_swap requests client ≡ Some j → WasJudged requests client j.op j.say
unfolding last_swap judged_answer
last-tried [] client j is = absurd (none-some j is)
last-tried (asks.Read b n k ∷ before) client j is = judged-later (asks.Read b n k) before client j.op j.say (last-tried before client j is)
last-tried (asks.Update b n k r ∷ before) client j is = judged-later (asks.Update b n k r) before client j.op j.say (last-tried before client j is)
last-tried (asks.Watch b n k s ∷ before) client j is = judged-later (asks.Watch b n k s) before client j.op j.say (last-tried before client j is)
last-tried (asks.Olds b n k ∷ before) client j is = judged-later (asks.Olds b n k) before client j.op j.say (last-tried before client j is)
last-tried (asks.Forget b n k ss ∷ before) client j is = judged-later (asks.Forget b n k ss) before client j.op j.say (last-tried before client j is)
last-tried (asks.Swap b n k e r ∷ before) client j is =
    elim (cases_bool (b == client && is_judged before b n)) [
      | inr other ↦ judged-later (asks.Swap b n k e r) before client j.op j.say (last-tried before client j (rw other at is))
      | inl last ↦ subst (λ (x : Judged). WasJudged (asks.Swap b n k e r ∷ before) client x.op x.say) (same_Some _ j (rw last at is)) (now (both (b == client) (is_judged before b n) last))
    ]
  where
    a : Attempt
    a = record { client = b; op = n; key = k; rec = r; expected = Some e }

    by : (x : Bool) → is_swapped (cond x (says.Swapped b n k r.stamp) (says.Changed b n k (record_stamp before k))) ≡ x
    by true = refl
    by false = refl

    now : (b == client ≡ true) × (is_judged before b n ≡ true) → WasJudged (asks.Swap b n k e r ∷ before) client n (judged_answer before a)
    now tests =
        let made : attempt_of before (asks.Swap b n k e r) ≡ Some a = rw tests.1 refl in
        record { attempt = a; tried = inl made; client = eqb-true b client tests.0; op = refl; applied = λ swapped. inl (made, sym (by (applies (record_after before k) a)) ∙ swapped) }

module _ (p : Params) (c o : ℕ) (ask : MetaAsk) (t : List Deed) where
  -- the course with these last three parts
  abbrev updated_course : Option Returned → Option Update → Bool → Course
  updated_course ret update applied =
      course ret (option_map stamp_of_record (first_has (inputs_of c o t))) (first_made c o t) (option_map version_stamp (version_of (inputs_of c o t))) (version_made c o t) (option_map (kept_update (Served ask ∷ t)) update) applied

  not-updated : (ret : Option Return) → ret ≡ return_of p c o t → updated_course (option_map kept_return ret) (option_or (first_update (is_own c o) t) None) (was_applied (served t) c o) ≡ course_of p t c o
  unfolding course_of
  not-updated ret same = course-same _ _ _ _ _ _ _ _ _ _ _ _ _ _ (ap (option_map kept_return) same) refl refl refl refl (none-updated (kept_update (Served ask ∷ t)) (first_update (is_own c o) t) ∙ kept-later (Served ask) t c o) refl

  by-attempt : (tried : Option Attempt) (ret : Option Return) → ret ≡ return_of p c o t →
      updated_course (option_map kept_return ret) (option_or (first_update (is_own c o) t) (passing (is_own c o) (option_map (update_as t) tried))) (is_applied_own tried (served t) c o || was_applied (served t) c o)
      ≡ noted_by (note_of_update (length t + 1) (option_map (updated_as (served t)) tried)) c o (course_of p t c o)
  unfolding course_of
  by-attempt (Some a) ret same =
      elim (cases_bool ((a.client == c) && (a.op == o))) [
        | inl own ↦
            let u : Update = update_as t a in
            rw own (course-same _ _ _ _ _ _ _ _ _ _ _ _ _ _ (ap (option_map kept_return) same) refl refl refl refl
            (more-updated (kept_update (Served ask ∷ t)) (first_update (is_own c o) t) u
            ∙ (ap (λ (old : Option FirstUpdate). option_or old (Some (kept_update (Served ask ∷ t) u))) (kept-later (Served ask) t c o)
            ∙ ap (λ (s : Timestamp). option_or (option_map (kept_update t) (first_update (is_own c o) t)) (Some (record { at = u.step; is_applied = u.is_applied; found = s }))) (before-now (Served ask) t a.key (length t + 1) refl))) refl)
        | inr other ↦ rw other (not-updated ret same)
      ]
  by-attempt None ret same = not-updated ret same

  or-same : (x y : Bool) → (x ≡ true → y ≡ true) → y ≡ (x || y)
  or-same true y is = is refl
  or-same false y is = refl

  again-same : (u : Update) → first_update (is_own c o) t ≡ Some u → (ret : Option Return) → ret ≡ return_of p c o t → (x : Bool) (found : Timestamp) → (x ≡ true → was_applied (served t) c o ≡ true) →
      updated_course (option_map kept_return ret) (option_or (first_update (is_own c o) t) None) (was_applied (served t) c o) ≡ noted (Updated (length t + 1) x found) (course_of p t c o)
  unfolding course_of
  again-same u first ret same x found applied =
      course-same _ _ _ _ _ _ _ _ _ _ _ _ _ _ (ap (option_map kept_return) same) refl refl refl refl
      (none-updated (kept_update (Served ask ∷ t)) (first_update (is_own c o) t) ∙ (kept-later (Served ask) t c o
      ∙ (ap (option_map (kept_update t)) first ∙ sym (ap (λ (f : Option Update). option_or (option_map (kept_update t) f) (Some (record { at = length t + 1; is_applied = x; found = found }))) first))))
      (or-same x (was_applied (served t) c o) applied)

  -- a swap that is answered again changes nothing
  by-repeat : (last : Option Judged) (b n : ℕ) (expected : Timestamp) (ret : Option Return) → last_swap (served t) b ≡ last → ret ≡ return_of p c o t →
      updated_course (option_map kept_return ret) (option_or (first_update (is_own c o) t) None) (was_applied (served t) c o)
      ≡ noted_by (note_of_update (length t + 1) (answered_swap b n expected (repeated_answer last n))) c o (course_of p t c o)
  by-repeat None b n expected ret is same = not-updated ret same
  by-repeat (Some j) b n expected ret is same =
      elim (cases_bool (j.op == n)) [
        | inr other ↦ rw other (not-updated ret same)
        | inl again ↦ rw again (elim (cases_bool ((b == c) && (n == o))) [
          | inr other ↦ rw other (not-updated ret same)
          | inl own ↦
              let tests = both (b == c) (n == o) own in
              let was = last-tried (served t) b j is in
              let u = tried-first was.attempt t was.tried in
              let client : was.attempt.client ≡ c = was.client ∙ eqb-true b c tests.0 in
              let number : was.attempt.op ≡ o = was.op ∙ (eqb-true j.op n again ∙ eqb-true n o tests.1) in
              let first : first_update (is_own c o) t ≡ Some u.0 = subst (λ (m : ℕ). first_update (is_own c m) t ≡ Some u.0) number (subst (λ (d : ℕ). first_update (is_own d was.attempt.op) t ≡ Some u.0) client u.1) in
              let applied : is_swapped j.say ≡ true → was_applied (served t) c o ≡ true =
              λ swapped. subst (λ (m : ℕ). was_applied (served t) c m ≡ true) number (subst (λ (d : ℕ). was_applied (served t) d was.attempt.op ≡ true) client (applied-was (served t) was.attempt (was.applied swapped))) in
              rw own (again-same u.0 first ret same (is_swapped j.say) (found_by expected j.say) applied)
        ])
      ]

  judged-swapped : (a : Attempt) → is_swapped (judged_answer (served t) a) ≡ applies (record_after (served t) a.key) a
  unfolding judged_answer
  judged-swapped a = by (applies (record_after (served t) a.key) a)
    where
      by : (x : Bool) → is_swapped (cond x (says.Swapped a.client a.op a.key a.rec.stamp) (says.Changed a.client a.op a.key (record_stamp (served t) a.key))) ≡ x
      by true = refl
      by false = refl

  -- what a judged swap found is told by its answer
  judged-found : (a : Attempt) (expected : Timestamp) → a.expected ≡ Some expected → found_by expected (judged_answer (served t) a) ≡ stamp_of_record (record_after (served t) a.key)
  unfolding judged_answer record_stamp
  judged-found a expected of = by (applies (record_after (served t) a.key) a) refl
    where
      by : (x : Bool) → applies (record_after (served t) a.key) a ≡ x → found_by expected (cond x (says.Swapped a.client a.op a.key a.rec.stamp) (says.Changed a.client a.op a.key (stamp_of_record (record_after (served t) a.key)))) ≡ stamp_of_record (record_after (served t) a.key)
      by false refused = refl
      by true applied =
          (let met = (both (is_expected a.expected (stamp_of_record (record_after (served t) a.key))) (stamp_lt (stamp_of_record (record_after (served t) a.key)) a.rec.stamp) applied).0 in
          let same : stamp_eq (stamp_of_record (record_after (served t) a.key)) expected ≡ true = sym (ap (λ (x : Option Timestamp). is_expected x (stamp_of_record (record_after (served t) a.key))) of) ∙ met in
          sym (stamp_eq-true (stamp_of_record (record_after (served t) a.key)) expected same))

  by-request : (request : MetaAsk) (ret : Option Return) → ret ≡ return_of p c o t →
      updated_course (option_map kept_return ret) (option_or (first_update (is_own c o) t) (passing (is_own c o) (update_by request t))) (is_applied_own (attempt_of (served t) request) (served t) c o || was_applied (served t) c o)
      ≡ noted_by (note_of_update (length t + 1) (updated_by request (served t))) c o (course_of p t c o)
  unfolding service_answers
  by-request (asks.Update b n k r) ret same = by-attempt (attempt_of (served t) (asks.Update b n k r)) ret same
  by-request (asks.Read b n k) ret same = by-attempt None ret same
  by-request (asks.Watch b n k s) ret same = by-attempt None ret same
  by-request (asks.Olds b n k) ret same = by-attempt None ret same
  by-request (asks.Forget b n k ss) ret same = by-attempt None ret same
  by-request (asks.Swap b n k e r) ret same =
      elim (cases_bool (is_judged (served t) b n)) [
        | inr repeated ↦ rw repeated (by-repeat (last_swap (served t) b) b n e ret refl same)
        | inl judged ↦
            let a : Attempt = record { client = b; op = n; key = k; rec = r; expected = Some e } in
            rw judged (by-attempt (Some a) ret same
            ∙ (ap (λ (x : Bool). noted_by (note_of_update (length t + 1) (Some (record { client = b; op = n; is_applied = x; found = stamp_of_record (record_after (served t) k) }))) c o (course_of p t c o)) (sym (judged-swapped a))
            ∙ ap (λ (x : Timestamp). noted_by (note_of_update (length t + 1) (Some (record { client = b; op = n; is_applied = is_swapped (judged_answer (served t) a); found = x }))) c o (course_of p t c o)) (sym (judged-found a e refl))))
      ]

  updated-step : course_of p (Served ask ∷ t) c o ≡ noted_by (note_of_update (length t + 1) (updated_by ask (served t))) c o (course_of p t c o)
  unfolding course_of served inputs_of first_made version_made first_update was_applied
  updated-step = by-request ask (return_of p c o (Served ask ∷ t)) (return-same p c o (Served ask) t (reply-same p c o (Served ask) t refl (started-same c o (Served ask) t refl)))

-- ---- an input that is handed over

-- the course after an answer that tells this record or none
abbrev after_has : ℕ → Option (Option RecordValue) → Course → Course
after_has made None x = x
after_has made (Some r) x = noted (Heard (stamp_of_record r) made) x

-- the course after a reply or none
abbrev after_reply : ℕ → Option Reply → Course → Course
after_reply at None x = x
after_reply at (Some reply) x = noted (Replied at reply) x

self : (c o : ℕ) → (c == c && o == o) ≡ true
self c o = grind (arith, nat_tests)

heard-own : (c o w : ℕ) (h : Option (Option RecordValue)) (x : Course) → noted_by (note_of_heard (heard_with c o w h)) c o x ≡ after_has w h x
heard-own c o w None x = refl
heard-own c o w (Some r) x = rw (self c o) refl

heard-other : (b n c o w : ℕ) (h : Option (Option RecordValue)) (x : Course) → (b == c && n == o) ≡ false → noted_by (note_of_heard (heard_with b n w h)) c o x ≡ x
heard-other b n c o w None x other = refl
heard-other b n c o w (Some r) x other = rw other refl

returned-own : (c o at : ℕ) (reply : Option Reply) (x : Course) → noted_by (note_of_return at (return_with c o reply)) c o x ≡ after_reply at reply x
returned-own c o at None x = refl
returned-own c o at (Some reply) x = rw (self c o) refl

returned-other : (b n c o at : ℕ) (reply : Option Reply) (x : Course) → (b == c && n == o) ≡ false → noted_by (note_of_return at (return_with b n reply)) c o x ≡ x
returned-other b n c o at None x other = refl
returned-other b n c o at (Some reply) x other = rw other refl

-- what it was told first, its version, and where these were made
after_has-is : (w : ℕ) (cue : Cue) (h : Option (Option RecordValue)) (a : Option (Option RecordValue)) (v : Option Version) (ret : Option Returned) (i m : ℕ) (s : Option FirstUpdate) (x : Bool) →
    course ret (option_map stamp_of_record (option_or a h)) (earlier_made a h w i) (option_map version_stamp (newer_version v cue h)) (newer_made v h w m) s x
    ≡ after_has w h (course ret (option_map stamp_of_record a) i (option_map version_stamp v) m s x)
after_has-is w cue None None None ret i m s x = refl
after_has-is w cue None None (Some v) ret i m s x = refl
after_has-is w cue None (Some q) None ret i m s x = refl
after_has-is w cue None (Some q) (Some v) ret i m s x = refl
after_has-is w cue (Some r) None None ret i m s x = refl
after_has-is w cue (Some r) (Some q) None ret i m s x = refl
after_has-is w cue (Some r) None (Some v) ret i m s x = by (stamp_lt (stamp_of_record v.rec) (stamp_of_record r))
  where
    by : (b : Bool) → course ret (Some (stamp_of_record r)) w (option_map version_stamp (cond b (Some (record { rec = r; since = [] })) (Some (record { rec = v.rec; since = cue ∷ v.since })))) (cond b w m) s x
        ≡ course ret (Some (stamp_of_record r)) w (cond b (Some (stamp_of_record r)) (Some (version_stamp v))) (cond b w m) s x
    by true = refl
    by false = refl
after_has-is w cue (Some r) (Some q) (Some v) ret i m s x = by (stamp_lt (stamp_of_record v.rec) (stamp_of_record r))
  where
    by : (b : Bool) → course ret (Some (stamp_of_record q)) i (option_map version_stamp (cond b (Some (record { rec = r; since = [] })) (Some (record { rec = v.rec; since = cue ∷ v.since })))) (cond b w m) s x
        ≡ course ret (Some (stamp_of_record q)) i (cond b (Some (stamp_of_record r)) (Some (version_stamp v))) (cond b w m) s x
    by true = refl
    by false = refl

after_has-keeps : (w : ℕ) (h : Option (Option RecordValue)) (x : Course) → (after_has w h x).returned ≡ x.returned
after_has-keeps w None x = refl
after_has-keeps w (Some r) x = refl

-- a reply where there was none
after_reply-is : (at : ℕ) (reply : Option Reply) (x : Course) → x.returned ≡ None →
    course (option_map kept_return (return_now at reply)) x.first x.first_made x.version x.made x.updated x.is_applied ≡ after_reply at reply x
after_reply-is at None x none = course-same _ _ _ _ _ _ _ _ _ _ _ _ _ _ (sym none) refl refl refl refl refl refl
after_reply-is at (Some reply) x none = refl

module _ (p : Params) (c o w : ℕ) (cue : Cue) (t : List Deed) (trace : IsTrace p t) (awaits : Awaits p c o cue t) where
  abbrev before : Course
  before = course_of p t c o

  abbrev reply : Option Reply
  reply = reply_after p c o (cue ∷ inputs_of c o t) (start_of c o t)

  no-return : return_of p c o t ≡ None
  unfolding reply_of
  no-return = unfinished-return p c o t trace (ap (reply_after p c o (inputs_of c o t)) awaits.began ∙ awaits.unfinished)

  own-inputs : inputs_of c o (Handed c o w cue ∷ t) ≡ cue ∷ inputs_of c o t
  unfolding inputs_of
  own-inputs = rw (self c o) refl

  own-first : first_made c o (Handed c o w cue ∷ t) ≡ earlier_made (first_has (inputs_of c o t)) (has_of cue) w (first_made c o t)
  unfolding first_made
  own-first = rw (self c o) refl

  own-made : version_made c o (Handed c o w cue ∷ t) ≡ newer_made (version_of (inputs_of c o t)) (has_of cue) w (version_made c o t)
  unfolding version_made
  own-made = rw (self c o) refl

  own-return : return_of p c o (Handed c o w cue ∷ t) ≡ return_now (length t + 1) reply
  unfolding return_of reply_of
  own-return =
      ap (λ (x : Option Return). option_or x (return_now (length t + 1) (reply_after p c o (inputs_of c o (Handed c o w cue ∷ t)) (start_of c o (Handed c o w cue ∷ t))))) no-return
      ∙ ap (λ (x : List Cue). return_now (length t + 1) (reply_after p c o x (start_of c o (Handed c o w cue ∷ t)))) own-inputs
      ∙ ap (λ (x : Option Start). return_now (length t + 1) (reply_after p c o (cue ∷ inputs_of c o t) x)) (started-same c o (Handed c o w cue) t refl)

  own-course : course_of p (Handed c o w cue ∷ t) c o ≡ after_reply (length t + 1) reply (after_has w (has_of cue) before)
  unfolding course_of served first_has version_of first_update
  own-course =
      let told = after_has-is w cue (has_of cue) (first_has (inputs_of c o t)) (version_of (inputs_of c o t)) (option_map kept_return (return_of p c o t)) (first_made c o t) (version_made c o t) (option_map (kept_update t) (first_update (is_own c o) t)) (was_applied (served t) c o) in
      course-same _ _ _ _ _ _ _ _ _ _ _ _ _ _
      (ap (option_map kept_return) own-return)
      (ap (λ (x : List Cue). option_map stamp_of_record (first_has x)) own-inputs ∙ ap (λ (x : Course). x.first) told)
      (own-first ∙ ap (λ (x : Course). x.first_made) told)
      (ap (λ (x : List Cue). option_map version_stamp (version_of x)) own-inputs ∙ ap (λ (x : Course). x.version) told)
      (own-made ∙ ap (λ (x : Course). x.made) told)
      (none-updated (kept_update (Handed c o w cue ∷ t)) (first_update (is_own c o) t) ∙ (kept-later (Handed c o w cue) t c o ∙ ap (λ (x : Course). x.updated) told))
      (ap (λ (x : Course). x.is_applied) told)
      ∙ after_reply-is (length t + 1) reply (after_has w (has_of cue) before) (after_has-keeps w (has_of cue) before ∙ ap (option_map kept_return) no-return)

-- ---- all deeds

-- the course of an operation after the effects of a deed
abbrev pub after : Params → Deed → List Deed → ℕ → ℕ → Course → Course
after p d t c o x = noted_by (note_of_update (length t + 1) (updated_at d t)) c o (noted_by (note_of_return (length t + 1) (return_at p d t)) c o (noted_by (note_of_heard (heard_at d)) c o x))

handed-step : (p : Params) (b n w c o : ℕ) (cue : Cue) (t : List Deed) → IsTrace p t → Awaits p b n cue t → course_of p (Handed b n w cue ∷ t) c o ≡ after p (Handed b n w cue) t c o (course_of p t c o)
unfolding inputs_of first_made version_made served first_update
handed-step p b n w c o cue t trace awaits =
    elim (cases_bool ((b == c) && (n == o))) [
      | inl own ↦
          let tests = both (b == c) (n == o) own in
          let here : course_of p (Handed b n w cue ∷ t) b n ≡ after p (Handed b n w cue) t b n (course_of p t b n) =
          own-course p b n w cue t trace awaits
          ∙ sym (ap (λ (x : Course). noted_by (note_of_return (length t + 1) (return_at p (Handed b n w cue) t)) b n x) (heard-own b n w (has_of cue) (course_of p t b n))
          ∙ returned-own b n (length t + 1) (reply_after p b n (cue ∷ inputs_of b n t) (start_of b n t)) (after_has w (has_of cue) (course_of p t b n))) in
          subst (λ (y : ℕ). course_of p (Handed b n w cue ∷ t) c y ≡ after p (Handed b n w cue) t c y (course_of p t c y)) (eqb-true n o tests.1)
          (subst (λ (x : ℕ). course_of p (Handed b n w cue ∷ t) x n ≡ after p (Handed b n w cue) t x n (course_of p t x n)) (eqb-true b c tests.0) here)
      | inr other ↦
          unchanged p c o (Handed b n w cue) t (rw other refl) (rw other refl) (rw other refl) (or-none (first_update (is_own c o) t)) refl (reply-same p c o (Handed b n w cue) t (rw other refl) (started-same c o (Handed b n w cue) t refl))
          ∙ sym (ap (λ (x : Course). noted_by (note_of_return (length t + 1) (return_at p (Handed b n w cue) t)) c o x) (heard-other b n c o w (has_of cue) (course_of p t c o) other)
          ∙ returned-other b n c o (length t + 1) (reply_after p b n (cue ∷ inputs_of b n t) (start_of b n t)) (course_of p t c o) other)
    ]

pub course-step : (p : Params) (d : Deed) (t : List Deed) (c o : ℕ) → IsTrace p (d ∷ t) → course_of p (d ∷ t) c o ≡ after p d t c o (course_of p t c o)
unfolding IsTrace inputs_of first_made version_made served first_update
course-step p Joined t c o trace = unchanged p c o Joined t refl refl refl (or-none (first_update (is_own c o) t)) refl (reply-same p c o Joined t refl (started-same c o Joined t refl))
course-step p (Began b n a) t c o trace = unchanged p c o (Began b n a) t refl refl refl (or-none (first_update (is_own c o) t)) refl (began-reply p b n c o a t trace.0.0)
course-step p (Handed b n w cue) t c o trace = handed-step p b n w c o cue t trace.1 trace.0.0
course-step p (Served ask) t c o trace = updated-step p c o ask t
course-step p (Granted ask) t c o trace = unchanged p c o (Granted ask) t refl refl refl (or-none (first_update (is_own c o) t)) refl (reply-same p c o (Granted ask) t refl (started-same c o (Granted ask) t refl))
course-step p (Stopped b) t c o trace = unchanged p c o (Stopped b) t refl refl refl (or-none (first_update (is_own c o) t)) refl (reply-same p c o (Stopped b) t refl (started-same c o (Stopped b) t refl))
course-step p Nothing t c o trace = unchanged p c o Nothing t refl refl refl (or-none (first_update (is_own c o) t)) refl (reply-same p c o Nothing t refl (started-same c o Nothing t refl))

-- nothing was done
pub course-start : (p : Params) (c o : ℕ) → course_of p [] c o ≡ fresh
unfolding course_of return_of inputs_of first_has version_of first_made version_made first_update was_applied served
course-start p c o = refl
