-- The order of a key by the points of a trace is its order in the trace.
use Rattle.std.proofs.Common.{◌≡◌, ℕ, ◌+◌, ◌-◌, ◌≤◌, Bool, true, false, List, [], ◌∷◌, map, Option, Some, None, refl, sym, ap, subst, ◌∙◌, inl, inr, arith}
use Rattle.std.specs.Prelude.{◌⊎◌, ◌||◌, ◌==◌, not}
use Rattle.std.specs.List.{AllByRecursion, filter_map, cons_option}
use Rattle.std.specs.Option.{option_map, option_or, option_and_then}
use Rattle.std.proofs.lemmas.Bool.{both_ways, false≢true}
use Rattle.std.proofs.lemmas.Bool.Decides.{nat_tests}
use Rattle.std.proofs.lemmas.Option.{none-some, same_Some}
use Rattle.hy_record.specs.declared.action.Action.{Action}
use Rattle.hy_record.specs.declared.action.Action.TheVariants as asked
use Rattle.hy_record.specs.declared.action.Reply.{Reply}
use Rattle.hy_record.specs.declared.action.Reply.TheVariants as told
use Rattle.hy_record.specs.declared.message.MetaAsk.{MetaAsk}
use Rattle.hy_record.specs.declared.message.MetaSay.TheVariants as says
use Rattle.hy_record.specs.declared.turn.Cue.{Cue}
use Rattle.hy_record.specs.declared.turn.Cue.TheVariants as cues
use Rattle.hy_record.specs.Record.{RecordValue}
use Rattle.hy_meta.proofs.Rising.{both}
use Rattle.hy_record.specs.Key.{key_eq}
use Rattle.hy_record.specs.Stamp.{Timestamp, stamp_lt, stamp_eq}
use Rattle.hy_record.proofs.Order.{key_eq-same, stamp_eq-true}
use Rattle.hy_meta.specs.Service.{Attempt, attempt_of, applies, stamp_of_record, record_after}
use Rattle.hy_protocol.specs.Operations.{key_of, write_plan, replied}
use Rattle.hy_protocol.specs.Read.{version_of, answer_of, read_reply}
use Rattle.hy_protocol.specs.Write.{stamp_upon, own_stamp, write_reply}
use Rattle.hy_protocol.specs.Swap.{answered_by, swap_reply}
use Rattle.hy_order.specs.declared.operation.Operation.{Operation}
use Rattle.hy_points.specs.declared.point.ActKind.{ActKind}
use Rattle.hy_points.specs.declared.point.ActKind.TheVariants as acts
use Rattle.hy_points.specs.Marks as logged
use Rattle.hy_points.specs.Runs.{Reading, Writing, Trial, Run}
use Rattle.hy_points.proofs.Listing.{IsIn, AllPairs, in-map}
use Rattle.hy_points.proofs.Swapping.{swap-same}
use Rattle.hy_points.proofs.RunOrder.{run_stamp, run_reads, run_rank, writes_by, deciding, WroteBy, IsListedRead, IsListedWrite, IsListedRun, Precedes, read-stamp, read-reads, read-rank, write-stamp, write-reads, order-of-runs}
use Rattle.hy_trace.specs.Deeds.{Params, Deed, Served, Start, served, inputs_of, start_of}
use Rattle.hy_trace.specs.History.{Return, return_of, Begun, begun_of, operation_of}
use Rattle.hy_trace.specs.Order.{Mark, is_done, is_done_return, write_mark, reply_mark, read_mark, changed_reply_mark, changed_mark, mark_by, mark_of, marks_of, sorted_marks, is_behind, op_of, number_of, linearization_of}
use Rattle.hy_trace.specs.Points.{Point, Update, passing, update_by, update_at, is_applied_own, first_update, is_own, version_made, write_point, changed_by, changed_point, was_applied}
use Rattle.hy_trace.specs.Trace.{IsTrace}
use Rattle.hy_trace.proofs.Growth.{or-cases, start-same}
use Rattle.hy_theorems.specs.Writing.{Change, Puts, Deletes, Swaps, change_value, change_expected, change_action}
use Rattle.hy_theorems.proofs.Apart.{replied-write}
use Rattle.hy_theorems.proofs.Beginnings.{AreOthers, IsAmongBegun, begun-are, begun-in}
use Rattle.hy_theorems.proofs.Linear.{picked, all-pairs, Is, sorted-are}
use Rattle.hy_theorems.proofs.Listing as listing
use Rattle.hy_theorems.proofs.Marks.{as-read, write-done, IsWriteMark, IsGetMark, IsChangedMark, IsReadMark, IsMarkOf, mark-is}
use Rattle.hy_theorems.proofs.Cells.{swap-applied, write-update}
use Rattle.hy_theorems.proofs.Meaning.{or-true, applied-keeps}
use Rattle.hy_theorems.proofs.Ordering.{Before, AreInOrder, before-parts, sorted-ordered}
use Rattle.hy_theorems.proofs.Overwritten.{applied-own, applied-was, first-applied}
use Rattle.hy_theorems.proofs.Placed.{orders-same}
use Rattle.hy_theorems.proofs.Points.{answered-version}
use Rattle.hy_theorems.proofs.ReadPoints.{reply-version}
use Rattle.hy_theorems.proofs.RealTime.{return-reply, answer-stamp}
use Rattle.hy_theorems.proofs.Replies.{is_read_reply, read-replies}
use Rattle.hy_theorems.proofs.TopAt.{top_at, mapped-is, serves-or-not, first-served}
use Rattle.hy_theorems.proofs.Writes.{key_of-write, update-own, SwapReplies, IsEndedSwap}
use Rattle.hy_log.specs.Courses.{version_stamp, first_made, stamp_before}
use Rattle.hy_log.specs.Points.{point_at, points_of}
use Rattle.hy_log.proofs.FirstMade.{passes-own, free-reply}
use Rattle.hy_log.proofs.TracePoints.{step_of, in_order, are-moments}
use Rattle.hy_log.proofs.TraceRuns.{writing_with, trial_with, first_reading, own_writing, own_trial, own_end, change_act, change_set, change_trial, change_run, get_run, change-run-is, run_by, IsRun, IsWriteRun, IsReadRun, kind, begun-is, map-some, writing-parts, trial-parts, one-start, are-runs}
use Rattle.hy_log.proofs.Judging.{before-at, stamp_eq-flip, swap-judged, swap-replies, judged-before, once-told, changed-reply}

-- ---- updates

-- the service applies an update of the operation
served-applied : (c o : ℕ) (ask : MetaAsk) (u : Update) (t : List Deed) → update_by ask t ≡ Some u → is_own c o u ≡ true → u.is_applied ≡ true → was_applied (served (Served ask ∷ t)) c o ≡ true
unfolding served was_applied
served-applied c o ask u t is own applied =
    let x = mapped-is t (attempt_of (served t) ask) u is in
    let client : (x.0.client == c) ≡ true = ap (λ (v : Update). v.client == c) x.2 ∙ (both (u.client == c) (u.op == o) own).0 in
    let number : (x.0.op == o) ≡ true = ap (λ (v : Update). v.op == o) x.2 ∙ (both (u.client == c) (u.op == o) own).1 in
    let took : applies (record_after (served t) x.0.key) x.0 ≡ true = ap (λ (v : Update). v.is_applied) x.2 ∙ applied in
    let one : is_applied_own (Some x.0) (served t) c o ≡ true = rw (client, number, took) refl in
    ap (λ (a : Option Attempt). is_applied_own a (served t) c o || was_applied (served t) c o) x.1 ∙ ap (λ (z : Bool). z || was_applied (served t) c o) one

applied-later : (c o : ℕ) (d : Deed) (t : List Deed) → was_applied (served t) c o ≡ true → was_applied (served (d ∷ t)) c o ≡ true
applied-later c o d t is =
    let a = applied-own (served t) c o is in
    let was = applied-was (served (d ∷ t)) a.0 (applied-keeps d t a.0 a.1) in
    subst (λ (n : ℕ). was_applied (served (d ∷ t)) c n ≡ true) a.3 (subst (λ (b : ℕ). was_applied (served (d ∷ t)) b a.0.op ≡ true) a.2 was)

-- where the first update of an operation was applied, one was
applied-first : (c o : ℕ) (t : List Deed) (u : Update) → first_update (is_own c o) t ≡ Some u → u.is_applied ≡ true → was_applied (served t) c o ≡ true
unfolding first_update
applied-first c o [] u is applied = absurd (none-some u is)
applied-first c o (d ∷ t) u is applied = elim (or-cases (first_update (is_own c o) t) (passing (is_own c o) (update_at d t)) u is) [
  | inl was ↦ applied-later c o d t (applied-first c o t u was applied)
  | inr now ↦ (let own = passes-own c o (update_at d t) u now.1 in elim (serves-or-not d t) [
    | inr quiet ↦ absurd (none-some u (sym quiet.1 ∙ own.0))
    | inl serves ↦
        subst (λ (y : Deed). was_applied (served (y ∷ t)) c o ≡ true) (sym serves.1)
        (served-applied c o serves.0 u t (ap (λ (y : Deed). update_at y t) (sym serves.1) ∙ own.0) own.1 applied)
  ])
]

-- ---- the runs of marks

upto : (a b : Timestamp) → a.sn ≤ b.sn → (a.sn ≡ b.sn → a.cid ≤ b.cid) → stamp_lt b a ≡ false
unfolding stamp_lt
upto a b sn cid = grind (arith, nat_tests)

to-points : {A : Type 0} (xs : List A) (x : A) → listing.IsIn xs x → IsIn xs x
to-points [] x is = is
to-points (first ∷ xs) x (inl is) = inl is
to-points (first ∷ xs) x (inr later) = inr (to-points xs x later)

among-in : (ops : List Begun) (b : Begun) → IsAmongBegun ops b → listing.IsIn ops b
among-in [] b is = is
among-in (first ∷ ops) b (inl is) = inl is
among-in (first ∷ ops) b (inr later) = inr (among-in ops b later)

-- what a judged swap replied
verdict-reply : (r : RecordValue) (cue : Cue) (reply : Reply) → answered_by (Some r) cue ≡ Some reply → (told.Swapped r.stamp ≡ reply) ⊎ ((s : Timestamp) × (told.Changed s ≡ reply))
verdict-reply r (cues.Meta (says.Swapped c o k s)) reply is = inl (same_Some (told.Swapped r.stamp) reply is)
verdict-reply r (cues.Meta (says.Changed c o k s)) reply is = inr (s, same_Some (told.Changed s) reply is)
verdict-reply r (cues.Meta (says.Has c o k h)) reply is = absurd (none-some reply is)
verdict-reply r (cues.Meta (says.Applied c o k s)) reply is = absurd (none-some reply is)
verdict-reply r (cues.Meta (says.Kept c o k s)) reply is = absurd (none-some reply is)
verdict-reply r (cues.Meta (says.Fired c o k s)) reply is = absurd (none-some reply is)
verdict-reply r (cues.Meta (says.OldList c o k ss)) reply is = absurd (none-some reply is)
verdict-reply r (cues.Meta (says.Forgot c o k)) reply is = absurd (none-some reply is)
verdict-reply r (cues.Cloud answer) reply is = absurd (none-some reply is)
verdict-reply r cues.Tick reply is = absurd (none-some reply is)

differs : (a b : Timestamp) → (b ≡ a → ⊥) → stamp_eq a b ≡ false
differs a b other = by (stamp_eq a b) refl
  where
    by : (x : Bool) → stamp_eq a b ≡ x → x ≡ false
    by false is = refl
    by true is = absurd (other (sym (stamp_eq-true a b is)))

changed-same : {a b : Timestamp} → told.Changed a ≡ told.Changed b → a ≡ b
changed-same e = cc

ended-changed : {a b : Timestamp} → told.Exhausted a ≡ told.Changed b → ⊥
ended-changed e = cc

trial-none : (t : List Deed) (u : Option Update) → trial_with t None u ≡ None
trial-none t None = refl
trial-none t (Some u) = refl

module _ (p : Params) (t : List Deed) (trace : IsTrace p t) (key : List ℕ) where
  abbrev IsOf : Begun → Mark → Type 0
  IsOf b m = IsMarkOf p t trace key b m

  -- both write, or both read at one step
  abbrev IsAlike : Run → Mark → Type 0
  IsAlike run m = ((m.reads ≡ 0) × (run_reads run ≡ false)) ⊎ ((m.reads ≡ 1) × (run_reads run ≡ true) × (run_rank run ≡ m.point.step))

  -- the run of a mark
  record IsMarkRun (b : Begun) (m : Mark) : Type 0 where
    listed : IsListedRun (IsRun p t) key m.op.number
    begun : listed.is.b ≡ b
    stamp : run_stamp listed.run ≡ m.stamp
    sort : IsAlike listed.run m

  -- a listed write, by its run
  of-write : (b : Begun) (m : Mark) → IsOf b m → IsWriteMark p t trace key b m → (change : Change) → b.start.action ≡ change_action key change → (l : IsListedWrite (change_run p t b key change)) → l.writing.stamp ≡ m.stamp → IsMarkRun b m
  of-write b m of w change action l stamp = record {
    listed = record {
      run = change_run p t b key change;
      is = record { b = b; began = of.began; is = ap (run_by p t b) action ∙ change-run-is p t b key change };
      key_is = refl;
      number_is = sym (ap (λ (x : Operation). x.number) of.op_is);
      sort = inr l;
    };
    begun = refl;
    stamp = write-stamp (change_run p t b key change) l ∙ stamp;
    sort = inl (w.reads_is, write-reads (change_run p t b key change) l);
  }

  -- a write that is listed was applied, or returned
  update-took : (b : Begun) (m : Mark) → IsOf b m → (w : IsWriteMark p t trace key b m) → (u : Update) → first_update (is_own b.client b.op) t ≡ Some u → (u.is_applied ≡ true) ⊎ ((end : ℕ) × (own_end p t b ≡ Some end))
  update-took b m of w u first = by_return (return_of p b.client b.op t) refl w.listed
    where
      by_return : (o : Option Return) → return_of p b.client b.op t ≡ o → (is_done_return o || was_applied (served t) b.client b.op) ≡ true → (u.is_applied ≡ true) ⊎ ((end : ℕ) × (own_end p t b ≡ Some end))
      by_return (Some r) returned listed = inr (r.at, ap (option_map (λ (x : Return). x.at)) returned)
      by_return None returned listed = inl (first-applied p b.client b.op t u trace first listed)

  write-run : (b : Begun) (m : Mark) → IsOf b m → IsWriteMark p t trace key b m → IsMarkRun b m
  write-run b m of w = by_change w.change refl (write-update p t trace key b m of w)
    where
      written : (u : Update) → first_update (is_own b.client b.op) t ≡ Some u → (value : Option (List ℕ)) → own_stamp (write_plan p.f p.k b.client b.op key value) (inputs_of b.client b.op t) ≡ Some m.stamp → own_writing p t b key value ≡ Some (record { step = u.step; stamp = m.stamp; is_applied = u.is_applied })
      written u first value own = ap (λ (s : Option Timestamp). writing_with s (first_update (is_own b.client b.op) t)) own ∙ ap (writing_with (Some m.stamp)) first

      own-of : (change : Change) → w.change ≡ change → own_stamp (write_plan p.f p.k b.client b.op key (change_value change)) (inputs_of b.client b.op t) ≡ Some m.stamp
      own-of change is = subst (λ (c : Change). own_stamp (write_plan p.f p.k b.client b.op key (change_value c)) (inputs_of b.client b.op t) ≡ Some m.stamp) is w.own

      by_change : (change : Change) → w.change ≡ change → (u : Update) × (first_update (is_own b.client b.op) t ≡ Some u) × (u.is_applied ≡ false → change_expected w.change ≡ None) → IsMarkRun b m
      by_change (Puts v) is u = of-write b m of w (Puts v) (w.action_is ∙ ap (change_action key) is) (record { writes = refl; writing = record { step = u.0.step; stamp = m.stamp; is_applied = u.0.is_applied }; wrote = inl (written u.0 u.1 (Some v) (own-of (Puts v) is)); took = update-took b m of w u.0 u.1 }) refl
      by_change Deletes is u = of-write b m of w Deletes (w.action_is ∙ ap (change_action key) is) (record { writes = refl; writing = record { step = u.0.step; stamp = m.stamp; is_applied = u.0.is_applied }; wrote = inl (written u.0 u.1 None (own-of Deletes is)); took = update-took b m of w u.0 u.1 }) refl
      by_change (Swaps e v) is u =
          (let action : b.start.action ≡ asked.Swap key e v = w.action_is ∙ ap (change_action key) is in
          let j = swap-judged p t trace b of.began key e v action u.0 u.1 in
          let applied = first-applied p b.client b.op t u.0 trace u.1 (swap-applied p t trace key b m of w e v is) in
          let trial : Trial = record { step = u.0.step; stamp = m.stamp; found = stamp_before t u.0.key u.0.step } in
          let tried : own_trial p t b key v ≡ Some trial = ap (λ (s : Option Timestamp). trial_with t s (first_update (is_own b.client b.op) t)) (own-of (Swaps e v) is) ∙ ap (trial_with t (Some m.stamp)) u.1 in
          of-write b m of w (Swaps e v) action (record {
            writes = ap (writes_by (acts.Swap e)) tried ∙ (sym j.applied ∙ applied);
            writing = record { step = u.0.step; stamp = m.stamp; is_applied = true };
            wrote = inr (trial, refl, tried, refl);
            took = inl refl;
          }) refl)

  get-read : (b : Begun) (m : Mark) → IsOf b m → (read : IsReadMark p t trace key b m) → IsGetMark p t trace key b m read.ret → IsMarkRun b m
  get-read b m of read get =
      let inputs = inputs_of b.client b.op t in
      let h = return-reply p b.client b.op t read.ret trace read.returned in
      let same : h.start ≡ b.start = start-same b.client b.op t h.start b.start h.began of.began in
      let replies : read_reply inputs ≡ Some read.ret.reply = as-read b.client b.op key inputs p ∙ (ap (λ (a : Action). replied p.f p.k b.client b.op a inputs) (sym (ap (λ (s : Start). s.action) same ∙ get.action_is)) ∙ h.replies) in
      let answer = reply-version p b.client b.op key read.ret.reply t trace (λ s began. ap (λ (x : Start). x.action) (start-same b.client b.op t s b.start began of.began) ∙ get.action_is) replies in
      let v = answered-version (version_of inputs) read.ret.reply answer in
      let stamp : stamp_of_record v.0.rec ≡ m.stamp = sym (answer-stamp v.0.rec v.0.since read.ret.reply (sym (ap answer_of v.1) ∙ answer)) ∙ get.stamp_is in
      let run : Run = get_run p t b key in
      let found : IsListedRead run = record {
        reads = refl;
        reading = record { step = version_made b.client b.op t; found = version_stamp v.0 };
        decided = ap (option_map (λ version. record { step = version_made b.client b.op t; found = version_stamp version })) v.1;
        other = λ expected e. cc;
        end = read.ret.at;
        ended = ap (option_map (λ (x : Return). x.at)) read.returned;
      } in
      record {
        listed = record { run = run; is = record { b = b; began = of.began; is = ap (run_by p t b) get.action_is }; key_is = refl; number_is = sym (ap (λ (x : Operation). x.number) of.op_is); sort = inl found };
        begun = refl;
        stamp = read-stamp run found ∙ stamp;
        sort = inr (read.reads_is, read-reads run found, read-rank run found ∙ sym (ap (λ (x : Point). x.step) get.point_is));
      }

  -- a swap that found another record
  changed-read : (b : Begun) (m : Mark) → IsOf b m → (read : IsReadMark p t trace key b m) → IsChangedMark p t trace key b m read.ret → IsMarkRun b m
  unfolding changed_point
  changed-read b m of read changed = by_first (first_update (is_own b.client b.op) t) refl
    where
      ended : own_end p t b ≡ Some read.ret.at
      ended = ap (option_map (λ (x : Return). x.at)) read.returned

      made : (l : IsListedRead (change_run p t b key (Swaps changed.expected changed.value))) → l.reading.found ≡ m.stamp → l.reading.step ≡ m.point.step → IsMarkRun b m
      made l stamp step = record {
        listed = record { run = change_run p t b key (Swaps changed.expected changed.value); is = record { b = b; began = of.began; is = ap (run_by p t b) changed.action_is }; key_is = refl; number_is = sym (ap (λ (x : Operation). x.number) of.op_is); sort = inl l };
        begun = refl;
        stamp = read-stamp (change_run p t b key (Swaps changed.expected changed.value)) l ∙ stamp;
        sort = inr (read.reads_is, read-reads (change_run p t b key (Swaps changed.expected changed.value)) l, read-rank (change_run p t b key (Swaps changed.expected changed.value)) l ∙ step);
      }

      point-is : (f : Option Update) → first_update (is_own b.client b.op) t ≡ f → m.point ≡ changed_by f b.client b.op t
      point-is f is = changed.point_is ∙ ap (λ (x : Option Update). changed_by x b.client b.op t) is

      at-once : first_update (is_own b.client b.op) t ≡ None → SwapReplies (write_plan p.f p.k b.client b.op key (Some changed.value)) changed.expected (inputs_of b.client b.op t) read.ret.reply → IsMarkRun b m
      at-once none (inl a) =
          (let own = update-own (write_plan p.f p.k b.client b.op key (Some changed.value)) (inputs_of b.client b.op t) a.rec a.update in
          let u = judged-before p t trace b of.began key changed.expected changed.value changed.action_is a.met a.rec.stamp own read.ret read.returned in
          absurd (none-some u.0 (sym none ∙ u.1)))
      at-once none (inr (inr end)) = absurd (ended-changed (end.reply_is ∙ changed.reply_is))
      at-once none (inr (inl c)) =
          (let stamp : stamp_of_record c.held ≡ m.stamp = changed-same (c.reply_is ∙ changed.reply_is) in
          let other : stamp_eq changed.expected (stamp_of_record c.held) ≡ false = stamp_eq-flip (stamp_of_record c.held) changed.expected false c.other in
          let tried : own_trial p t b key changed.value ≡ None = ap (trial_with t (own_stamp (write_plan p.f p.k b.client b.op key (Some changed.value)) (inputs_of b.client b.op t))) none in
          let step : first_made b.client b.op t ≡ version_made b.client b.op t = once-told p b.client b.op key changed.expected changed.value t trace (λ s began. ap (λ (x : Start). x.action) (start-same b.client b.op t s b.start began of.began) ∙ changed.action_is) c.held c.has c.other in
          made (record {
            reads = ap (λ (o : Option Trial). not (writes_by (acts.Swap changed.expected) o)) tried;
            reading = record { step = first_made b.client b.op t; found = stamp_of_record c.held };
            decided = ap (deciding (first_reading p t b)) tried ∙ ap (option_map (λ held. record { step = first_made b.client b.op t; found = stamp_of_record held })) c.has;
            other = λ expected is. ap (λ (s : Timestamp). stamp_eq s (stamp_of_record c.held)) (swap-same (sym is)) ∙ other;
            end = read.ret.at;
            ended = ended;
          }) stamp (step ∙ sym (ap (λ (x : Point). x.step) (point-is None none))))

      by_first : (f : Option Update) → first_update (is_own b.client b.op) t ≡ f → IsMarkRun b m
      by_first None none = at-once none (swap-replies p t trace b of.began key changed.expected changed.value changed.action_is read.ret read.returned).1
      by_first (Some u) first =
          (let j = swap-judged p t trace b of.began key changed.expected changed.value changed.action_is u first in
          let served_ = (first-served (is_own b.client b.op) t u first).0 in
          let some = served_.some in
          let step : u.step ≡ m.point.step = sym (ap (λ (x : Point). x.step) (point-is (Some u) first)) in
          let next : u.step - 1 + 1 ≡ u.step = omega (arith, some) in
          let found : stamp_before t u.key u.step ≡ m.stamp = before-at t u.key u.step (u.step - 1) next served_.within ∙ (ap (λ (k : List ℕ). top_at t k (u.step - 1)) j.key_is ∙ read.at.before (u.step - 1) (next ∙ step)) in
          let other : stamp_eq changed.expected (stamp_before t u.key u.step) ≡ false = differs changed.expected (stamp_before t u.key u.step) (λ same. changed.other (sym found ∙ same)) in
          let trial : Trial = record { step = u.step; stamp = u.stamp; found = stamp_before t u.key u.step } in
          let tried : own_trial p t b key changed.value ≡ Some trial = ap (λ (s : Option Timestamp). trial_with t s (first_update (is_own b.client b.op) t)) j.own ∙ ap (trial_with t (Some u.stamp)) first in
          made (record {
            reads = ap (λ (o : Option Trial). not (writes_by (acts.Swap changed.expected) o)) tried ∙ ap not other;
            reading = record { step = u.step; found = stamp_before t u.key u.step };
            decided = ap (deciding (first_reading p t b)) tried;
            other = λ expected is. ap (λ (s : Timestamp). stamp_eq s (stamp_before t u.key u.step)) (swap-same (sym is)) ∙ other;
            end = read.ret.at;
            ended = ended;
          }) found step)

  read-run : (b : Begun) (m : Mark) → IsOf b m → IsReadMark p t trace key b m → IsMarkRun b m
  read-run b m of read = elim read.kind [ inl get ↦ get-read b m of read get | inr changed ↦ changed-read b m of read changed ]

  mark-run : (b : Begun) (m : Mark) → IsOf b m → IsMarkRun b m
  mark-run b m of = elim of.sort [ inl write ↦ write-run b m of write | inr read ↦ read-run b m of read ]

  -- ---- the marks in order are those of runs in order

  mark-precedes : (a b : Begun) (x y : Mark) → IsOf a x → IsOf b y → Before x y → (x.op.number ≡ y.op.number → ⊥) → Precedes (IsRun p t) key x.op.number y.op.number
  mark-precedes a b x y first second before other =
      let r = mark-run a x first in
      let s = mark-run b y second in
      let parts = before-parts x y before in
      record {
        first = r.listed;
        second = s.listed;
        other = other;
        may = record {
          stamps = ap (λ (q : Timestamp). stamp_lt q (run_stamp r.listed.run)) s.stamp ∙ (ap (stamp_lt y.stamp) r.stamp ∙ upto x.stamp y.stamp parts.sn parts.cid);
          kinds = λ same reads. kinds r.listed.run s.listed.run (sym r.stamp ∙ (same ∙ s.stamp)) reads r.sort s.sort;
          ranks = λ same reads too. ranks r.listed.run s.listed.run (sym r.stamp ∙ (same ∙ s.stamp)) reads too r.sort s.sort;
        };
      }
    where
      kinds : (run other_ : Run) → x.stamp ≡ y.stamp → run_reads run ≡ true → IsAlike run x → IsAlike other_ y → run_reads other_ ≡ true
      kinds run other_ same reads (inl write) there = absurd (both_ways (run_reads run) write.1 reads)
      kinds run other_ same reads (inr read) (inr found) = found.1
      kinds run other_ same reads (inr read) (inl write) =
          let parts = before-parts x y before in
          let le = parts.reads (ap (λ (q : Timestamp). q.sn) same) (ap (λ (q : Timestamp). q.cid) same) in
          let one = read.0 in let zero_ = write.0 in
          absurd (omega (arith, le, one, zero_))

      ranks : (run other_ : Run) → x.stamp ≡ y.stamp → run_reads run ≡ true → run_reads other_ ≡ true → IsAlike run x → IsAlike other_ y → run_rank run ≤ run_rank other_
      ranks run other_ same reads too (inl write) there = absurd (both_ways (run_reads run) write.1 reads)
      ranks run other_ same reads too (inr read) (inl write) = absurd (both_ways (run_reads other_) write.1 too)
      ranks run other_ same reads too (inr read) (inr found) =
          let parts = before-parts x y before in
          let le = parts.point (ap (λ (q : Timestamp). q.sn) same) (ap (λ (q : Timestamp). q.cid) same) (read.0 ∙ sym found.0) in
          let here = read.2 in let also = found.2 in
          omega (arith, le, here, also)

  marks-precede : (ms : List Mark) → AllByRecursion (Is p t trace key) ms → AreInOrder ms → listing.AreOther ms → AllPairs (Precedes (IsRun p t) key) (map number_of (map op_of ms))
  marks-precede [] are ordered others = tt
  marks-precede (m ∷ ms) are ordered others = (each ms are.1 ordered.0 others.0, marks-precede ms are.1 ordered.1 others.1)
    where
      each : (xs : List Mark) → AllByRecursion (Is p t trace key) xs → AllByRecursion (Before m) xs → AllByRecursion (listing.IsOther m) xs → AllByRecursion (Precedes (IsRun p t) key m.op.number) (map number_of (map op_of xs))
      each [] marks before differ = tt
      each (x ∷ xs) marks before differ = (mark-precedes are.0.0 marks.0.0 m x are.0.1 marks.0.1 before.0 differ.0, each xs marks.1 before.1 differ.1)

  all-listed : (ms : List Mark) → AllByRecursion (Is p t trace key) ms → AllByRecursion (IsListedRun (IsRun p t) key) (map number_of (map op_of ms))
  all-listed [] are = tt
  all-listed (m ∷ ms) are = ((mark-run are.0.0 m are.0.1).listed, all-listed ms are.1)

  -- ---- marks of different operations have different numbers

  numbers-differ : (a b : Begun) (m n : Mark) → IsOf a m → IsOf b n → ((a.client ≡ b.client) × (a.op ≡ b.op) → ⊥) → listing.IsOther m n
  numbers-differ a b m n first second other same =
      let x = mark-run a m first in
      let y = mark-run b n second in
      let one : x.listed.run ≡ y.listed.run = (are-runs p t trace).numbers x.listed.run y.listed.run x.listed.is y.listed.is (x.listed.number_is ∙ (same ∙ sym y.listed.number_is)) in
      let here = (begun-is p t x.listed.run x.listed.is).2 in
      let there = (begun-is p t y.listed.run y.listed.is).2 in
      let steps = ap (λ (r : Run). r.begun) one in
      let names = one-start x.listed.is.b.client x.listed.is.b.op y.listed.is.b.client y.listed.is.b.op t x.listed.is.b.start y.listed.is.b.start x.listed.is.began y.listed.is.began (omega (arith, here, there, steps)) in
      other (
        sym (ap (λ (c : Begun). c.client) x.begun) ∙ (names.0 ∙ ap (λ (c : Begun). c.client) y.begun),
        sym (ap (λ (c : Begun). c.op) x.begun) ∙ (names.1 ∙ ap (λ (c : Begun). c.op) y.begun),
      )

  picked-others : (ops : List Begun) → AllByRecursion (λ b. start_of b.client b.op t ≡ Some b.start) ops → AreOthers ops → listing.AreOther (filter_map (mark_of p t key) ops)
  picked-others [] began others = tt
  picked-others (b ∷ ops) began others = by_first (mark_of p t key b) refl (picked-others ops began.1 others.1)
    where
      by_first : (o : Option Mark) → mark_of p t key b ≡ o → listing.AreOther (filter_map (mark_of p t key) ops) → listing.AreOther (cons_option o (filter_map (mark_of p t key) ops))
      by_first None is rest = rest
      by_first (Some m) is rest =
          let here = mark-is p t trace key b m began.0 is in (
            picked (mark_of p t key) (λ a. (start_of a.client a.op t ≡ Some a.start) × ((b.client ≡ a.client) × (b.op ≡ a.op) → ⊥)) (listing.IsOther m) ops
                (λ a n known is_too. numbers-differ b a m n here (mark-is p t trace key a n known.0 is_too) known.1)
                (all-pairs (λ a. start_of a.client a.op t ≡ Some a.start) (λ a. (b.client ≡ a.client) × (b.op ≡ a.op) → ⊥) ops began.1 others.0),
            rest,
          )

  -- ---- a run that is listed has a mark

  abbrev HasMark : Begun → Type 0
  HasMark b = (m : Mark) × (mark_of p t key b ≡ Some m) × (m.op ≡ operation_of p t b)

  of-key : (b : Begun) → key_of b.start.action ≡ key → key_eq (key_of b.start.action) key ≡ true
  of-key b is = ap (λ (k : List ℕ). key_eq k key) is ∙ key_eq-same key

  -- the reply of a run that returned
  returned : (run : Run) → (is : IsRun p t run) → (end : ℕ) → run.ended ≡ Some end → (r : Return) × (return_of p is.b.client is.b.op t ≡ Some r)
  returned run is end ended = (let x = map-some (λ (r : Return). r.at) (return_of p is.b.client is.b.op t) end (sym (begun-is p t run is).3 ∙ ended) in (x.0, x.1))

  marked : (b : Begun) → key_of b.start.action ≡ key → (m : Mark) → mark_by p t b b.start.action ≡ Some m → m.op ≡ operation_of p t b → HasMark b
  unfolding mark_of
  marked b key_is m mark op = (let key_of_b : key_eq (key_of b.start.action) key ≡ true = of-key b key_is in (m, rw key_of_b mark, op))

  -- a write that did what was asked or was applied, and has a timestamp
  made-mark : (b : Begun) (k : List ℕ) (value : Option (List ℕ)) (x : Timestamp) → own_stamp (write_plan p.f p.k b.client b.op k value) (inputs_of b.client b.op t) ≡ Some x → (is_done_return (return_of p b.client b.op t) || was_applied (served t) b.client b.op) ≡ true
      → write_mark p t b k value ≡ Some (record { op = operation_of p t b; stamp = x; reads = 0; point = write_point b.client b.op t })
  made-mark b k value x own listed = rw (listed, own) refl

  -- ---- puts and deletes

  put-done : (run : Run) → (is : IsRun p t run) → (w : IsWriteRun p t is.b run) → (change : Change) → change_expected change ≡ None → is.b.start.action ≡ change_action run.key change → (x : Timestamp) → own_stamp (write_plan p.f p.k is.b.client is.b.op run.key (change_value change)) (inputs_of is.b.client is.b.op t) ≡ Some x
      → (r : Return) → return_of p is.b.client is.b.op t ≡ Some r → is_done_return (return_of p is.b.client is.b.op t) ≡ true
  put-done run is w change free action x own r is_returned =
      let b = is.b in
      let inputs = inputs_of b.client b.op t in
      let plan = write_plan p.f p.k b.client b.op run.key (change_value change) in
      let h = return-reply p b.client b.op t r trace is_returned in
      let same : h.start ≡ b.start = start-same b.client b.op t h.start b.start h.began is.began in
      let replies : write_reply plan inputs ≡ Some r.reply = sym (replied-write p b.client b.op run.key change inputs ∙ free-reply plan change inputs free) ∙ (ap (λ (a : Action). replied p.f p.k b.client b.op a inputs) (sym (ap (λ (s : Start). s.action) same ∙ action)) ∙ h.replies) in
      ap is_done_return is_returned ∙ ap is_done (sym (write-done plan inputs x r.reply own replies))

  put-mark : (run : Run) → (is : IsRun p t run) → run.key ≡ key → (w : IsWriteRun p t is.b run) → (change : Change) → change_expected change ≡ None → is.b.start.action ≡ change_action run.key change → mark_by p t is.b (change_action run.key change) ≡ write_mark p t is.b run.key (change_value change)
      → (x : Writing) → own_writing p t is.b run.key (change_value change) ≡ Some x → (x.is_applied ≡ true) ⊎ ((end : ℕ) × (run.ended ≡ Some end)) → HasMark is.b
  put-mark run is key_is w change free action by x wrote took =
      let b = is.b in
      let y = writing-parts (own_stamp (write_plan p.f p.k b.client b.op run.key (change_value change)) (inputs_of b.client b.op t)) (first_update (is_own b.client b.op) t) x wrote in
      marked b (ap key_of action ∙ (key_of-write run.key change ∙ key_is)) (record { op = operation_of p t b; stamp = x.stamp; reads = 0; point = write_point b.client b.op t })
      (ap (mark_by p t b) action ∙ (by ∙ made-mark b run.key (change_value change) x.stamp y.2 (listed y.0 y.1 y.4 y.2 took))) refl
    where
      listed : (u : Update) → first_update (is_own is.b.client is.b.op) t ≡ Some u → x.is_applied ≡ u.is_applied → own_stamp (write_plan p.f p.k is.b.client is.b.op run.key (change_value change)) (inputs_of is.b.client is.b.op t) ≡ Some x.stamp
          → (x.is_applied ≡ true) ⊎ ((end : ℕ) × (run.ended ≡ Some end)) → (is_done_return (return_of p is.b.client is.b.op t) || was_applied (served t) is.b.client is.b.op) ≡ true
      listed u first same own (inl applied) = or-true (is_done_return (return_of p is.b.client is.b.op t)) (was_applied (served t) is.b.client is.b.op) (applied-first is.b.client is.b.op t u first (sym same ∙ applied))
      listed u first same own (inr ended) =
          (let r = returned run is ended.0 ended.1 in
          ap (λ (x : Bool). x || was_applied (served t) is.b.client is.b.op) (put-done run is w change free action x.stamp own r.0 r.1))

  -- ---- swaps

  changed-op : (b : Begun) (o : Option Return) (m : Mark) → changed_mark p t b o ≡ Some m → m.op ≡ operation_of p t b
  changed-op b None m is = absurd (none-some m is)
  changed-op b (Some r) m is = by_reply r.reply is
    where
      by_reply : (reply : Reply) → changed_reply_mark p t b reply ≡ Some m → m.op ≡ operation_of p t b
      by_reply (told.Changed s) is = ap (λ (x : Mark). x.op) (sym (same_Some (record { op = operation_of p t b; stamp = s; reads = 1; point = changed_point b.client b.op t }) m is))
      by_reply (told.Swapped s) is = absurd (none-some m is)
      by_reply (told.Done s) is = absurd (none-some m is)
      by_reply (told.Exhausted s) is = absurd (none-some m is)
      by_reply (told.Collected n) is = absurd (none-some m is)
      by_reply (told.Value v s) is = absurd (none-some m is)
      by_reply (told.Absent s) is = absurd (none-some m is)

  -- a swap that found another record
  changed-marked : (b : Begun) (k : List ℕ) (e : Timestamp) (v : List ℕ) → b.start.action ≡ asked.Swap k e v → k ≡ key → (m : Mark) → changed_mark p t b (return_of p b.client b.op t) ≡ Some m → HasMark b
  changed-marked b k e v action key_is m changed =
      marked b (ap key_of action ∙ key_is) m (ap (mark_by p t b) action ∙ ap (λ (o : Option Mark). option_or o (write_mark p t b k (Some v))) changed) (changed-op b (return_of p b.client b.op t) m changed)

  -- a swap that has the mark of a write
  swap-mark : (b : Begun) (k : List ℕ) (e : Timestamp) (v : List ℕ) → b.start.action ≡ asked.Swap k e v → k ≡ key → (m : Mark) → write_mark p t b k (Some v) ≡ Some m → m.op ≡ operation_of p t b → HasMark b
  swap-mark b k e v action key_is m write op = by_changed (changed_mark p t b (return_of p b.client b.op t)) refl
    where
      by_changed : (o : Option Mark) → changed_mark p t b (return_of p b.client b.op t) ≡ o → HasMark b
      by_changed (Some n) is = changed-marked b k e v action key_is n is
      by_changed None is = marked b (ap key_of action ∙ key_is) m (ap (mark_by p t b) action ∙ (ap (λ (o : Option Mark). option_or o (write_mark p t b k (Some v))) is ∙ write)) op

  changed-has : (b : Begun) (k : List ℕ) (e : Timestamp) (v : List ℕ) → b.start.action ≡ asked.Swap k e v → k ≡ key → (r : Return) → return_of p b.client b.op t ≡ Some r → (s : Timestamp) → told.Changed s ≡ r.reply → HasMark b
  changed-has b k e v action key_is r is_returned s reply =
      changed-marked b k e v action key_is (record { op = operation_of p t b; stamp = s; reads = 1; point = changed_point b.client b.op t }) (ap (changed_mark p t b) is_returned ∙ ap (changed_reply_mark p t b) (sym reply))

  -- a swap that was applied
  swapped-has : (run : Run) → (is : IsRun p t run) → run.key ≡ key → (w : IsWriteRun p t is.b run) → (e : Timestamp) (v : List ℕ) → w.change ≡ Swaps e v → (r : Trial) → run.tried ≡ Some r → writes_by run.act run.tried ≡ true → HasMark is.b
  swapped-has run is key_is w e v same r tried writes_ =
      let b = is.b in
      let action : b.start.action ≡ asked.Swap run.key e v = w.action_is ∙ ap (change_action run.key) same in
      let trial : own_trial p t b run.key v ≡ Some r = sym (ap (λ (y : Run). y.tried) w.run_is ∙ ap (change_trial p t b run.key) same) ∙ tried in
      let x = trial-parts t (own_stamp (write_plan p.f p.k b.client b.op run.key (Some v)) (inputs_of b.client b.op t)) (first_update (is_own b.client b.op) t) r trial in
      let j = swap-judged p t trace b is.began run.key e v action x.0 x.1 in
      let met : stamp_eq e r.found ≡ true = sym (ap (λ (a : ActKind). writes_by a run.tried) (ap (λ (y : Run). y.act) w.run_is ∙ ap change_act same) ∙ ap (writes_by (acts.Swap e)) tried) ∙ writes_ in
      let applied : x.0.is_applied ≡ true = j.applied ∙ (ap (stamp_eq e) (sym x.4) ∙ met) in
      let listed : (is_done_return (return_of p b.client b.op t) || was_applied (served t) b.client b.op) ≡ true = or-true (is_done_return (return_of p b.client b.op t)) (was_applied (served t) b.client b.op) (applied-first b.client b.op t x.0 x.1 applied) in
      swap-mark b run.key e v action key_is (record { op = operation_of p t b; stamp = r.stamp; reads = 0; point = write_point b.client b.op t }) (made-mark b run.key (Some v) r.stamp x.2 listed) refl

  -- a swap that returned and found another record
  refused-has : (run : Run) → (is : IsRun p t run) → run.key ≡ key → (w : IsWriteRun p t is.b run) → (e : Timestamp) (v : List ℕ) → w.change ≡ Swaps e v → IsListedRead run → HasMark is.b
  unfolding own_stamp
  refused-has run is key_is w e v same l = by_return (returned run is l.end l.ended)
    where
      action : is.b.start.action ≡ asked.Swap run.key e v
      action = w.action_is ∙ ap (change_action run.key) same

      never : (r : Return) → (end : IsEndedSwap (write_plan p.f p.k is.b.client is.b.op run.key (Some v)) (inputs_of is.b.client is.b.op t) r.reply) → swap_reply (write_plan p.f p.k is.b.client is.b.op run.key (Some v)) e (inputs_of is.b.client is.b.op t) ≡ Some r.reply → ⊥
      never r end replies =
          (let none : own_stamp (write_plan p.f p.k is.b.client is.b.op run.key (Some v)) (inputs_of is.b.client is.b.op t) ≡ None = ap (option_and_then (stamp_upon is.b.client)) end.has ∙ end.none in
          let tried : run.tried ≡ None = ap (λ (y : Run). y.tried) w.run_is ∙ (ap (change_trial p t is.b run.key) same ∙ (ap (λ (o : Option Timestamp). trial_with t o (first_update (is_own is.b.client is.b.op) t)) none ∙ trial-none t (first_update (is_own is.b.client is.b.op) t))) in
          let read : first_reading p t is.b ≡ Some l.reading = sym (ap (deciding run.asked) tried ∙ ap (λ (y : Run). y.asked) w.run_is) ∙ l.decided in
          let found : stamp_of_record end.held ≡ l.reading.found = ap (λ (x : Reading). x.found) (same_Some (record { step = first_made is.b.client is.b.op t; found = stamp_of_record end.held }) l.reading (sym (ap (option_map (λ held. record { step = first_made is.b.client is.b.op t; found = stamp_of_record held })) end.has) ∙ read)) in
          let other : stamp_eq e (stamp_of_record end.held) ≡ false = ap (stamp_eq e) found ∙ l.other e (ap (λ (y : Run). y.act) w.run_is ∙ ap change_act same) in
          ended-changed (end.reply_is ∙ sym (changed-reply (write_plan p.f p.k is.b.client is.b.op run.key (Some v)) e (inputs_of is.b.client is.b.op t) end.held end.has (stamp_eq-flip e (stamp_of_record end.held) false other) r.reply replies)))

      by_verdict : (r : Return) → return_of p is.b.client is.b.op t ≡ Some r → (rec : RecordValue) → own_stamp (write_plan p.f p.k is.b.client is.b.op run.key (Some v)) (inputs_of is.b.client is.b.op t) ≡ Some rec.stamp → (told.Swapped rec.stamp ≡ r.reply) ⊎ ((s : Timestamp) × (told.Changed s ≡ r.reply)) → HasMark is.b
      by_verdict r is_returned rec own (inr changed) = changed-has is.b run.key e v action key_is r is_returned changed.0 changed.1
      by_verdict r is_returned rec own (inl done) =
          swap-mark is.b run.key e v action key_is (record { op = operation_of p t is.b; stamp = rec.stamp; reads = 0; point = write_point is.b.client is.b.op t })
          (made-mark is.b run.key (Some v) rec.stamp own (ap (λ (o : Option Return). is_done_return o || was_applied (served t) is.b.client is.b.op) is_returned ∙ ap (λ (x : Reply). is_done x || was_applied (served t) is.b.client is.b.op) (sym done))) refl

      by_reply : (r : Return) → return_of p is.b.client is.b.op t ≡ Some r → (swap_reply (write_plan p.f p.k is.b.client is.b.op run.key (Some v)) e (inputs_of is.b.client is.b.op t) ≡ Some r.reply) × SwapReplies (write_plan p.f p.k is.b.client is.b.op run.key (Some v)) e (inputs_of is.b.client is.b.op t) r.reply → HasMark is.b
      by_reply r is_returned replies = elim replies.1 [
        | inl a ↦ by_verdict r is_returned a.rec (update-own (write_plan p.f p.k is.b.client is.b.op run.key (Some v)) (inputs_of is.b.client is.b.op t) a.rec a.update) (verdict-reply a.rec a.cue r.reply a.answer)
        | inr rest ↦ elim rest [
          | inl changed ↦ changed-has is.b run.key e v action key_is r is_returned (stamp_of_record changed.held) changed.reply_is
          | inr end ↦ absurd (never r end replies.0)
        ]
      ]

      by_return : (r : Return) × (return_of p is.b.client is.b.op t ≡ Some r) → HasMark is.b
      by_return ret = by_reply ret.0 ret.1 (swap-replies p t trace is.b is.began run.key e v action ret.0 ret.1)

  reply-mark : (b : Begun) (reply : Reply) → is_read_reply reply ≡ true → (m : Mark) × (reply_mark p t b reply ≡ Some m) × (m.op ≡ operation_of p t b)
  reply-mark b (told.Value v s) is = (_, refl, refl)
  reply-mark b (told.Absent s) is = (_, refl, refl)
  reply-mark b (told.Done s) is = absurd (false≢true is)
  reply-mark b (told.Exhausted s) is = absurd (false≢true is)
  reply-mark b (told.Collected n) is = absurd (false≢true is)
  reply-mark b (told.Swapped s) is = absurd (false≢true is)
  reply-mark b (told.Changed s) is = absurd (false≢true is)

  read-mark : (run : Run) → (is : IsRun p t run) → run.key ≡ key → IsReadRun p t is.b run → IsListedRead run → HasMark is.b
  read-mark run is key_is w l =
      let b = is.b in
      let inputs = inputs_of b.client b.op t in
      let r = returned run is l.end l.ended in
      let h = return-reply p b.client b.op t r.0 trace r.1 in
      let same : h.start ≡ b.start = start-same b.client b.op t h.start b.start h.began is.began in
      let replies : read_reply inputs ≡ Some r.0.reply = as-read b.client b.op run.key inputs p ∙ (ap (λ (a : Action). replied p.f p.k b.client b.op a inputs) (sym (ap (λ (s : Start). s.action) same ∙ w.action_is)) ∙ h.replies) in
      let m = reply-mark b r.0.reply (read-replies inputs r.0.reply replies) in
      marked b (ap key_of w.action_is ∙ key_is) m.0 (ap (mark_by p t b) w.action_is ∙ (ap (read_mark p t b) r.1 ∙ m.1)) m.2

  -- a run of a put, a delete or a swap that is listed as a write
  write-mark : (run : Run) → (is : IsRun p t run) → run.key ≡ key → (w : IsWriteRun p t is.b run) → IsListedWrite run → (change : Change) → w.change ≡ change → HasMark is.b
  write-mark run is key_is w l change same = by_change change same l.wrote
    where
      wrote-set : (c : Change) → w.change ≡ c → run.set ≡ Some l.writing → change_set p t is.b run.key c ≡ Some l.writing
      wrote-set c is_ set = sym (ap (λ (y : Run). y.set) w.run_is ∙ ap (change_set p t is.b run.key) is_) ∙ set

      never-tried : (c : Change) → w.change ≡ c → change_trial p t is.b run.key c ≡ None → (r : Trial) → run.tried ≡ Some r → ⊥
      never-tried c is_ none r tried = none-some r (sym (ap (λ (y : Run). y.tried) w.run_is ∙ (ap (change_trial p t is.b run.key) is_ ∙ none)) ∙ tried)

      by_change : (c : Change) → w.change ≡ c → WroteBy run l.writing → HasMark is.b
      by_change (Puts v) is_ (inl set) = put-mark run is key_is w (Puts v) refl (w.action_is ∙ ap (change_action run.key) is_) refl l.writing (wrote-set (Puts v) is_ set) l.took
      by_change Deletes is_ (inl set) = put-mark run is key_is w Deletes refl (w.action_is ∙ ap (change_action run.key) is_) refl l.writing (wrote-set Deletes is_ set) l.took
      by_change (Puts v) is_ (inr tried) = absurd (never-tried (Puts v) is_ refl tried.0 tried.2)
      by_change Deletes is_ (inr tried) = absurd (never-tried Deletes is_ refl tried.0 tried.2)
      by_change (Swaps e v) is_ (inl set) = absurd (none-some l.writing (wrote-set (Swaps e v) is_ set))
      by_change (Swaps e v) is_ (inr tried) = swapped-has run is key_is w e v is_ tried.0 tried.2 l.writes

  -- one that is listed as a read is a swap
  found-mark : (run : Run) → (is : IsRun p t run) → run.key ≡ key → (w : IsWriteRun p t is.b run) → IsListedRead run → (change : Change) → w.change ≡ change → HasMark is.b
  found-mark run is key_is w l (Puts v) same = absurd (false≢true (sym (ap (λ (a : ActKind). not (writes_by a run.tried)) (ap (λ (y : Run). y.act) w.run_is ∙ ap change_act same)) ∙ l.reads))
  found-mark run is key_is w l Deletes same = absurd (false≢true (sym (ap (λ (a : ActKind). not (writes_by a run.tried)) (ap (λ (y : Run). y.act) w.run_is ∙ ap change_act same)) ∙ l.reads))
  found-mark run is key_is w l (Swaps e v) same = refused-has run is key_is w e v same l

  run-mark : (run : Run) → (is : IsRun p t run) → run.key ≡ key → IsListedRead run ⊎ IsListedWrite run → IsWriteRun p t is.b run ⊎ IsReadRun p t is.b run → HasMark is.b
  run-mark run is key_is (inr l) (inl w) = write-mark run is key_is w l w.change refl
  run-mark run is key_is (inl l) (inr w) = read-mark run is key_is w l
  run-mark run is key_is (inl l) (inl w) = found-mark run is key_is w l w.change refl
  run-mark run is key_is (inr l) (inr w) = absurd (false≢true (sym (ap (λ (a : ActKind). writes_by a run.tried) (ap (λ (y : Run). y.act) w.run_is)) ∙ l.writes))

  abbrev in_row : List Mark
  in_row = sorted_marks is_behind (marks_of p t key)

  complete : (n : ℕ) → IsListedRun (IsRun p t) key n → IsIn (map number_of (map op_of in_row)) n
  complete n r =
      let b = r.is.b in
      let m = run-mark r.run r.is r.key_is r.sort (kind p t r.run r.is) in
      let here : IsIn in_row m.0 = to-points in_row m.0 (listing.in-sorted (marks_of p t key) m.0 (listing.in-picked (mark_of p t key) (begun_of t) b m.0 (among-in (begun_of t) b (begun-in b.client b.op t b.start r.is.began)) m.1)) in
      subst (IsIn (map number_of (map op_of in_row))) (ap number_of m.2 ∙ (sym (begun-is p t r.run r.is).0 ∙ r.number_is))
      (in-map number_of (map op_of in_row) m.0.op (in-map op_of in_row m.0 here))

  -- ---- the order

  pub order-is : logged.linearization_of (points_of p t) key ≡ linearization_of p t key
  unfolding points_of linearization_of
  order-is =
      let are : AllByRecursion (Is p t trace key) in_row = sorted-are p t trace key in
      let began = begun-are p t trace in
      order-of-runs step_of point_at (IsRun p t) (top_at t) (in_order p t trace) (are-moments p t trace) (are-runs p t trace) key (map number_of (map op_of in_row))
      (marks-precede in_row are (sorted-ordered (marks_of p t key)) (listing.other-sorted (marks_of p t key) (picked-others (begun_of t) began.0 began.1)))
      (all-listed in_row are) complete
      ∙ ap (λ (ms : List Mark). map number_of (map op_of ms)) (sym (orders-same p t trace key))
