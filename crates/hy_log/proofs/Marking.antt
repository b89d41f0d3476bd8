-- The place that the log gives an operation is that of its mark in the order of its key.
use Rattle.std.proofs.Common.{◌≡◌, ℕ, Bool, true, false, cond, List, Option, Some, None, refl, ap, ◌∙◌}
use Rattle.std.specs.Prelude.{◌||◌, ◌==◌}
use Rattle.std.specs.Option.{option_and_then, option_map, option_or}
use Rattle.hy_record.specs.declared.action.Action.{Action}
use Rattle.hy_record.specs.declared.action.Action.TheVariants as asked
use Rattle.hy_record.specs.declared.action.Reply.{Reply}
use Rattle.hy_record.specs.declared.action.Reply.TheVariants as told
use Rattle.hy_record.specs.Key.{key_eq}
use Rattle.hy_record.specs.Record.{RecordValue}
use Rattle.hy_record.specs.Stamp.{Timestamp, next_stamp}
use Rattle.hy_meta.specs.Service.{stamp_of_record}
use Rattle.hy_protocol.specs.Operations.{key_of}
use Rattle.hy_protocol.specs.Write.{first_has, own_stamp, stamp_upon}
use Rattle.hy_trace.specs.Deeds.{Params, Deed, served, inputs_of}
use Rattle.hy_trace.specs.History.{Return, return_of, Begun, operation_of}
use Rattle.hy_trace.specs.Order.{Mark, is_done_return, write_mark, read_mark, changed_reply_mark, changed_mark, mark_by, mark_of}
use Rattle.hy_trace.specs.Points as points
use Rattle.hy_trace.specs.Points.{Update, first_update, is_own, was_applied, write_point, version_made, changed_point}
use Rattle.hy_log.specs.declared.course.Course.{Course}
use Rattle.hy_log.specs.declared.place.Place.{Place}
use Rattle.hy_log.specs.Courses.{course_of, kept_return, kept_update, AreCourses}
use Rattle.hy_log.specs.Orders.{is_done, place_of_write, write_place, returned_place, step_or, found_changed, changed_by, action_place, course_place}
use Rattle.hy_log.proofs.Telling.{start_line}

-- the step of a read; a write has none
abbrev pub read_step : ℕ → ℕ → ℕ
read_step reads step = cond (0 == reads) 0 step

-- the place of a mark
abbrev pub place_of_mark : Mark → Place
place_of_mark m = record { stamp = m.stamp; made = read_step m.reads m.point.step }

done-same : (r : Option Return) → is_done (option_map kept_return r) ≡ is_done_return r
done-same None = refl
done-same (Some r) = refl

or-swap : (a b : Bool) → (a || b) ≡ (b || a)
or-swap true true = refl
or-swap true false = refl
or-swap false true = refl
or-swap false false = refl

-- a write is listed at its own timestamp
write-listed : (p : Params) (t : List Deed) (b : Begun) (key : List ℕ) (value : Option (List ℕ)) → write_place b.client (course_of p t b.client b.op) ≡ option_map place_of_mark (write_mark p t b key value)
unfolding course_of own_stamp
write-listed p t b key value =
    let inputs = inputs_of b.client b.op t in
    let r = return_of p b.client b.op t in
    let applied = was_applied (served t) b.client b.op in
    let test : (applied || is_done (option_map kept_return r)) ≡ (is_done_return r || applied) = ap (λ (x : Bool). applied || x) (done-same r) ∙ or-swap applied (is_done_return r) in
    ap (λ (x : Bool). cond x (option_map place_of_write (option_and_then (λ first. next_stamp first b.client) (option_map stamp_of_record (first_has inputs)))) None) test
    ∙ by_test (is_done_return r || applied) (first_has inputs)
  where
    mark : Timestamp → Mark
    mark stamp = record { op = operation_of p t b; stamp = stamp; reads = 0; point = write_point b.client b.op t }

    by_stamp : (s : Option Timestamp) → option_map place_of_write s ≡ option_map place_of_mark (option_map mark s)
    by_stamp None = refl
    by_stamp (Some s) = refl

    by_test : (x : Bool) (has : Option (Option RecordValue)) →
        cond x (option_map place_of_write (option_and_then (λ first. next_stamp first b.client) (option_map stamp_of_record has))) None
        ≡ option_map place_of_mark (cond x (option_map mark (option_and_then (stamp_upon b.client) has)) None)
    by_test true None = refl
    by_test true (Some held) = by_stamp (stamp_upon b.client held)
    by_test false has = refl

read-listed : (p : Params) (t : List Deed) (b : Begun) (r : Option Return) → returned_place (version_made b.client b.op t) (option_map kept_return r) ≡ option_map place_of_mark (read_mark p t b r)
read-listed p t b None = refl
read-listed p t b (Some r) = by_reply r.reply
  where
    by_reply : (reply : Reply) → returned_place (version_made b.client b.op t) (Some (record { at = r.at; reply = reply })) ≡ option_map place_of_mark (read_mark p t b (Some (record { at = r.at; reply = reply })))
    by_reply (told.Value v s) = refl
    by_reply (told.Absent s) = refl
    by_reply (told.Done s) = refl
    by_reply (told.Exhausted s) = refl
    by_reply (told.Collected n) = refl
    by_reply (told.Swapped s) = refl
    by_reply (told.Changed s) = refl

or-mapped : {A B : Type 0} (f : A → B) (a b : Option A) → option_or (option_map f a) (option_map f b) ≡ option_map f (option_or a b)
or-mapped f None b = refl
or-mapped f (Some x) None = refl
or-mapped f (Some x) (Some y) = refl

-- a swap that found another record is listed where it was judged, or where its answer was made
changed-listed : (p : Params) (t : List Deed) (b : Begun) (r : Option Return) →
    changed_by (step_or (option_map (kept_update t) (first_update (is_own b.client b.op) t)) (version_made b.client b.op t)) (option_map kept_return r) ≡ option_map place_of_mark (changed_mark p t b r)
unfolding changed_point
changed-listed p t b None = refl
changed-listed p t b (Some r) = by_reply r.reply
  where
    step : ℕ
    step = step_or (option_map (kept_update t) (first_update (is_own b.client b.op) t)) (version_made b.client b.op t)

    by_update : (u : Option Update) → step_or (option_map (kept_update t) u) (version_made b.client b.op t) ≡ (points.changed_by u b.client b.op t).step
    by_update None = refl
    by_update (Some u) = refl

    by_reply : (reply : Reply) → found_changed step reply ≡ option_map place_of_mark (changed_reply_mark p t b reply)
    by_reply (told.Changed s) = let made : ℕ → Option Place = λ n. Some (record { stamp = s; made = n }) in ap made (by_update (first_update (is_own b.client b.op) t))
    by_reply (told.Value v s) = refl
    by_reply (told.Absent s) = refl
    by_reply (told.Done s) = refl
    by_reply (told.Exhausted s) = refl
    by_reply (told.Collected n) = refl
    by_reply (told.Swapped s) = refl

action-listed : (p : Params) (t : List Deed) (b : Begun) (a : Action) → action_place b.client (course_of p t b.client b.op) a ≡ option_map place_of_mark (mark_by p t b a)
unfolding course_of
action-listed p t b (asked.Put key value) = write-listed p t b key (Some value)
action-listed p t b (asked.Delete key) = write-listed p t b key None
action-listed p t b (asked.Get key) = read-listed p t b (return_of p b.client b.op t)
action-listed p t b (asked.Collect key) = refl
action-listed p t b (asked.Swap key expected value) =
    ap (λ (o : Option Place). option_or o (write_place b.client (course_of p t b.client b.op))) (changed-listed p t b (return_of p b.client b.op t))
    ∙ (ap (option_or (option_map place_of_mark (changed_mark p t b (return_of p b.client b.op t)))) (write-listed p t b key (Some value))
    ∙ or-mapped place_of_mark (changed_mark p t b (return_of p b.client b.op t)) (write_mark p t b key (Some value)))

-- the place of an operation of the key is that of its mark
pub mark-place : (p : Params) (t : List Deed) (courses : List (List Course)) (key : List ℕ) (b : Begun) → AreCourses p t courses → key_eq (key_of b.start.action) key ≡ true →
    course_place courses (start_line b) ≡ option_map place_of_mark (mark_of p t key b)
unfolding mark_of
mark-place p t courses key b are same =
    ap (λ (x : Course). action_place b.client x b.start.action) (are b.client b.op) ∙ action-listed p t b b.start.action ∙ rw same refl
