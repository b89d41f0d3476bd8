-- The points that the log tells are those of the trace.
use Rattle.std.proofs.Common.{◌≡◌, ℕ, ◌+◌, List, [], ◌∷◌, ◌++◌, length, map, reverse, take, Option, Some, None, refl, sym, ap, ◌∙◌, arith}
use Rattle.std.specs.Option.{option_and_then, option_map}
use Rattle.std.specs.Cmp.{IsTotalOrder}
use Rattle.std.proofs.lemmas.Cmp.{nat_cmp_total}
use Rattle.std.proofs.lemmas.List.{append-nil, append_assoc}
use Rattle.hy_record.specs.declared.action.Action.{Action}
use Rattle.hy_record.specs.declared.action.Action.TheVariants as asked
use Rattle.hy_record.specs.Record.{RecordValue}
use Rattle.hy_record.specs.Stamp.{Timestamp, next_stamp}
use Rattle.hy_meta.specs.Service.{stamp_of_record}
use Rattle.hy_protocol.specs.Write.{first_has, own_stamp, stamp_upon}
use Rattle.hy_order.specs.History.{IsNumberedFrom}
use Rattle.hy_points.specs.declared.point.ActKind.{ActKind}
use Rattle.hy_points.specs.declared.point.ActKind.TheVariants as acts
use Rattle.hy_points.specs.Marks.{sorted_by}
use Rattle.hy_trace.specs.Deeds.{Params, Deed, inputs_of}
use Rattle.hy_trace.specs.History.{return_of, Begun, begun_of, operation_of, history_of}
use Rattle.hy_trace.specs.Points.{Update, first_update, is_own}
use Rattle.hy_trace.specs.Trace.{IsTrace}
use Rattle.hy_theorems.proofs.Histories.{is-history}
use Rattle.hy_log.specs.declared.course.Course.{Course}
use Rattle.hy_log.specs.declared.log.Started.{Started}
use Rattle.hy_log.specs.declared.moment.Moment.{Moment}
use Rattle.hy_log.specs.Kept.{Posted}
use Rattle.hy_log.specs.Courses.{AreCourses, course_of, kept_return, kept_update, version_stamp}
use Rattle.hy_log.specs.Log.{LogKeeps}
use Rattle.hy_log.specs.Points.{step_cmp, act_kind, write_ask, read_ask, set_with, write_set, try_with, swap_try, return_end, begun_with, moments_by, moments_of, all_moments, point_at, points_of, ask_moment, set_at, try_at, set_moment, end_moment, those_told, moments_with, operation_moments, moments_from}
use Rattle.hy_log.proofs.Telling.{start_line, started-begun}

-- ---- operation by operation

timed-joined : (courses : List (List Course)) (number : ℕ) (first later : List Started) → moments_from courses number (first ++ later) ≡ moments_from courses number first ++ moments_from courses (number + length first) later
timed-joined courses number [] later = let e : number ≡ number + 0 = omega arith in ap (λ (n : ℕ). moments_from courses n later) e
timed-joined courses number (s ∷ first) later =
    let e : number + 1 + length first ≡ number + length (s ∷ first) = omega arith in
    let here = operation_moments courses number s in
    ap (λ (ms : List Moment). here ++ ms) (timed-joined courses (number + 1) first later ∙ ap (λ (n : ℕ). moments_from courses (number + 1) first ++ moments_from courses n later) e)
    ∙ sym (append_assoc here (moments_from courses (number + 1) first) (moments_from courses (number + length (s ∷ first)) later))

-- one operation more
pub timed-more : (courses : List (List Course)) (starts : List Started) (place number : ℕ) (s : Started) (moments more : List Moment) →
    place + 1 ≡ number → length (take place starts) ≡ place → take (place + 1) starts ≡ take place starts ++ s ∷ [] →
    moments ≡ moments_from courses 1 (take place starts) → more ≡ moments ++ operation_moments courses number s → more ≡ moments_from courses 1 (take (place + 1) starts)
timed-more courses starts place number s moments more number_is count taken moments_are more_is =
    let at : 1 + length (take place starts) ≡ number = omega (arith, count, number_is) in
    let before = take place starts in
    more_is ∙ ap (λ (ms : List Moment). ms ++ operation_moments courses number s) moments_are
    ∙ sym (ap (moments_from courses 1) taken ∙ timed-joined courses 1 before (s ∷ [])
    ∙ ap (λ (n : ℕ). moments_from courses 1 before ++ moments_from courses n (s ∷ [])) at
    ∙ ap (λ (ms : List Moment). moments_from courses 1 before ++ ms) (append-nil (operation_moments courses number s)))

pub told-same : (m n : Moment) (a b c d e f : Option Moment) → m ≡ n → a ≡ b → c ≡ d → e ≡ f → m ∷ those_told (a ∷ c ∷ e ∷ []) ≡ n ∷ those_told (b ∷ d ∷ f ∷ [])
told-same m n a b c d e f first second third fourth = cc

-- ---- the moments of a trace

map-over : {A B C : Type 0} (f : B → C) (g : A → B) (o : Option A) → option_map f (option_map g o) ≡ option_map (λ x. f (g x)) o
map-over f g None = refl
map-over f g (Some x) = refl

set-same : (t : List Deed) (n : ℕ) (stamp : Option Timestamp) (u : Option Update) → set_at n stamp (option_map (kept_update t) u) ≡ set_with n stamp u
set-same t n None None = refl
set-same t n None (Some u) = refl
set-same t n (Some stamp) None = refl
set-same t n (Some stamp) (Some u) = refl

try-same : (t : List Deed) (n : ℕ) (stamp : Option Timestamp) (u : Option Update) → try_at n stamp (option_map (kept_update t) u) ≡ try_with t n stamp u
try-same t n None None = refl
try-same t n None (Some u) = refl
try-same t n (Some stamp) None = refl
try-same t n (Some stamp) (Some u) = refl

own-same : (c : ℕ) (has : Option (Option RecordValue)) → option_and_then (λ first. next_stamp first c) (option_map stamp_of_record has) ≡ option_and_then (stamp_upon c) has
own-same c None = refl
own-same c (Some held) = refl

module _ (p : Params) (t : List Deed) (n : ℕ) (b : Begun) where
  abbrev course : Course
  course = course_of p t b.client b.op

  write-ask-is : ask_moment n acts.Put course ≡ write_ask t n b
  unfolding course_of
  write-ask-is = map-over _ stamp_of_record (first_has (inputs_of b.client b.op t))

  read-ask-is : ask_moment n acts.Get course ≡ read_ask t n b
  unfolding course_of
  read-ask-is = map-over _ version_stamp _

  set-is : (key : List ℕ) (value : Option (List ℕ)) → set_moment n b.client acts.Put course ≡ write_set p t n b key value
  unfolding course_of own_stamp
  set-is key value =
      ap (λ (stamp : Option Timestamp). set_at n stamp (option_map (kept_update t) (first_update (is_own b.client b.op) t))) (own-same b.client (first_has (inputs_of b.client b.op t)))
      ∙ set-same t n (option_and_then (stamp_upon b.client) (first_has (inputs_of b.client b.op t))) (first_update (is_own b.client b.op) t)

  try-is : (key value : List ℕ) (expected : Timestamp) → set_moment n b.client (acts.Swap expected) course ≡ swap_try p t n b key value
  unfolding course_of own_stamp
  try-is key value expected =
      ap (λ (stamp : Option Timestamp). try_at n stamp (option_map (kept_update t) (first_update (is_own b.client b.op) t))) (own-same b.client (first_has (inputs_of b.client b.op t)))
      ∙ try-same t n (option_and_then (stamp_upon b.client) (first_has (inputs_of b.client b.op t))) (first_update (is_own b.client b.op) t)

  end-is : end_moment n course ≡ return_end p t n b
  unfolding course_of
  end-is = map-over _ kept_return (return_of p b.client b.op t)

  begun-same : (key : List ℕ) (act : ActKind) (ask asked_ set set_ end end_ : Option Moment) → ask ≡ asked_ → set ≡ set_ → end ≡ end_ → begun_with n b key act ask set end ≡ begun_with n b key act asked_ set_ end_
  begun-same key act ask asked_ set set_ end end_ first second third = cc

  moments-by : (a : Action) → moments_with n (start_line b) course (act_kind a) ≡ moments_by p t n b a
  moments-by (asked.Put key value) = begun-same key acts.Put _ _ _ _ _ _ write-ask-is (set-is key (Some value)) end-is
  moments-by (asked.Delete key) = begun-same key acts.Delete _ _ _ _ _ _ write-ask-is (set-is key None) end-is
  moments-by (asked.Get key) = begun-same key acts.Get _ _ None None _ _ read-ask-is refl end-is
  moments-by (asked.Collect key) = refl
  moments-by (asked.Swap key expected value) = begun-same key (acts.Swap expected) _ _ _ _ _ _ write-ask-is (try-is key value expected) end-is

timed-operations : (p : Params) (t : List Deed) (courses : List (List Course)) (number : ℕ) (ops : List Begun) → AreCourses p t courses → IsNumberedFrom number (map (operation_of p t) ops) →
    moments_from courses number (map start_line ops) ≡ all_moments p t ops
timed-operations p t courses number [] are numbered = refl
timed-operations p t courses number (b ∷ ops) are numbered =
    let here : operation_moments courses number (start_line b) ≡ moments_of p t b =
    ap (λ (x : Course). moments_with number (start_line b) x (act_kind b.start.action)) (are b.client b.op)
    ∙ ap (λ (n : ℕ). moments_with n (start_line b) (course_of p t b.client b.op) (act_kind b.start.action)) (sym numbered.0)
    ∙ moments-by p t (length (begun_of b.start.before) + 1) b b.start.action in
    ap (λ (ms : List Moment). ms ++ moments_from courses (number + 1) (map start_line ops)) here
    ∙ ap (λ (ms : List Moment). moments_of p t b ++ ms) (timed-operations p t courses (number + 1) ops are numbered.1)

-- the steps are in a total order
pub steps-total : IsTotalOrder step_cmp
steps-total = record {
  antisymm = λ a b. nat_cmp_total.antisymm a.step b.step;
  trans = λ a b c. nat_cmp_total.trans a.step b.step c.step;
  congr = λ a b c. nat_cmp_total.congr a.step b.step c.step;
}

-- what the log tells are the points of the trace
pub told-points : (p : Params) (t : List Deed) (posts : List Posted) (starts : List Started) (courses : List (List Course)) (steps : ℕ) (moments : List Moment) → IsTrace p t → LogKeeps p t posts starts courses steps →
    moments ≡ moments_from courses 1 starts → map point_at (sorted_by step_cmp moments) ≡ points_of p t
unfolding points_of history_of
told-points p t posts starts courses steps moments trace keeps are =
    ap (λ (ms : List Moment). map point_at (sorted_by step_cmp ms))
    (are ∙ ap (moments_from courses 1) (keeps.starts_are ∙ started-begun t)
    ∙ timed-operations p t courses 1 (reverse (begun_of t)) (keeps.courses_are trace) (is-history p t trace).numbered)
