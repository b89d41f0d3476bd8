-- The points of a trace: the moments that decide the orders of its operations.
use Rattle.std.specs.Prelude.{ℕ, ◌+◌, List, [], ◌∷◌, ◌++◌, length, map, reverse, Option, Some, None}
use Rattle.std.specs.declared.cmp.Ordering.{Ordering}
use Rattle.std.specs.List.{filter_map}
use Rattle.std.specs.Option.{option_and_then, option_map}
use Rattle.std.specs.Ordering.{nat_cmp}
use Rattle.hy_record.specs.declared.action.Action.{Action}
use Rattle.hy_record.specs.declared.action.Action.TheVariants as asked
use Rattle.hy_record.specs.Stamp.{Timestamp, next_stamp}
use Rattle.hy_meta.specs.Service.{stamp_of_record}
use Rattle.hy_protocol.specs.Operations.{write_plan}
use Rattle.hy_protocol.specs.Read.{version_of}
use Rattle.hy_protocol.specs.Write.{first_has, own_stamp}
use Rattle.hy_points.specs.declared.point.ActKind.{ActKind}
use Rattle.hy_points.specs.declared.point.ActKind.TheVariants as acts
use Rattle.hy_points.specs.declared.point.Point.{Point}
use Rattle.hy_points.specs.declared.point.Point.TheVariants as points
use Rattle.hy_points.specs.Marks.{sorted_by}
use Rattle.hy_trace.specs.Deeds.{Params, Deed, inputs_of}
use Rattle.hy_trace.specs.History.{Return, return_of, Begun, begun_of}
use Rattle.hy_trace.specs.Points.{Update, first_update, is_own, version_made}
use Rattle.hy_log.specs.declared.course.Course.{Course}
use Rattle.hy_log.specs.declared.course.FirstUpdate.{FirstUpdate}
use Rattle.hy_log.specs.declared.course.Returned.{Returned}
use Rattle.hy_log.specs.declared.log.Started.{Started}
use Rattle.hy_log.specs.declared.moment.Moment.{Moment}
use Rattle.hy_log.specs.Courses.{course_at, first_made, version_stamp, stamp_before}

-- a point at a step
abbrev pub moment : ℕ → Point → Moment
moment step point = record { step = step; point = point }

abbrev pub point_at : Moment → Point
point_at m = m.point

-- the moments that there are
abbrev pub those_told : List (Option Moment) → List Moment
those_told moments = filter_map (λ (m : Option Moment). m) moments

-- by the steps
abbrev pub step_cmp : Moment → Moment → Ordering
step_cmp a b = nat_cmp a.step b.step

-- what a put, a get, a delete or a swap does to the register of its key, and the key
abbrev pub act_kind : Action → Option (List ℕ × ActKind)
act_kind (asked.Put key value) = Some (key, acts.Put)
act_kind (asked.Get key) = Some (key, acts.Get)
act_kind (asked.Delete key) = Some (key, acts.Delete)
act_kind (asked.Collect key) = None
act_kind (asked.Swap key expected value) = Some (key, acts.Swap expected)

-- ---- of a trace

-- the reading that gave a write its timestamp
abbrev pub write_ask : List Deed → ℕ → Begun → Option Moment
write_ask t number b =
    option_map (λ held. moment (first_made b.client b.op t) (points.Ask number (stamp_of_record held)))
    (first_has (inputs_of b.client b.op t))

-- the reading that gave a get its version
abbrev pub read_ask : List Deed → ℕ → Begun → Option Moment
read_ask t number b =
    option_map (λ version. moment (version_made b.client b.op t) (points.Ask number (version_stamp version)))
    (version_of (inputs_of b.client b.op t))

abbrev pub set_with : ℕ → Option Timestamp → Option Update → Option Moment
set_with number stamp None = None
set_with number None (Some u) = None
set_with number (Some stamp) (Some u) = Some (moment u.step (points.Set number stamp u.is_applied))

-- the first update of a write that was served
abbrev pub write_set : Params → List Deed → ℕ → Begun → List ℕ → Option (List ℕ) → Option Moment
write_set p t number b key value =
    set_with number (own_stamp (write_plan p.f p.k b.client b.op key value) (inputs_of b.client b.op t))
    (first_update (is_own b.client b.op) t)

abbrev pub try_with : List Deed → ℕ → Option Timestamp → Option Update → Option Moment
try_with t number stamp None = None
try_with t number None (Some u) = None
try_with t number (Some stamp) (Some u) =
    Some (moment u.step (points.Try number stamp (stamp_before t u.key u.step)))

-- the swap of an operation that was judged
abbrev pub swap_try : Params → List Deed → ℕ → Begun → List ℕ → List ℕ → Option Moment
swap_try p t number b key value =
    try_with t number (own_stamp (write_plan p.f p.k b.client b.op key (Some value)) (inputs_of b.client b.op t))
    (first_update (is_own b.client b.op) t)

-- the return of an operation
abbrev pub return_end : Params → List Deed → ℕ → Begun → Option Moment
return_end p t number b = option_map (λ (r : Return). moment r.at (points.End number)) (return_of p b.client b.op t)

-- the beginning of an operation, and what came of it
abbrev pub begun_with : ℕ → Begun → List ℕ → ActKind → Option Moment → Option Moment → Option Moment → List Moment
begun_with number b key act ask set end =
    moment (length b.start.before + 1) (points.Begin number b.client key act) ∷ those_told (ask ∷ set ∷ end ∷ [])

abbrev pub moments_by : Params → List Deed → ℕ → Begun → Action → List Moment
moments_by p t number b (asked.Put key value) =
    begun_with number b key acts.Put (write_ask t number b) (write_set p t number b key (Some value)) (return_end p t number b)
moments_by p t number b (asked.Delete key) =
    begun_with number b key acts.Delete (write_ask t number b) (write_set p t number b key None) (return_end p t number b)
moments_by p t number b (asked.Get key) = begun_with number b key acts.Get (read_ask t number b) None (return_end p t number b)
moments_by p t number b (asked.Collect key) = []
moments_by p t number b (asked.Swap key expected value) =
    begun_with number b key (acts.Swap expected) (write_ask t number b) (swap_try p t number b key value) (return_end p t number b)

-- the moments of an operation; a collection has none
abbrev pub moments_of : Params → List Deed → Begun → List Moment
moments_of p t b = moments_by p t (length (begun_of b.start.before) + 1) b b.start.action

abbrev pub all_moments : Params → List Deed → List Begun → List Moment
all_moments p t [] = []
all_moments p t (b ∷ ops) = moments_of p t b ++ all_moments p t ops

-- the points of the trace's puts, gets, deletes and swaps, in the order of their steps
unfoldable pub points_of : Params → List Deed → List Point
points_of p t = map point_at (sorted_by step_cmp (all_moments p t (reverse (begun_of t))))

-- ---- as the log tells them

abbrev pub begin_moment : ℕ → Started → List ℕ → ActKind → Moment
begin_moment number started key act = moment started.step (points.Begin number started.beginning.client key act)

abbrev pub ask_at : ℕ → ℕ → Option Timestamp → Option Moment
ask_at number step found = option_map (λ stamp. moment step (points.Ask number stamp)) found

abbrev pub ask_moment : ℕ → ActKind → Course → Option Moment
ask_moment number acts.Get course = ask_at number course.made course.version
ask_moment number acts.Put course = ask_at number course.first_made course.first
ask_moment number acts.Delete course = ask_at number course.first_made course.first
ask_moment number (acts.Swap expected) course = ask_at number course.first_made course.first

abbrev pub set_at : ℕ → Option Timestamp → Option FirstUpdate → Option Moment
set_at number stamp None = None
set_at number None (Some u) = None
set_at number (Some stamp) (Some u) = Some (moment u.at (points.Set number stamp u.is_applied))

abbrev pub try_at : ℕ → Option Timestamp → Option FirstUpdate → Option Moment
try_at number stamp None = None
try_at number None (Some u) = None
try_at number (Some stamp) (Some u) = Some (moment u.at (points.Try number stamp u.found))

-- the next timestamp of the client above the first that it was told
abbrev pub own_by : ℕ → Option Timestamp → Option Timestamp
own_by client told = option_and_then (λ first. next_stamp first client) told

abbrev pub set_moment : ℕ → ℕ → ActKind → Course → Option Moment
set_moment number client acts.Get course = None
set_moment number client (acts.Swap expected) course = try_at number (own_by client course.first) course.updated
set_moment number client acts.Put course = set_at number (own_by client course.first) course.updated
set_moment number client acts.Delete course = set_at number (own_by client course.first) course.updated

abbrev pub end_moment : ℕ → Course → Option Moment
end_moment number course = option_map (λ (r : Returned). moment r.at (points.End number)) course.returned

-- the moments of a put, a get, a delete or a swap of this course
abbrev pub acting_moments : ℕ → Started → List ℕ × ActKind → Course → List Moment
acting_moments number started named course =
    begin_moment number started named.0 named.1
    ∷ those_told (ask_moment number named.1 course ∷ set_moment number started.beginning.client named.1 course ∷ end_moment number course ∷ [])

abbrev pub moments_with : ℕ → Started → Course → Option (List ℕ × ActKind) → List Moment
moments_with number started course None = []
moments_with number started course (Some named) = acting_moments number started named course

-- the moments of an operation that the log keeps
abbrev pub operation_moments : List (List Course) → ℕ → Started → List Moment
operation_moments courses number started =
    moments_with number started (course_at courses started.beginning.client started.beginning.op) (act_kind started.beginning.action)

-- those of these operations, numbered from this number on
abbrev pub moments_from : List (List Course) → ℕ → List Started → List Moment
moments_from courses number [] = []
moments_from courses number (started ∷ later) =
    operation_moments courses number started ++ moments_from courses (number + 1) later
