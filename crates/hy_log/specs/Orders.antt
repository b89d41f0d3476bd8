-- The order of each key, as the log tells it.
use Rattle.std.specs.Prelude.{ℕ, ◌+◌, Bool, false, ◌||◌, List, [], ◌∷◌, map, Option, Some, None, unwrap_or, if◌then◌else◌}
use Rattle.std.specs.BTreeMap.{insert_entry, is_at}
use Rattle.std.specs.Cmp.Lexicographic.{slice_cmp}
use Rattle.std.specs.declared.cmp.Ordering.{Ordering}
use Rattle.std.specs.Map.{lookup}
use Rattle.std.specs.Option.{option_and_then, option_map, option_or}
use Rattle.std.specs.Ordering.{nat_cmp, ordering_then}
use Rattle.hy_record.specs.declared.action.Action.{Action}
use Rattle.hy_record.specs.declared.action.Action.TheVariants as asked
use Rattle.hy_record.specs.declared.action.Reply.{Reply}
use Rattle.hy_record.specs.declared.action.Reply.TheVariants as told
use Rattle.hy_record.specs.Stamp.{Timestamp, next_stamp, stamp_cmp}
use Rattle.hy_order.specs.declared.order.Order.{Order}
use Rattle.hy_order.specs.Keys.{register_key}
use Rattle.hy_trace.specs.Order as trace
use Rattle.hy_log.specs.declared.course.Course.{Course}
use Rattle.hy_log.specs.declared.course.FirstUpdate.{FirstUpdate}
use Rattle.hy_log.specs.declared.course.Returned.{Returned}
use Rattle.hy_log.specs.declared.effects.Beginning.{Beginning}
use Rattle.hy_log.specs.declared.log.Started.{Started}
use Rattle.hy_log.specs.declared.place.Place.{Place}
use Rattle.hy_log.specs.Courses.{course_at}

-- places in their order: by the timestamp, and then by the step
abbrev pub place_cmp : Place → Place → Ordering
place_cmp a b = ordering_then (stamp_cmp a.stamp b.stamp) (nat_cmp a.made b.made)

-- a put, a delete or a swap did what was asked
abbrev pub is_done : Option Returned → Bool
is_done None = false
is_done (Some returned) = trace.is_done returned.reply

-- the place of a write
abbrev pub place_of_write : Timestamp → Place
place_of_write stamp = record { stamp = stamp; made = 0 }

-- the place of a write of the client: it is listed where it did what was asked or its update was applied
abbrev pub write_place : ℕ → Course → Option Place
write_place client course =
    if course.is_applied || is_done course.returned
    then option_map place_of_write (option_and_then (λ first. next_stamp first client) course.first) else None

-- the place of a get that found what it replied, by an answer that was made at this step
abbrev pub found_place : ℕ → Reply → Option Place
found_place made (told.Value value stamp) = Some (record { stamp = stamp; made = made })
found_place made (told.Absent stamp) = Some (record { stamp = stamp; made = made })
found_place made (told.Done stamp) = None
found_place made (told.Exhausted stamp) = None
found_place made (told.Collected count) = None
found_place made (told.Swapped stamp) = None
found_place made (told.Changed stamp) = None

abbrev pub returned_place : ℕ → Option Returned → Option Place
returned_place made None = None
returned_place made (Some returned) = found_place made returned.reply

-- the place of a get: it is listed where it finished
abbrev pub read_place : Course → Option Place
read_place course = returned_place course.made course.returned

-- the step at which a swap was judged, or else at which its answer was made
abbrev pub step_or : Option FirstUpdate → ℕ → ℕ
step_or None made = made
step_or (Some u) made = u.at

abbrev pub judged_at : Course → ℕ
judged_at course = step_or course.updated course.made

-- the place of a swap that found another record at this step
abbrev pub found_changed : ℕ → Reply → Option Place
found_changed step (told.Changed stamp) = Some (record { stamp = stamp; made = step })
found_changed step (told.Value value stamp) = None
found_changed step (told.Absent stamp) = None
found_changed step (told.Done stamp) = None
found_changed step (told.Exhausted stamp) = None
found_changed step (told.Collected count) = None
found_changed step (told.Swapped stamp) = None

abbrev pub changed_by : ℕ → Option Returned → Option Place
changed_by step None = None
changed_by step (Some returned) = found_changed step returned.reply

abbrev pub changed_place : Course → Option Place
changed_place course = changed_by (judged_at course) course.returned

-- the place of a swap: where it found another record it is listed as a read, else as a write
abbrev pub swap_place : ℕ → Course → Option Place
swap_place client course = option_or (changed_place course) (write_place client course)

abbrev pub action_place : ℕ → Course → Action → Option Place
action_place client course (asked.Put key value) = write_place client course
action_place client course (asked.Delete key) = write_place client course
action_place client course (asked.Get key) = read_place course
action_place client course (asked.Collect key) = None
action_place client course (asked.Swap key expected value) = swap_place client course

-- the place of an operation of this course, if an order of its key lists it
abbrev pub listed_place : Beginning → Course → Option Place
listed_place beginning course = action_place beginning.client course beginning.action

-- the place of an operation that the log keeps
abbrev pub course_place : List (List Course) → Started → Option Place
course_place courses started = listed_place started.beginning (course_at courses started.beginning.client started.beginning.op)

-- with an operation of this number, if it has a place
abbrev pub added : Option Place → ℕ → List (Place × ℕ) → List (Place × ℕ)
added None number places = places
added (Some place) number places = insert_entry place_cmp places place number

abbrev pub number_at : Place × ℕ → ℕ
number_at entry = entry.1

-- the listed operations of a key
abbrev pub places_at : List (List ℕ × List (Place × ℕ)) → List ℕ → List (Place × ℕ)
places_at keys key = unwrap_or (lookup (is_at (slice_cmp nat_cmp key)) keys) []

abbrev pub with_places : List (List ℕ × List (Place × ℕ)) → List ℕ → List (Place × ℕ) → List (List ℕ × List (Place × ℕ))
with_places keys key places = insert_entry (slice_cmp nat_cmp) keys key places

-- with an operation that has this place, under the key that it names
abbrev pub with_place : Option (List ℕ) → Option Place → ℕ → List (List ℕ × List (Place × ℕ)) → List (List ℕ × List (Place × ℕ))
with_place None place number keys = keys
with_place (Some key) place number keys = with_places keys key (added place number (places_at keys key))

-- with an operation of this number that the log keeps
abbrev pub with_operation : List (List Course) → ℕ → Started → List (List ℕ × List (Place × ℕ)) → List (List ℕ × List (Place × ℕ))
with_operation courses number started keys =
    with_place (register_key started.beginning.action) (course_place courses started) number keys

-- with these operations, numbered from this number on
abbrev pub placed_from : List (List Course) → ℕ → List (List ℕ × List (Place × ℕ)) → List Started → List (List ℕ × List (Place × ℕ))
placed_from courses number keys [] = keys
placed_from courses number keys (started ∷ later) =
    placed_from courses (number + 1) (with_operation courses number started keys) later

-- the order of a key with its listed operations
abbrev pub order_line : List ℕ × List (Place × ℕ) → Order
order_line entry = record { key = entry.0; ops = map number_at entry.1 }
