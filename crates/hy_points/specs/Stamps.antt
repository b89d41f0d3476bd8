-- The order of a key's operations by timestamp.
use Rattle.std.specs.Prelude.{◌≡◌, ℕ, Bool, true, false, ◌&&◌, not, List, [], ◌∷◌, map, Contains, ◌⊎◌, if◌then◌else◌}
use Rattle.std.specs.List.{filter}
use Rattle.std.specs.Ordering.{nat_cmp, bool_cmp, ordering_then, on}
use Rattle.std.specs.declared.cmp.Ordering.{Ordering}
use Rattle.hy_record.specs.Stamp.{Timestamp, stamp_cmp, stamp_lt}
use Rattle.hy_record.specs.declared.action.Action.{Action}
use Rattle.hy_record.specs.declared.action.Action.TheVariants as asked
use Rattle.hy_record.specs.declared.action.Reply.{Reply}
use Rattle.hy_record.specs.declared.action.Reply.TheVariants as told
use Rattle.hy_order.specs.Linearization.{is_of_key, is_finished, is_write, returned_before}
use Rattle.hy_order.specs.declared.operation.End.{End}
use Rattle.hy_order.specs.declared.operation.End.TheVariants.{Replied, Pending}
use Rattle.hy_order.specs.declared.operation.Operation.{Operation}
use Rattle.hy_points.specs.declared.told.Told.{Told}
use Rattle.hy_points.specs.Atomic.{no_stamp}
use Rattle.hy_points.specs.Marks.{sorted_by}

-- the timestamp that a reply tells
abbrev pub reply_stamp : Reply → Timestamp
reply_stamp (told.Done stamp) = stamp
reply_stamp (told.Value value stamp) = stamp
reply_stamp (told.Absent stamp) = stamp
reply_stamp (told.Exhausted stamp) = stamp
reply_stamp (told.Swapped stamp) = stamp
reply_stamp (told.Changed stamp) = stamp
reply_stamp (told.Collected count) = no_stamp

abbrev pub end_stamp : End → Timestamp
end_stamp (Replied at reply) = reply_stamp reply
end_stamp (Pending phase have need) = no_stamp

abbrev pub is_swap : Action → Bool
is_swap (asked.Swap key expected value) = true
is_swap (asked.Put key value) = false
is_swap (asked.Get key) = false
is_swap (asked.Delete key) = false
is_swap (asked.Collect key) = false

-- a finished put, get or delete of the key; an order by timestamp lists no swap
abbrev pub is_told : List ℕ → Operation → Bool
is_told key op = is_of_key key op && is_finished op.end && not (is_swap op.action)

-- what places an operation among others
abbrev pub told_of : Operation → Told
told_of op = record { stamp = end_stamp op.end; reads = not (is_write op.action); invoked = op.invoked; number = op.number }

abbrev pub told_number : Told → ℕ
told_number told = told.number

-- by timestamp; a write before the reads that found it, and those by their invocation
abbrev pub told_cmp : Told → Told → Ordering
told_cmp a b =
    ordering_then (stamp_cmp a.stamp b.stamp) (ordering_then (bool_cmp a.reads b.reads)
    (ordering_then (nat_cmp a.invoked b.invoked) (nat_cmp a.number b.number)))

-- the finished operations of the key by timestamp
unfoldable pub operations_by_stamp : List Operation → List ℕ → List Operation
operations_by_stamp history key = sorted_by (on told_of told_cmp) (filter (is_told key) history)

abbrev pub number_of : Operation → ℕ
number_of op = op.number

-- their numbers
abbrev pub stamp_order : List Operation → List ℕ → List ℕ
stamp_order history key = map number_of (operations_by_stamp history key)

-- an operation does not follow a timestamp that what returned before it has
pub record IsBehind (a b : Operation) : Type 0 where
  pub stamps : stamp_lt (end_stamp b.end) (end_stamp a.end) ≡ false
  pub strict : is_write b.action ≡ true → stamp_lt (end_stamp a.end) (end_stamp b.end) ≡ true

-- a finished operation of the key
pub record IsTold (history : List Operation) (key : List ℕ) (op : Operation) : Type 0 where
  pub listed : Contains history op
  pub told : is_told key op ≡ true

-- what returned before an operation was invoked has no greater timestamp, and a smaller one where that writes;
-- none returned before it was invoked; and each read found no record, or what a write wrote
pub record AreTimely (history : List Operation) (key : List ℕ) : Type 0 where
  pub behind : (a b : Operation)
      → IsTold history key a → IsTold history key b → returned_before b.invoked a.end ≡ true → IsBehind a b
  pub lasts : (a : Operation) → IsTold history key a → returned_before a.invoked a.end ≡ false
  pub found : (a : Operation) → IsTold history key a → is_write a.action ≡ false
      → (end_stamp a.end ≡ no_stamp)
      ⊎ ((b : Operation) × IsTold history key b × (is_write b.action ≡ true) × (end_stamp b.end ≡ end_stamp a.end))

-- the timestamp of the last write, after the operation
abbrev pub stamp_after : Operation → Timestamp → Timestamp
stamp_after op last = if is_write op.action then end_stamp op.end else last

-- each read found the timestamp of the last write before it, of which this is the one before the first operation
abbrev pub FindsLastStamps : Timestamp → List Operation → Type 0
FindsLastStamps last [] = Unit {0}
FindsLastStamps last (op ∷ later) =
    (is_write op.action ≡ false → end_stamp op.end ≡ last) × FindsLastStamps (stamp_after op last) later
