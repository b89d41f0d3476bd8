-- When an order of the operations of a key is a linearization of a register.
use Rattle.std.specs.Prelude.{◌≡◌, ◌≢◌, ℕ, ◌==◌, Bool, true, false, ◌&&◌, IsTrue, nat_lt, nat_eq, List, [], ◌∷◌, Option, Some, None, Contains, if◌then◌else◌}
use Rattle.std.specs.List.{AllByRecursion, IsDistinct, find, filter_map, list_any}
use Rattle.std.specs.Str.{bytes_eq}
use Rattle.hy_record.specs.declared.action.Action.{Action}
use Rattle.hy_record.specs.declared.action.Action.TheVariants as asked
use Rattle.hy_record.specs.declared.action.Reply.{Reply}
use Rattle.hy_record.specs.declared.action.Reply.TheVariants as told
use Rattle.hy_record.specs.Stamp.{Timestamp}
use Rattle.hy_order.specs.declared.operation.End.{End}
use Rattle.hy_order.specs.declared.operation.End.TheVariants.{Replied, Pending}
use Rattle.hy_order.specs.declared.operation.Operation.{Operation}
use Rattle.hy_order.specs.declared.order.Order.{Order}
use Rattle.hy_order.specs.declared.report.Report.{Report}
use Rattle.hy_order.specs.History.{key_of_action}

-- the operation is one of the key
abbrev pub is_of_key : List ℕ → Operation → Bool
is_of_key key op = bytes_eq (key_of_action op.action) key

-- the reply of a put, get, delete or swap that finished
abbrev pub is_finished_reply : Reply → Bool
is_finished_reply (told.Done stamp) = true
is_finished_reply (told.Value value stamp) = true
is_finished_reply (told.Absent stamp) = true
is_finished_reply (told.Swapped stamp) = true
is_finished_reply (told.Changed stamp) = true
is_finished_reply (told.Exhausted stamp) = false
is_finished_reply (told.Collected count) = false

-- a put, a delete or a swap, which may have taken effect before it finished
abbrev pub is_write : Action → Bool
is_write (asked.Put key value) = true
is_write (asked.Delete key) = true
is_write (asked.Swap key expected value) = true
is_write (asked.Get key) = false
is_write (asked.Collect key) = false

-- a finished put, get, delete or swap: each order of its key lists it
abbrev pub is_finished : End → Bool
is_finished (Replied at reply) = is_finished_reply reply
is_finished (Pending phase have need) = false

-- a finished put, get, delete or swap, or an unfinished put, delete or swap: an order of its key may list it
abbrev pub may_be_listed : Action → End → Bool
may_be_listed action (Replied at reply) = is_finished_reply reply
may_be_listed action (Pending phase have need) = is_write action

-- the operation returned before this step
abbrev pub returned_before : ℕ → End → Bool
returned_before step (Replied at reply) = nat_lt at step
returned_before step (Pending phase have need) = false

-- what a key's register holds: a value or none, and the timestamp of the write that left it, where that is known
pub record Register : Type 0 where
  pub value : Option (List ℕ)
  pub stamp : Option Timestamp

-- the register that nothing was written to
abbrev pub no_register : Register
no_register = record { value = None; stamp = Some (record { sn = 0; cid = 0 }) }

-- the timestamp that a write replied; a write without a reply has one that is unknown
abbrev pub written_stamp : End → Option Timestamp
written_stamp (Replied at (told.Done stamp)) = Some stamp
written_stamp (Replied at (told.Swapped stamp)) = Some stamp
written_stamp (Replied at (told.Exhausted stamp)) = None
written_stamp (Replied at (told.Value value stamp)) = None
written_stamp (Replied at (told.Absent stamp)) = None
written_stamp (Replied at (told.Collected count)) = None
written_stamp (Replied at (told.Changed stamp)) = None
written_stamp (Pending phase have need) = None

-- a swap replied that the record was another
abbrev pub is_changed : End → Bool
is_changed (Replied at (told.Changed stamp)) = true
is_changed (Replied at (told.Done stamp)) = false
is_changed (Replied at (told.Swapped stamp)) = false
is_changed (Replied at (told.Exhausted stamp)) = false
is_changed (Replied at (told.Value value stamp)) = false
is_changed (Replied at (told.Absent stamp)) = false
is_changed (Replied at (told.Collected count)) = false
is_changed (Pending phase have need) = false

-- the register after the action of an operation with this end: a put, a delete, or a swap that did not find another record, writes
abbrev pub register_after : Action → End → Register → Register
register_after (asked.Put key value) end held = record { value = Some value; stamp = written_stamp end }
register_after (asked.Delete key) end held = record { value = None; stamp = written_stamp end }
register_after (asked.Swap key expected value) end held =
    if is_changed end then held else record { value = Some value; stamp = written_stamp end }
register_after (asked.Get key) end held = held
register_after (asked.Collect key) end held = held

-- the timestamp is that of the register, where that is known
abbrev pub IsStampOf : Option Timestamp → Timestamp → Type 0
IsStampOf None stamp = Unit {0}
IsStampOf (Some held) stamp = held ≡ stamp

-- a swap with this end finds the register as it says: of the expected timestamp; or of the one that it replied, which is another
abbrev pub FindsStamp : Register → Timestamp → End → Type 0
FindsStamp held expected (Replied at (told.Swapped stamp)) = IsStampOf held.stamp expected
FindsStamp held expected (Replied at (told.Changed stamp)) = (stamp ≢ expected) × IsStampOf held.stamp stamp
FindsStamp held expected (Replied at (told.Done stamp)) = Unit {0}
FindsStamp held expected (Replied at (told.Exhausted stamp)) = Unit {0}
FindsStamp held expected (Replied at (told.Value value stamp)) = Unit {0}
FindsStamp held expected (Replied at (told.Absent stamp)) = Unit {0}
FindsStamp held expected (Replied at (told.Collected count)) = Unit {0}
FindsStamp held expected (Pending phase have need) = IsStampOf held.stamp expected

-- a reply that tells a value or its absence tells what the register holds
abbrev pub TellsValue : Register → End → Type 0
TellsValue held (Replied at (told.Value value stamp)) = held.value ≡ Some value
TellsValue held (Replied at (told.Absent stamp)) = held.value ≡ None
TellsValue held (Replied at (told.Done stamp)) = Unit {0}
TellsValue held (Replied at (told.Exhausted stamp)) = Unit {0}
TellsValue held (Replied at (told.Collected count)) = Unit {0}
TellsValue held (Replied at (told.Swapped stamp)) = Unit {0}
TellsValue held (Replied at (told.Changed stamp)) = Unit {0}
TellsValue held (Pending phase have need) = Unit {0}

-- the operation tells what the register holds: a get its value, a swap its timestamp
abbrev pub TellsRegister : Register → Action → End → Type 0
TellsRegister held (asked.Put key value) end = TellsValue held end
TellsRegister held (asked.Delete key) end = TellsValue held end
TellsRegister held (asked.Get key) end = TellsValue held end
TellsRegister held (asked.Collect key) end = TellsValue held end
TellsRegister held (asked.Swap key expected value) end = FindsStamp held expected end

-- each operation tells what the register holds at its place
abbrev pub ReadsRegister : Register → List Operation → Type 0
ReadsRegister held [] = Unit {0}
ReadsRegister held (op ∷ later) = TellsRegister held op.action op.end × ReadsRegister (register_after op.action op.end held) later

-- no operation stands after one that was invoked after it returned
abbrev pub RespectsRealTime : List Operation → Type 0
RespectsRealTime [] = Unit {0}
RespectsRealTime (op ∷ later) = AllByRecursion (λ next. returned_before op.invoked next.end ≡ false) later × RespectsRealTime later

-- the operation of a number
abbrev pub operation_at : List Operation → ℕ → Option Operation
operation_at history number = find (λ op. op.number == number) history

-- the operations of an order
abbrev pub listed : List Operation → List ℕ → List Operation
listed history order = filter_map (operation_at history) order

-- the number is that of an operation which an order of the key may list
abbrev pub IsMember : List Operation → List ℕ → ℕ → Type 0
IsMember history key number =
    (op : Operation) × (operation_at history number ≡ Some op) × IsTrue (is_of_key key op) × IsTrue (may_be_listed op.action op.end)

-- the order of the key contains every finished operation once, respects real time,
-- and each get answers what the last write before it left, each swap tells that write's timestamp
pub record IsLinearization (history : List Operation) (key order : List ℕ) : Type 0 where
  pub complete : AllByRecursion (λ op. IsTrue (is_of_key key op && is_finished op.end) → Contains order op.number) history
  pub members : AllByRecursion (IsMember history key) order
  pub distinct : IsDistinct nat_eq order
  pub real_time : RespectsRealTime (listed history order)
  pub reads : ReadsRegister no_register (listed history order)

-- the order is a linearization of its key
abbrev pub IsLinearized : List Operation → Order → Type 0
IsLinearized history order = IsLinearization history order.key order.ops

-- a put, a get, a delete or a swap, which acts on the register of its key
abbrev pub acts_on_register : Action → Bool
acts_on_register (asked.Put key value) = true
acts_on_register (asked.Swap key expected value) = true
acts_on_register (asked.Get key) = true
acts_on_register (asked.Delete key) = true
acts_on_register (asked.Collect key) = false

-- the key has an order among these
abbrev pub has_order : List Order → List ℕ → Bool
has_order orders key = list_any (λ order. bytes_eq order.key key) orders

-- each put, get, delete and swap of the report has an order of its key, and each order is a linearization of its key
pub record IsReportLinearizable (report : Report) : Type 0 where
  pub keys : AllByRecursion (λ op. IsTrue (acts_on_register op.action) → IsTrue (has_order report.orders (key_of_action op.action))) report.history
  pub orders : AllByRecursion (IsLinearized report.history) report.orders
