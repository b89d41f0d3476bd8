-- Which reports can be read back from their text.
use Rattle.std.specs.Prelude.{◌≡◌, ℕ, ◌^◌, ◌<◌, ◌≤◌, IsTrue, List, [], ◌∷◌, map, Option, Some, None}
use Rattle.std.specs.Cmp.Lexicographic.{slice_cmp}
use Rattle.std.specs.List.{AllByRecursion, filter_map}
use Rattle.std.specs.List.Sorted.{IsStrictlySortedBy}
use Rattle.std.specs.Ordering.{nat_cmp}
use Rattle.hy_base.specs.declared.limits.TheConstants.{MAX_COUNT, MAX_N}
use Rattle.hy_record.specs.Key.{is_key}
use Rattle.hy_record.specs.Stamp.{Timestamp}
use Rattle.hy_record.specs.declared.action.Action.{Action}
use Rattle.hy_record.specs.declared.action.Action.TheVariants as asked
use Rattle.hy_record.specs.declared.action.Reply.{Reply}
use Rattle.hy_record.specs.declared.action.Reply.TheVariants as told
use Rattle.hy_text.specs.Action.{IsTextValue, IsTextAction}
use Rattle.hy_text.specs.Stamp.{IsStampWithin}
use Rattle.hy_order.specs.declared.held.Held.{Held}
use Rattle.hy_order.specs.declared.operation.End.{End}
use Rattle.hy_order.specs.declared.operation.End.TheVariants.{Replied, Pending}
use Rattle.hy_order.specs.declared.operation.Operation.{Operation}
use Rattle.hy_order.specs.declared.order.Order.{Order}
use Rattle.hy_order.specs.declared.report.Report.{Report}
use Rattle.hy_order.specs.declared.report.TheConstants.{LAST_STEP}
use Rattle.hy_order.specs.History.{IsHistory}
use Rattle.hy_order.specs.Keys.{register_keys, sorted_keys}

-- the numbers of the timestamp are in range
abbrev pub IsTextStamp : Timestamp → Type 0
IsTextStamp stamp = IsStampWithin 0 MAX_COUNT stamp

-- what the reply carries is in range
abbrev pub IsTextReply : Reply → Type 0
IsTextReply (told.Done stamp) = IsTextStamp stamp
IsTextReply (told.Exhausted stamp) = IsTextStamp stamp
IsTextReply (told.Value value stamp) = IsTextValue value × IsTextStamp stamp
IsTextReply (told.Absent stamp) = IsTextStamp stamp
IsTextReply (told.Collected count) = count ≤ MAX_COUNT
IsTextReply (told.Swapped stamp) = IsTextStamp stamp
IsTextReply (told.Changed stamp) = IsTextStamp stamp

-- the end of an operation that was invoked at this step is in range; a reply came later
abbrev pub IsTextEnd : ℕ → End → Type 0
IsTextEnd invoked (Replied at reply) = (invoked < at) × (at ≤ LAST_STEP) × IsTextReply reply
IsTextEnd invoked (Pending at have need) = (have ≤ MAX_COUNT) × (need ≤ MAX_COUNT)

-- the operation is in range, and was invoked after this step
pub record IsTextOperation (step : ℕ) (op : Operation) : Type 0 where
  pub number : op.number ≤ MAX_COUNT
  pub client_low : 1 ≤ op.client
  pub client_high : op.client ≤ MAX_COUNT
  pub action : IsTextAction MAX_COUNT op.action
  pub invoked_low : step < op.invoked
  pub invoked_high : op.invoked ≤ LAST_STEP
  pub end : IsTextEnd op.invoked op.end

-- the operations are in range, and each was invoked after the one before it, the first after this step
abbrev pub AreTextOperations : ℕ → List Operation → Type 0
AreTextOperations step [] = Unit {0}
AreTextOperations step (op ∷ ops) = IsTextOperation step op × AreTextOperations op.invoked ops

-- the number of an operation is in range
abbrev pub IsTextNumber : ℕ → Type 0
IsTextNumber number = (1 ≤ number) × (number ≤ MAX_COUNT)

-- the retrievable copies of a key are in range
pub record IsTextHeld (held : Held) : Type 0 where
  pub key : IsTrue (is_key held.key)
  pub stamp : IsTextStamp held.stamp
  pub clouds : held.clouds < 2 ^ MAX_N

-- all of the report is in range; there is an order for each key that a put, a get, a delete or a swap names, by the keys' order,
-- and the keys of the retrievable copies increase
pub record IsReport (report : Report) : Type 0 where
  pub history : IsHistory report.history
  pub operations : AreTextOperations 0 report.history
  pub keys : map (λ (order : Order). order.key) report.orders ≡ sorted_keys (register_keys report.history)
  pub orders : AllByRecursion (λ (order : Order). AllByRecursion IsTextNumber order.ops) report.orders
  pub copies : AllByRecursion IsTextHeld report.held
  pub rising : IsStrictlySortedBy (slice_cmp nat_cmp) (map (λ (held : Held). held.key) report.held)
