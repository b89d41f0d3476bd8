-- In a report that can be read, each key of an operation has an order.
use Rattle.std.proofs.Common.{◌≡◌, ℕ, true, ◌||◌, ◌↔◌, IsTrue, List, [], ◌∷◌, map, Option, Some, None, refl, ap, ◌∙◌}
use Rattle.std.proofs.lemmas.Bool.{false≢true}
use Rattle.std.specs.List.{AllByRecursion}
use Rattle.std.specs.Str.{bytes_eq}
use Rattle.hy_record.specs.declared.action.Action.{Action}
use Rattle.hy_record.specs.declared.action.Action.TheVariants as asked
use Rattle.hy_order.specs.declared.operation.Operation.{Operation}
use Rattle.hy_order.specs.declared.order.Order.{Order}
use Rattle.hy_order.specs.declared.report.Report.{Report}
use Rattle.hy_order.specs.History.{key_of_action}
use Rattle.hy_order.specs.Keys.{sorted_keys, register_key, register_keys}
use Rattle.hy_order.specs.Linearization.{IsReportLinearizable, acts_on_register, has_order}
use Rattle.hy_order.specs.ReportRanges.{IsReport}
use Rattle.hy_order.specs.Violation.{first_illegal}
use Rattle.hy_order.proofs.Illegal.{none_illegal}
use Rattle.hy_order.proofs.Elements.{each}
use Rattle.hy_order.proofs.SortedKeys.{has_key, has_key-insert_key, has_key-after_insert}

has_order-keys : (orders : List Order) (key : List ℕ) → has_order orders key ≡ has_key (map (λ (order : Order). order.key) orders) key
has_order-keys [] key = refl
has_order-keys (order ∷ orders) key = ap (λ later. bytes_eq order.key key || later) (has_order-keys orders key)

register_key-acts : (action : Action) → acts_on_register action ≡ true → register_key action ≡ Some (key_of_action action)
register_key-acts (asked.Put key value) acts = refl
register_key-acts (asked.Get key) acts = refl
register_key-acts (asked.Delete key) acts = refl
register_key-acts (asked.Swap key expected value) acts = refl
register_key-acts (asked.Collect key) acts = absurd (false≢true acts)

abbrev IsDue : List (List ℕ) → Operation → Type 0
IsDue keys op = IsTrue (acts_on_register op.action) → IsTrue (has_key keys (key_of_action op.action))

due_after : (op : Operation) (ops : List Operation) (found : Option (List ℕ)) → register_key op.action ≡ found → AllByRecursion (IsDue (sorted_keys (register_keys ops))) ops
    → AllByRecursion (IsDue (sorted_keys (register_keys (op ∷ ops)))) ops
due_after op ops None is due = rw is due
due_after op ops (Some key) is due =
    rw is (each (λ later known acts. has_key-after_insert key (key_of_action later.action) (sorted_keys (register_keys ops)) (known acts)) ops due)

due_first : (op : Operation) (ops : List Operation) → IsDue (sorted_keys (register_keys (op ∷ ops))) op
due_first op ops acts =
    rw (register_key-acts op.action acts) (has_key-insert_key (key_of_action op.action) (sorted_keys (register_keys ops)))

due : (ops : List Operation) → AllByRecursion (IsDue (sorted_keys (register_keys ops))) ops
due [] = tt
due (op ∷ ops) = (due_first op ops, due_after op ops (register_key op.action) refl (due ops))

has_orders : (report : Report) → IsReport report → AllByRecursion (λ op. IsTrue (acts_on_register op.action) → IsTrue (has_order report.orders (key_of_action op.action))) report.history
has_orders report ruled =
    each (λ op known acts. has_order-keys report.orders (key_of_action op.action) ∙ ap (λ keys. has_key keys (key_of_action op.action)) ruled.keys ∙ known acts) report.history (due report.history)

-- no order of such a report is illegal exactly where the report is linearizable
pub none_illegal-linearizable : (report : Report) → IsReport report → (first_illegal report.history report.orders ≡ None) ↔ IsReportLinearizable report
none_illegal-linearizable report ruled = (
  λ none. record { keys = has_orders report ruled; orders = (none_illegal report.history report.orders).0 none },
  λ known. (none_illegal report.history report.orders).1 known.orders,
)
