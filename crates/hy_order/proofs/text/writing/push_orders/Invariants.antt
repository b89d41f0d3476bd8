-- The lines of the orders so far.
use Rattle.std.proofs.Common.{◌≡◌, ◌++◌, map, take}
use Rattle.hy_text.specs.Line.{text_of}
use Rattle.hy_order.specs.Report.{order_row}
use Rattle.hy_order.proofs.text.writing.push_orders.Given as goal

abbrev pub invariant-loop-order : goal.invariant-loop-order
invariant-loop-order l = l.out.items ≡ l.initial.out.items ++ text_of (map order_row (take l.order-index l.orders))
