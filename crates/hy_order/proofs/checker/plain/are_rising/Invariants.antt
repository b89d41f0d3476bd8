use Rattle.std.proofs.Common.{◌≡◌, None, drop, option_copied}
use Rattle.hy_order.specs.Plain.{are_rising}
use Rattle.hy_order.proofs.checker.plain.are_rising.Given as goal

abbrev pub invariant-loop-order : goal.invariant-loop-order
invariant-loop-order l = are_rising (option_copied l.last) (drop l.order-index l.orders) ≡ are_rising None l.orders
