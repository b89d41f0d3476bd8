use Rattle.std.proofs.Common.{◌≡◌, ◌++◌, map}
use Rattle.hy_log.specs.Orders.{order_line}
use Rattle.hy_log.proofs.places.PlacesByKey.into_orders.Given as goal

abbrev pub invariant-loop-key : goal.invariant-loop-key
invariant-loop-key l = l.orders.items ++ map order_line l.key-iterator ≡ map order_line l.fn.self
