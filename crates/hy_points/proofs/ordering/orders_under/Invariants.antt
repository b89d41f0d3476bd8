use Rattle.std.proofs.Common.{◌≡◌, map, take}
use Rattle.hy_points.specs.Marks.{order_under}
use Rattle.hy_points.proofs.ordering.orders_under.Given as goal

abbrev pub invariant-loop-key : goal.invariant-loop-key
invariant-loop-key l = l.orders.items ≡ map (order_under l.groups.entries) (take l.key-index l.keys)
