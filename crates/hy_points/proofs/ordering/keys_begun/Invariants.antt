use Rattle.std.proofs.Common.{◌≡◌, ◌++◌, take}
use Rattle.hy_order.specs.Keys.{sorted_keys}
use Rattle.hy_points.specs.Marks.{begun_keys}
use Rattle.hy_points.proofs.ordering.keys_begun.Given as goal

abbrev pub invariant-loop-point : goal.invariant-loop-point
invariant-loop-point l = l.keys.keys ≡ sorted_keys (begun_keys (take l.point-index l.points))

abbrev pub invariant-loop-key : goal.invariant-loop-key
invariant-loop-key l = l.begun.items ++ l.key-iterator ≡ sorted_keys (begun_keys l.points)
