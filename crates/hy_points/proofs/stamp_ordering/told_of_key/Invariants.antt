use Rattle.std.proofs.Common.{◌≡◌, map, take}
use Rattle.std.specs.List.{filter}
use Rattle.hy_points.specs.Stamps.{is_told, told_of}
use Rattle.hy_points.proofs.stamp_ordering.told_of_key.Given as goal

abbrev pub invariant-loop-op : goal.invariant-loop-op
invariant-loop-op l = l.told.items ≡ map told_of (filter (is_told l.key) (take l.op-index l.ops))
