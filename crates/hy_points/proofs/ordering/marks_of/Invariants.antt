use Rattle.std.proofs.Common.{◌≡◌, take}
use Rattle.std.specs.List.{filter_map}
use Rattle.hy_points.specs.Marks.{point_mark}
use Rattle.hy_points.proofs.ordering.marks_of.Given as goal

abbrev pub invariant-loop-point : goal.invariant-loop-point
invariant-loop-point l = l.marks.items ≡ filter_map (point_mark l.index l.key) (take l.point-index l.point-items)
