use Rattle.std.proofs.Common.{◌≡◌, ℕ, List, take}
use Rattle.std.specs.List.{filter_map}
use Rattle.hy_points.specs.Marks.{marks_under, point_mark}
use Rattle.hy_points.proofs.ordering.marks_by_key.Given as goal

abbrev pub invariant-loop-point : goal.invariant-loop-point
invariant-loop-point l = (key : List ℕ) → marks_under l.groups.entries key ≡ filter_map (point_mark l.index key) (take l.point-index l.index)
