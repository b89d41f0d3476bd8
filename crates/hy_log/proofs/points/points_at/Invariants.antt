use Rattle.std.proofs.Common.{◌≡◌, map, take}
use Rattle.hy_log.specs.Points.{point_at}
use Rattle.hy_log.proofs.points.points_at.Given as goal

abbrev pub invariant-loop-moment : goal.invariant-loop-moment
invariant-loop-moment l = l.points.items ≡ map point_at (take l.moment-index l.moments)
