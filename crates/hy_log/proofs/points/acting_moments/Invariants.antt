use Rattle.std.proofs.Common.{◌≡◌, ◌++◌, take}
use Rattle.hy_log.specs.Points.{those_told}
use Rattle.hy_log.proofs.points.acting_moments.Given as goal

abbrev pub invariant-loop-moment : goal.invariant-loop-moment
invariant-loop-moment l = l.own.items ≡ l.initial.own.items ++ those_told (take l.moment-index l.moment-items)
