use Rattle.std.proofs.Common.{take}
use Rattle.hy_points.specs.Lookups.{ending_at}
use Rattle.hy_points.specs.Index.{AreFirsts}
use Rattle.hy_points.proofs.firsts.endings_of.Given as goal

abbrev pub invariant-loop-place : goal.invariant-loop-place
invariant-loop-place l = AreFirsts ending_at (take l.place l.points) l.endings.entries
