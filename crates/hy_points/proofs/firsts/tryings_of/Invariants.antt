use Rattle.std.proofs.Common.{take}
use Rattle.hy_points.specs.Lookups.{trying_at}
use Rattle.hy_points.specs.Index.{AreFirsts}
use Rattle.hy_points.proofs.firsts.tryings_of.Given as goal

abbrev pub invariant-loop-place : goal.invariant-loop-place
invariant-loop-place l = AreFirsts trying_at (take l.place l.points) l.tryings.entries
