use Rattle.std.proofs.Common.{take}
use Rattle.hy_points.proofs.Raising.{AreRaised}
use Rattle.hy_points.proofs.index.peaks_of.Given as goal

abbrev pub invariant-loop-place : goal.invariant-loop-place
invariant-loop-place l = AreRaised l.points (take l.place l.points) l.peaks.entries
