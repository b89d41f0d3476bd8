use Rattle.std.proofs.Common.{take}
use Rattle.hy_points.specs.Index.{key_at, AreFirsts}
use Rattle.hy_points.proofs.firsts.keys_of.Given as goal

abbrev pub invariant-loop-point : goal.invariant-loop-point
invariant-loop-point l = AreFirsts key_at (take l.point-index l.points) l.keys.entries
