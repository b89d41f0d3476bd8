use Rattle.std.proofs.Common.{◌≡◌, take}
use Rattle.hy_log.specs.Points.{moments_from}
use Rattle.hy_log.proofs.log.Log.moments.Given as goal

abbrev pub invariant-loop-index : goal.invariant-loop-index
invariant-loop-index l = l.moments.items ≡ moments_from l.self.courses 1 (take l.index l.self.starts.items)
