use Rattle.std.proofs.Common.{◌≡◌, [], take}
use Rattle.hy_log.specs.Orders.{placed_from}
use Rattle.hy_log.proofs.log.Log.places.Given as goal

abbrev pub invariant-loop-index : goal.invariant-loop-index
invariant-loop-index l = l.places ≡ placed_from l.self.courses 1 [] (take l.index l.self.starts.items)
