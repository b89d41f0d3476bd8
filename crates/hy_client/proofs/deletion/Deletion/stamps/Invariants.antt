use Rattle.std.proofs.Common.{◌≡◌, take}
use Rattle.hy_client.specs.Targets.{stamps_of}
use Rattle.hy_client.proofs.deletion.Deletion.stamps.Given as goal

abbrev pub invariant-loop-target : goal.invariant-loop-target
invariant-loop-target l = l.stamps.items ≡ stamps_of (take l.target-index l.self.targets.items)
