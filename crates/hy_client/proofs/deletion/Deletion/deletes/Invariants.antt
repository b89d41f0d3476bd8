use Rattle.std.proofs.Common.{◌≡◌, take}
use Rattle.std.specs.List.{flat_map}
use Rattle.hy_client.specs.Targets.{deletes_of}
use Rattle.hy_client.proofs.deletion.Deletion.deletes.Given as goal

abbrev pub invariant-loop-target : goal.invariant-loop-target
invariant-loop-target l = l.sends.items ≡ flat_map (deletes_of l.issuer l.clouds) (take l.target-index l.self.targets.items)
