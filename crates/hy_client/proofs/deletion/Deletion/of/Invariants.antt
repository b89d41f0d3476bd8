use Rattle.std.proofs.Common.{◌≡◌, take, map}
use Rattle.hy_client.proofs.deletion.Deletion.of.Given as goal

abbrev pub invariant-loop-stamp : goal.invariant-loop-stamp
invariant-loop-stamp l = l.targets.items ≡ map (λ stamp. record { stamp = stamp; gone = l.gone; lacking = l.enough }) (take l.stamp-index l.stamp-items)
