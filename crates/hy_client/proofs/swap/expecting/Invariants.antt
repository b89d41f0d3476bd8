use Rattle.std.proofs.Common.{◌≡◌, take, drop, map}
use Rattle.hy_protocol.specs.Swap.{expecting}
use Rattle.hy_client.proofs.swap.expecting.Given as goal

abbrev pub invariant-loop-out : goal.invariant-loop-out
invariant-loop-out l = (take l.out-index l.out-items ≡ map (expecting l.expected) (take l.out-index l.initial.out-items)) × (drop l.out-index l.out-items ≡ drop l.out-index l.initial.out-items)
