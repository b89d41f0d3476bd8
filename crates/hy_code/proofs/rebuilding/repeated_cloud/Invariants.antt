use Rattle.std.proofs.Common.{◌≡◌, [], take, drop}
use Rattle.hy_code.specs.Refusal.{repeated_cloud}
use Rattle.hy_code.proofs.rebuilding.repeated_cloud.Given as goal

abbrev pub invariant-loop-i : goal.invariant-loop-i
invariant-loop-i l = repeated_cloud [] l.picks ≡ repeated_cloud (take l.i l.picks) (drop l.i l.picks)
