use Rattle.std.proofs.Common.{◌≡◌}
use Rattle.std.specs.Prelude.{◌==◌, filter}
use Rattle.std.specs.List.{range_with_len}
use Rattle.std.specs.Int.{bit_at}
use Rattle.hy_operation.proofs.clouds.clouds_of.Given as goal

abbrev pub invariant-loop-cloud : goal.invariant-loop-cloud
invariant-loop-cloud l = l.clouds.items ≡ filter (λ cloud. bit_at l.set cloud == 1) (range_with_len 0 l.cloud)
