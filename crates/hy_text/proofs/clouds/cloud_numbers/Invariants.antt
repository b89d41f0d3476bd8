-- The clouds of the set below the next one.
use Rattle.std.proofs.Common.{◌≡◌, ◌==◌, filter}
use Rattle.std.specs.Int.{bit_at}
use Rattle.std.specs.List.{range_with_len}
use Rattle.hy_text.proofs.clouds.cloud_numbers.Given as goal

abbrev pub invariant-loop-cloud : goal.invariant-loop-cloud
invariant-loop-cloud l = l.numbers.items ≡ filter (λ cloud. bit_at l.clouds cloud == 1) (range_with_len 0 l.cloud)
