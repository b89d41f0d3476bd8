use Rattle.std.proofs.Common.{◌≡◌}
use Rattle.std.specs.Prelude.{[], map, slice_index_or}
use Rattle.std.specs.List.{range_with_len}
use Rattle.sha2.specs.Sha256.{sha256}
use Rattle.hy_put.proofs.content.fragment_hashes.Given as goal

abbrev pub invariant-loop-cloud : goal.invariant-loop-cloud
invariant-loop-cloud l = l.hashes.items ≡ map (λ cloud. sha256 (slice_index_or l.fragments cloud [])) (range_with_len 0 l.cloud)
