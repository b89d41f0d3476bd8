use Rattle.std.proofs.Common.{◌≡◌}
use Rattle.std.specs.Prelude.{filter, not}
use Rattle.std.specs.List.{range_with_len}
use Rattle.hy_operation.specs.Marks.{is_marked}
use Rattle.hy_put.specs.Contents.{puts_of}
use Rattle.hy_put.proofs.content.Content.puts.Given as goal

abbrev pub invariant-loop-cloud : goal.invariant-loop-cloud
invariant-loop-cloud l = l.sends.items ≡ puts_of l.issuer l.self.fragments l.stamp (filter (λ cloud. not (is_marked l.acked cloud)) (range_with_len 0 l.cloud))
