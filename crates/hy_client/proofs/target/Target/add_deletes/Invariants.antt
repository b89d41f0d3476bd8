use Rattle.std.proofs.Common.{◌≡◌}
use Rattle.std.specs.Prelude.{◌++◌, filter, map, not}
use Rattle.std.specs.List.{range_with_len}
use Rattle.hy_operation.specs.Marks.{is_marked}
use Rattle.hy_client.specs.Targets.{delete_in}
use Rattle.hy_client.proofs.target.Target.add_deletes.Given as goal

abbrev pub invariant-loop-cloud : goal.invariant-loop-cloud
invariant-loop-cloud l = l.sends.items ≡ l.initial.sends.items ++ map (delete_in l.issuer l.self.stamp) (filter (λ cloud. not (is_marked l.self.gone cloud)) (range_with_len 0 l.cloud))
