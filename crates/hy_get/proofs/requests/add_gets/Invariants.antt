use Rattle.std.proofs.Common.{◌≡◌, ◌++◌, take}
use Rattle.hy_protocol.specs.Read.{gets_from}
use Rattle.hy_get.specs.Requests.{plan_of}
use Rattle.hy_get.proofs.requests.add_gets.Given as goal

abbrev pub invariant-loop-cloud : goal.invariant-loop-cloud
invariant-loop-cloud l = l.sends.items ≡ l.initial.sends.items ++ gets_from (plan_of l.issuer) l.stamp (take l.cloud-index l.clouds)
