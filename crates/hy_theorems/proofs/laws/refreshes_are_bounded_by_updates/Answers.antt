use Rattle.std.proofs.Common.{ap}
use Rattle.hy_protocol.specs.Operations.{key_of}
use Rattle.hy_trace.specs.Schedule.{trace_of}
use Rattle.hy_trace.proofs.Steps.{schedule-trace}
use Rattle.hy_theorems.proofs.Refreshes.{few-refreshes}
use Rattle.hy_theorems.proofs.laws.refreshes_are_bounded_by_updates.Goals as goal

pub returns : goal.returns
returns c = λ p schedule client op key start get. few-refreshes p (trace_of p schedule) client op start key (schedule-trace p schedule) get.began (ap key_of get.action_is)
