use Rattle.hy_trace.specs.Schedule.{trace_of}
use Rattle.hy_trace.proofs.Steps.{schedule-trace}
use Rattle.hy_theorems.proofs.Retrievable.{retrievable}
use Rattle.hy_theorems.proofs.laws.values_are_held.Goals as goal

pub returns : goal.returns
returns c = λ p schedule key r shape is. retrievable p (trace_of p schedule) (schedule-trace p schedule) shape key r is
