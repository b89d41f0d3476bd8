use Rattle.hy_trace.specs.Schedule.{trace_of}
use Rattle.hy_trace.proofs.Steps.{schedule-trace}
use Rattle.hy_theorems.proofs.Holders.{held-enough}
use Rattle.hy_theorems.proofs.laws.reported_copies_are_enough.Goals as goal

pub returns : goal.returns
returns c = λ p schedule key held shape liars is. held-enough p (trace_of p schedule) (schedule-trace p schedule) shape liars key held is
