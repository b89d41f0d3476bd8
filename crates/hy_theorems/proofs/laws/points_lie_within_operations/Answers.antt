use Rattle.hy_trace.specs.Schedule.{trace_of}
use Rattle.hy_trace.proofs.Steps.{schedule-trace}
use Rattle.hy_theorems.proofs.Within.{all-within}
use Rattle.hy_theorems.proofs.laws.points_lie_within_operations.Goals as goal

pub returns : goal.returns
returns c = λ p schedule key. all-within p (trace_of p schedule) (schedule-trace p schedule) key
