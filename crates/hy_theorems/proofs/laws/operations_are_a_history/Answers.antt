use Rattle.hy_trace.specs.Schedule.{trace_of}
use Rattle.hy_theorems.proofs.Histories.{is-history}
use Rattle.hy_trace.proofs.Steps.{schedule-trace}
use Rattle.hy_theorems.proofs.laws.operations_are_a_history.Goals as goal

pub returns : goal.returns
returns c = λ p schedule. is-history p (trace_of p schedule) (schedule-trace p schedule)
