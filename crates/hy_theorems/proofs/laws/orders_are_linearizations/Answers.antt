use Rattle.hy_trace.specs.Schedule.{trace_of}
use Rattle.hy_theorems.proofs.Histories.{is-linearization}
use Rattle.hy_trace.proofs.Steps.{schedule-trace}
use Rattle.hy_theorems.proofs.laws.orders_are_linearizations.Goals as goal

pub returns : goal.returns
returns c = λ p schedule key shape free bytes_only. is-linearization p (trace_of p schedule) (schedule-trace p schedule) key shape free bytes_only
