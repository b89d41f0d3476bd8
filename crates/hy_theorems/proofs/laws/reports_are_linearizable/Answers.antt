use Rattle.hy_trace.specs.Schedule.{trace_of}
use Rattle.hy_theorems.proofs.Reports.{is-linearizable}
use Rattle.hy_trace.proofs.Steps.{schedule-trace}
use Rattle.hy_theorems.proofs.laws.reports_are_linearizable.Goals as goal

pub returns : goal.returns
returns c = λ p schedule shape free bytes_only. is-linearizable p (trace_of p schedule) (schedule-trace p schedule) shape free bytes_only
