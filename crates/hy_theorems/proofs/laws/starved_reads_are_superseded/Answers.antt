use Rattle.hy_trace.specs.Schedule.{trace_of}
use Rattle.hy_trace.proofs.Steps.{schedule-trace}
use Rattle.hy_theorems.proofs.Starved.{superseded}
use Rattle.hy_theorems.proofs.laws.starved_reads_are_superseded.Goals as goal

pub returns : goal.returns
returns c = λ p schedule client op key r shape liars starved.
    superseded p (trace_of p schedule) (schedule-trace p schedule) shape client op starved.start key starved.get.began starved.get.action_is starved.version starved.follows r starved.record_is liars starved.pending starved.answered
