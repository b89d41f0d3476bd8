use Rattle.hy_theorems.specs.Deleting.{deletion}
use Rattle.hy_trace.specs.Deeds.{served}
use Rattle.hy_trace.specs.Schedule.{trace_of}
use Rattle.hy_theorems.proofs.Meaning.{was-below}
use Rattle.hy_theorems.proofs.Invariant.{trace-holds}
use Rattle.hy_trace.proofs.Steps.{schedule-trace}
use Rattle.hy_theorems.proofs.laws.deletions_are_superseded.Goals as goal

pub returns : goal.returns
returns c = λ p schedule client op cloud key stamp sent.
    was-below (served (trace_of p schedule)) key stamp ((trace-holds p (trace_of p schedule) (schedule-trace p schedule)).said (deletion client op cloud key stamp) sent)
