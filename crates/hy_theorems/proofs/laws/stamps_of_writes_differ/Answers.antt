use Rattle.hy_trace.specs.Schedule.{trace_of}
use Rattle.hy_theorems.proofs.Apart.{stamps-differ}
use Rattle.hy_trace.proofs.Steps.{schedule-trace}
use Rattle.hy_theorems.proofs.laws.stamps_of_writes_differ.Goals as goal

pub returns : goal.returns
returns c = λ p schedule b n d m key stamp first second. stamps-differ p (trace_of p schedule) b n d m key stamp (schedule-trace p schedule) first second
