use Rattle.hy_trace.specs.Schedule.{trace_of}
use Rattle.hy_trace.proofs.Steps.{schedule-trace}
use Rattle.hy_theorems.proofs.Holders.{enough-holders}
use Rattle.hy_theorems.proofs.laws.current_versions_stay_retrievable.Goals as goal

pub returns : goal.returns
returns c = λ p schedule key r shape liars is value. enough-holders p (trace_of p schedule) (schedule-trace p schedule) shape liars key r is value
