use Rattle.hy_trace.proofs.Steps.{schedule-trace}
use Rattle.hy_trace.proofs.laws.schedules_make_traces.Goals as goal

pub returns : goal.returns
returns c = schedule-trace
