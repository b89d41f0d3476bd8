use Rattle.hy_trace.specs.Schedule.{trace_of}
use Rattle.hy_trace.proofs.Steps.{schedule-trace}
use Rattle.hy_world.proofs.world.WorldOver.points.Goals as goal

pub returns-clause-points : goal.returns-clause-points
returns-clause-points g c = λ p steps r. c.in_ok-points.ensures.points p (trace_of p steps) (schedule-trace p steps) r.log_keeps

pub returns-clause-atomic : goal.returns-clause-atomic
returns-clause-atomic g c = λ p steps r. c.in_ok-points.ensures.atomic p (trace_of p steps) (schedule-trace p steps) r.log_keeps

pub returns-clause-once : goal.returns-clause-once
returns-clause-once g c = λ p steps r. c.in_ok-points.ensures.once p (trace_of p steps) (schedule-trace p steps) r.log_keeps

pub returns-clause-order : goal.returns-clause-order
returns-clause-order g c = λ p steps r. c.in_ok-points.ensures.order p (trace_of p steps) (schedule-trace p steps) r.log_keeps
