use Rattle.hy_trace.specs.Schedule.{trace_of}
use Rattle.hy_world.proofs.Promising.{enough-copies}
use Rattle.hy_world.proofs.world.WorldOver.held.Goals as goal

pub returns-clause-value : goal.returns-clause-value
returns-clause-value g c = λ p steps r. c.held.ensures p (trace_of p steps) r.machines_stand

pub returns-clause-enough : goal.returns-clause-enough
returns-clause-enough g c = λ p steps r liars. enough-copies p steps c.args.key.now c.held.result r.machines_stand.nodes_stand.shape_is liars (c.held.ensures p (trace_of p steps) r.machines_stand)
