use Rattle.hy_world.proofs.Promising.{keeps-promises}
use Rattle.hy_world.proofs.world.WorldOver.step.Goals as goal

pub returns-clause-promises : goal.returns-clause-promises
returns-clause-promises g c = λ p steps r. keeps-promises p steps r.machines_stand.nodes_stand.shape_is
