use Rattle.std.proofs.Common.{◌∙◌}
use Rattle.hy_world.proofs.Doing.{trace-length}
use Rattle.hy_world.proofs.world.WorldOver.steps.Goals as goal

pub returns : goal.returns
returns g c = λ p steps r. r.log_keeps.steps_are ∙ trace-length p steps
