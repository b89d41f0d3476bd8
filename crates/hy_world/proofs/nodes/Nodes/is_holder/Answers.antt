use Rattle.hy_world.proofs.Holding.{not-listed, listed}
use Rattle.hy_world.proofs.nodes.Nodes.is_holder.Goals as goal

pub returns-then-not-has_cloud : goal.returns-then-not-has_cloud
returns-then-not-has_cloud c = λ p t r. not-listed p t c.args.key.now c.args.rec.now c.args.cloud c.clouds.result c.has_cloud.result c.clouds.ensures c.has_cloud.ensures c.if-not-has_cloud.true

pub returns : goal.returns
returns c = λ p t r. listed p t c.args.key.now c.args.rec.now c.args.cloud c.clouds.result c.has_cloud.result c.holds_valid.result c.clouds.ensures c.has_cloud.ensures c.if-not-has_cloud.false (c.holds_valid.ensures p t r)
