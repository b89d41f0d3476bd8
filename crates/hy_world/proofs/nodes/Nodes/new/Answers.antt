use Rattle.hy_world.proofs.Standing.{starts-empty}
use Rattle.hy_world.proofs.nodes.Nodes.new.Goals as goal

pub returns : goal.returns
returns c = starts-empty c.args.params c.new.result.items c.in_ok-clouds.clouds.items c.requires c.new.ensures.items c.in_ok-clouds.ensures.empty
