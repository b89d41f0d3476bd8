use Rattle.hy_trace.specs.Schedule.{deed_of}
use Rattle.hy_world.proofs.nodes.Nodes.tick.Goals as goal

pub returns : goal.returns
unfolding deed_of
returns c = c.hand.ensures
