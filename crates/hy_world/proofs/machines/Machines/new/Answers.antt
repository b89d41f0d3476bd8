use Rattle.hy_trace.specs.Deeds.{served, joined}
use Rattle.hy_world.proofs.machines.Machines.new.Goals as goal

pub returns : goal.returns
unfolding served joined
returns g c = record { serving = c.requires.served; given_is = c.requires.given; nodes_stand = c.in_ok-nodes.ensures }
