use Rattle.hy_world.proofs.Standing.{rested}
use Rattle.hy_world.proofs.nodes.Nodes.rest.Goals as goal

pub returns : goal.returns
returns c = let w = c.args.self.now in λ p t trace few r. rested p t w.params w.seats.items w.clouds.items c.none.result c.none.ensures r
