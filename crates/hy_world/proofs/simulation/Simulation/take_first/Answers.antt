use Rattle.hy_world.specs.Schedules.{first_step}
use Rattle.hy_world.proofs.Doing.{taken}
use Rattle.hy_world.proofs.simulation.Simulation.take_first.Goals as goal

pub returns-clause-stands : goal.returns-clause-stands
returns-clause-stands g c = taken g.row.M.Denot g.M.Meta.served g.M.Meta.given c.args.self.now.machines c.effects_of.new.machines c.args.self.now.log c.append.new.self c.in_ok-effects.effects (first_step c.args.event.now) c.requires.room c.in_ok-effects.ensures c.in_ok-append.ensures.keeps
