use Rattle.hy_trace.specs.declared.step.Step.TheVariants as steps
use Rattle.hy_world.proofs.Doing.{taken}
use Rattle.hy_world.proofs.simulation.Simulation.take_give.Goals as goal

pub returns-clause-stands : goal.returns-clause-stands
returns-clause-stands g c = taken g.row.M.Denot g.M.Meta.served g.M.Meta.given c.args.self.now.machines c.give.new.machines c.args.self.now.log c.append.new.self c.in_ok-effects.effects (steps.Give c.args.number) c.requires c.in_ok-effects.ensures c.in_ok-append.ensures.keeps
