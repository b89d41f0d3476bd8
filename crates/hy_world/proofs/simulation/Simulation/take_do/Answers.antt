use Rattle.std.proofs.Common.{rules, subst, List, ◌∷◌}
use Rattle.hy_trace.specs.declared.step.Step.{Step}
use Rattle.hy_trace.specs.declared.step.Step.TheVariants as steps
use Rattle.hy_sched.specs.declared.event.Event.{Event}
use Rattle.hy_world.specs.Schedules.{first_step}
use Rattle.hy_world.specs.World.{Replays}
use Rattle.hy_world.proofs.Doing.{do-began, do-refused}
use Rattle.hy_world.proofs.simulation.Simulation.take_do.Goals as goal

pub returns-then-len-begun-clause-stands : goal.returns-then-len-begun-clause-stands
returns-then-len-begun-clause-stands g c = λ action is p before r.
    let begun : Replays g.M.Meta.served g.M.Meta.given p (steps.Invoke c.args.client action ∷ before) c.take_first.new.self = subst (λ (e : Event). Replays g.M.Meta.served g.M.Meta.given p (first_step e ∷ before) c.take_first.new.self) is (c.in_ok-take_first.ensures.stands p before r) in
    let began = do-began g.row.M.Denot g.M.Meta.served g.M.Meta.given p c.args.client _ action before c.args.self.now c.take_first.new.self r begun (search rules) (search rules) in
    subst (λ (x : List Step). Replays g.M.Meta.served g.M.Meta.given p x c.take_gives.new.self) began.1 (c.in_ok-take_gives.ensures.stands p (steps.Invoke c.args.client action ∷ before) began.0 begun)

pub returns-clause-stands : goal.returns-clause-stands
returns-clause-stands g c = λ action is p before r.
    let begun : Replays g.M.Meta.served g.M.Meta.given p (steps.Invoke c.args.client action ∷ before) c.take_first.new.self = subst (λ (e : Event). Replays g.M.Meta.served g.M.Meta.given p (first_step e ∷ before) c.take_first.new.self) is (c.in_ok-take_first.ensures.stands p before r) in
    subst (λ (x : List Step). Replays g.M.Meta.served g.M.Meta.given p x c.take_first.new.self) (do-refused g.row.M.Denot g.M.Meta.served g.M.Meta.given p c.args.client action before c.args.self.now c.take_first.new.self r begun (search rules)) begun
