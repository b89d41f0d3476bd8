use Rattle.std.proofs.Common.{subst, sym, List, arith}
use Rattle.hy_trace.specs.declared.step.Step.{Step}
use Rattle.hy_sched.specs.declared.event.Event.{Event}
use Rattle.hy_world.specs.Schedules.{steps_with}
use Rattle.hy_world.specs.World.{Replays}
use Rattle.hy_world.proofs.Doing.{one-step}
use Rattle.hy_world.proofs.simulation.Simulation.take.Goals as goal

pub returns-in_ok-take_do-in-Do-clause-stands : goal.returns-in_ok-take_do-in-Do-clause-stands
unfolding steps_with
returns-in_ok-take_do-in-Do-clause-stands g c = λ p before r.
    subst (λ (e : Event). Replays g.M.Meta.served g.M.Meta.given p (steps_with p e before) c.take_do.new.self) (sym c.in-Do.is) (c.in_ok-take_do-in-Do.ensures.stands c.in-Do._action c.in-Do.is p before r)

pub returns-in_ok-take_first-in_default : goal.returns-in_ok-take_first-in_default
returns-in_ok-take_first-in_default g c = record {
  stands = λ p before r.
      subst (λ (x : List Step). Replays g.M.Meta.served g.M.Meta.given p x c.take_first.new.self) (sym (one-step p c.args.event.now before c.in_default.not-Do)) (c.in_ok-take_first-in_default.ensures.stands p before r);
  steps = omega (arith, c.in_ok-take_first-in_default.ensures.steps);
}
