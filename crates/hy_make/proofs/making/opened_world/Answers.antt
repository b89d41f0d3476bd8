use Rattle.std.proofs.Common.{◌≡◌, ℕ, ◌+◌, ◌<◌, ◌≤◌, List, [], length, take, sym, ap, subst, ◌∙◌, arith, lit≤}
use Rattle.hy_sched.specs.declared.event.Event.TheVariants.{Join}
use Rattle.hy_trace.specs.declared.step.Step.{Step}
use Rattle.hy_world.specs.Schedules.{params_of, steps_of}
use Rattle.hy_world.specs.World.{StandsForSteps}
use Rattle.hy_world.proofs.Reports.{steps-more, steps-all, no-steps}
use Rattle.hy_make.specs.Making.{made_store, opening}
use Rattle.hy_make.proofs.Drafts.{opening-joins}
use Rattle.hy_make.proofs.making.opened_world.Goals as goal

pub with-requires : goal.with-requires
with-requires g c = record {
  shape = record { faults = lit≤ tt; some = lit≤ tt; parts = lit≤ tt };
  served = c.requires.served;
  given = c.requires.given;
}

pub loop-init : goal.loop-init
loop-init g c =
    let p = params_of made_store in
    record {
      taken = c.in_ok-world.ensures.events;
      stands = subst (λ (run : List Step). StandsForSteps g.M.Meta.served g.M.Meta.given p run c.in_ok-world.world) (sym (no-steps p opening)) c.in_ok-world.ensures.stands;
    }

pub step-requires : goal.step-requires
step-requires g c = record { room = omega (arith, c.loop.invariant.taken); short = tt }

pub loop-preserved : goal.loop-preserved
loop-preserved g c =
    let p = params_of made_store in
    let i = c.loop.counter in
    let inside : i < length opening = omega arith in
    let more = steps-more p opening i Join inside (opening-joins i) in
    record {
      taken = c.in_ok-step.ensures.events ∙ ap (λ (n : ℕ). n + 1) c.loop.invariant.taken;
      stands = subst (λ (run : List Step). StandsForSteps g.M.Meta.served g.M.Meta.given p run c.step.new.self) (sym more) (c.in_ok-step.ensures.ok p (steps_of p (take i opening) []) c.loop.invariant.stands);
    }

pub returns : goal.returns
returns g c =
    let p = params_of made_store in
    let past : length opening ≤ c.loop.counter = omega arith in
    let all : c.loop.counter ≡ 4 = omega arith in
    record {
      stands = subst (λ (run : List Step). StandsForSteps g.M.Meta.served g.M.Meta.given p run c.loop.world) (steps-all p opening c.loop.counter past) c.loop.invariant.stands;
      events = c.loop.invariant.taken ∙ all;
    }
