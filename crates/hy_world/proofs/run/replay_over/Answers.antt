use Rattle.std.proofs.Common.{◌≡◌, ℕ, ◌+◌, ◌<◌, ◌≤◌, List, [], length, take, sym, ap, subst, ◌∙◌, arith}
use Rattle.std.specs.Prelude.{All}
use Rattle.std.proofs.Math.ListN.{get_or}
use Rattle.hy_record.specs.Clouds.{clouds_of}
use Rattle.hy_order.specs.declared.report.Report.{Report}
use Rattle.hy_order.specs.Linearization.{IsReportLinearizable}
use Rattle.hy_sched.specs.declared.event.Event.{Event}
use Rattle.hy_trace.specs.declared.step.Step.{Step}
use Rattle.hy_trace.specs.Schedule.{trace_of}
use Rattle.hy_world.specs.Schedules.{params_of, steps_of, report_of_schedule}
use Rattle.hy_world.specs.World.{StandsForSteps}
use Rattle.hy_trace.proofs.Steps.{schedule-trace}
use Rattle.hy_world.specs.Promises.{ListsCurrent}
use Rattle.hy_world.proofs.Listed.{lists-current}
use Rattle.hy_world.proofs.Promising.{keeps-promises}
use Rattle.hy_world.proofs.Reports.{steps-more, steps-all, no-steps, text-event, schedule-linearizable, schedule-retrievable}
use Rattle.hy_world.proofs.run.replay_over.Goals as goal

pub with-requires : goal.with-requires
with-requires g c = record { shape = c.requires.schedule.params.shape; served = c.requires.served; given = c.requires.given }

pub loop-event-init : goal.loop-event-init
loop-event-init g c =
    let p = params_of c.args.schedule.now.params in
    record {
      taken = c.in_ok-world.ensures.events;
      stands = subst (λ (run : List Step). StandsForSteps g.M.Meta.served g.M.Meta.given p run c.in_ok-world.world) (sym (no-steps p c.args.schedule.now.events)) c.in_ok-world.ensures.stands;
    }

pub step-requires : goal.step-requires
step-requires g c =
    let inside : c.loop-event.event-index < length c.args.schedule.now.events = subst (λ (xs : List Event). c.loop-event.event-index < length xs) c.items-event-items.ensures c.loop-event-test.true in
    record {
      room = omega (arith, inside, c.loop-event.invariant.taken, c.requires.schedule.few);
      short = text-event c.args.schedule.now c.loop-event.event-index c.event-item.result c.requires.schedule inside (c.event-item.is ∙ ap (λ (xs : List Event). get_or xs c.loop-event.event-index c.event-item.result) c.items-event-items.ensures);
    }

pub loop-event-preserved : goal.loop-event-preserved
loop-event-preserved g c =
    let p = params_of c.args.schedule.now.params in
    let list = c.args.schedule.now.events in
    let i = c.loop-event.event-index in
    let inside : i < length list = subst (λ (xs : List Event). i < length xs) c.items-event-items.ensures c.loop-event-test.true in
    let more = steps-more p list i c.event-item.result inside (c.event-item.is ∙ ap (λ (xs : List Event). get_or xs i c.event-item.result) c.items-event-items.ensures) in
    record {
      taken = c.in_ok-step.ensures.events ∙ ap (λ (n : ℕ). n + 1) c.loop-event.invariant.taken;
      stands = subst (λ (run : List Step). StandsForSteps g.M.Meta.served g.M.Meta.given p run c.step.new.self) (sym more) (c.in_ok-step.ensures.ok p (steps_of p (take i list) []) c.loop-event.invariant.stands);
    }

pub report-requires : goal.report-requires
report-requires g c =
    let p = params_of c.args.schedule.now.params in
    (p, steps_of p (take c.loop-event.event-index c.args.schedule.now.events) [], c.loop-event.invariant.stands)

pub returns : goal.returns
returns g c =
    let schedule = c.args.schedule.now in
    let p = params_of schedule.params in
    let past : length schedule.events ≤ c.loop-event.event-index = subst (λ (xs : List Event). length xs ≤ c.loop-event.event-index) c.items-event-items.ensures c.loop-event-test.false in
    let stands : StandsForSteps g.M.Meta.served g.M.Meta.given p (steps_of p schedule.events []) c.loop-event.world =
    subst (λ (run : List Step). StandsForSteps g.M.Meta.served g.M.Meta.given p run c.loop-event.world) (steps-all p schedule.events c.loop-event.event-index past) c.loop-event.invariant.stands in
    let is : c.in_ok-report.report ≡ report_of_schedule schedule = c.in_ok-report.ensures p (steps_of p schedule.events []) stands in
    record {
      report = is;
      linearizable = λ free. subst IsReportLinearizable (sym is) (schedule-linearizable schedule c.requires.schedule free);
      retrievable = λ liars. subst (λ (r : Report). All (λ held. schedule.params.k ≤ length (clouds_of held.clouds)) r.held) (sym is) (schedule-retrievable schedule c.requires.schedule liars);
      listed = subst (λ (r : Report). ListsCurrent p (trace_of p (steps_of p schedule.events [])) r.held) (sym is) (lists-current p (trace_of p (steps_of p schedule.events [])) (schedule-trace p (steps_of p schedule.events [])));
      promises = keeps-promises p (steps_of p schedule.events []) c.requires.schedule.params.shape;
    }
