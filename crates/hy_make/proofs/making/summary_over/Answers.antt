use Rattle.std.proofs.Common.{◌≡◌, ℕ, ◌<◌, List, [], length, sym, ap, subst, ◌∙◌, arith}
use Rattle.hy_order.specs.Linearization.{IsReportLinearizable}
use Rattle.hy_trace.specs.declared.step.Step.{Step}
use Rattle.hy_world.specs.Schedules.{params_of, steps_of, report_of_schedule}
use Rattle.hy_world.specs.World.{StandsForSteps}
use Rattle.hy_make.specs.Making.{made_store, draft_of, sent_by, generated_schedule}
use Rattle.hy_make.proofs.Drafts.{made-linearizable, next-low, next-drawer, next-steps, next-small, told-summary}
use Rattle.hy_make.proofs.making.summary_over.Goals as goal

pub loop-init : goal.loop-init
unfolding draft_of
loop-init g c = record {
  taken = omega (arith, c.in_ok-world.ensures.events);
  stands = c.in_ok-world.ensures.stands;
  drawer = sym c.of_seed-drawer.ensures;
}

pub next_event-requires : goal.next_event-requires
unfolding sent_by
next_event-requires g c =
    let i = c.loop.counter in
    let run = steps_of (params_of made_store) (draft_of c.args.seed i).events [] in
    next-low c.args.seed i c.sent.result c.loop.drawer (omega arith) (c.sent.ensures (params_of made_store) run c.loop.invariant.stands) c.loop.invariant.drawer

pub step-requires : goal.step-requires
unfolding sent_by
step-requires g c =
    let i = c.loop.counter in
    let run = steps_of (params_of made_store) (draft_of c.args.seed i).events [] in
    record {
      room = omega (arith, c.loop.invariant.taken);
      short = next-small c.args.seed i c.sent.result c.loop.drawer (omega arith) (c.sent.ensures (params_of made_store) run c.loop.invariant.stands) c.loop.invariant.drawer c.in_ok-event.event c.in_ok-event.ensures.event;
    }

pub loop-preserved : goal.loop-preserved
unfolding sent_by
loop-preserved g c =
    let p = params_of made_store in
    let i = c.loop.counter in
    let run = steps_of p (draft_of c.args.seed i).events [] in
    let few : i < 10000 = omega arith in
    let was_sent : c.sent.result ≡ sent_by (draft_of c.args.seed i).events = c.sent.ensures p run c.loop.invariant.stands in
    let more = next-steps c.args.seed i c.sent.result c.loop.drawer few was_sent c.loop.invariant.drawer c.in_ok-event.event c.in_ok-event.ensures.event in
    record {
      taken = omega (arith, c.in_ok-step.ensures.events, c.loop.invariant.taken);
      stands = subst (λ (steps : List Step). StandsForSteps g.M.Meta.served g.M.Meta.given p steps c.step.new.self) (sym more) (c.in_ok-step.ensures.ok p run c.loop.invariant.stands);
      drawer = next-drawer c.args.seed i c.sent.result c.loop.drawer few was_sent c.loop.invariant.drawer ∙ sym c.in_ok-event.ensures.after;
    }

pub report-requires : goal.report-requires
report-requires g c =
    (params_of made_store, steps_of (params_of made_store) (draft_of c.args.seed c.loop.counter).events [], c.loop.invariant.stands)

pub returns : goal.returns
returns g c =
    let p = params_of made_store in
    let run = steps_of p (draft_of c.args.seed c.args.count).events [] in
    let all : c.loop.counter ≡ c.args.count = omega arith in
    let stands : StandsForSteps g.M.Meta.served g.M.Meta.given p run c.loop.world =
    subst (λ (n : ℕ). StandsForSteps g.M.Meta.served g.M.Meta.given p (steps_of p (draft_of c.args.seed n).events []) c.loop.world) all c.loop.invariant.stands in
    let is : c.in_ok-report.report ≡ report_of_schedule (generated_schedule c.args.seed c.args.count) = c.in_ok-report.ensures p run stands in
    record {
      summary =
          told-summary c.args.seed c.args.count c.steps.result (length c.items.result.now) c.finished_count.result (length c.items-2.result.now) c.in_ok-legal.legal c.in_ok-report.report is
          (c.steps.ensures p run stands) (ap length c.items.ensures.value) c.finished_count.ensures (ap length c.items-2.ensures) c.in_ok-legal.ensures.count;
      legal = λ free.
          c.in_ok-legal.ensures.all (subst IsReportLinearizable (sym is) (made-linearizable c.args.seed c.args.count c.requires.count free))
          ∙ sym (ap length c.items-2.ensures);
    }
