use Rattle.std.proofs.Common.{List, Option, sym, subst, ◌∙◌}
use Rattle.hy_operation.specs.declared.progress.Progress.{Progress}
use Rattle.hy_trace.specs.Schedule.{trace_of}
use Rattle.hy_trace.proofs.Steps.{schedule-trace}
use Rattle.hy_log.specs.History.{AreRunning}
use Rattle.hy_world.proofs.Reports.{told-history}
use Rattle.hy_world.proofs.simulation.Simulation.history.Goals as goal

pub of-requires : goal.of-requires
of-requires g c =
    let p = c.requires.0 in
    let run = c.requires.1 in
    let r = c.requires.2 in
    let running = subst (λ (xs : List (Option Progress)). AreRunning p (trace_of p run) xs) (sym c.deref.ensures.value) (c.in_ok-running.ensures p (trace_of p run) r.machines_stand.nodes_stand) in
    told-history p run c.in_ok-operations.operations.items (c.in_ok-operations.ensures p (trace_of p run) (schedule-trace p run) r.log_keeps running)

pub returns : goal.returns
returns g c = λ p run r.
    (let running = subst (λ (xs : List (Option Progress)). AreRunning p (trace_of p run) xs) (sym c.deref.ensures.value) (c.in_ok-running.ensures p (trace_of p run) r.machines_stand.nodes_stand) in
    c.of.ensures ∙ c.in_ok-operations.ensures p (trace_of p run) (schedule-trace p run) r.log_keeps running)
