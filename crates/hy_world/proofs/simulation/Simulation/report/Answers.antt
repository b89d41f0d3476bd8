use Rattle.std.proofs.Common.{◌∙◌, ap, List, map}
use Rattle.std.specs.List.{filter_map}
use Rattle.hy_order.specs.declared.order.Order.{Order}
use Rattle.hy_trace.specs.Held.{held_of}
use Rattle.hy_trace.specs.Schedule.{trace_of}
use Rattle.hy_trace.proofs.Steps.{schedule-trace}
use Rattle.hy_world.specs.Reporting.{order_key}
use Rattle.hy_world.proofs.Reports.{told-report}
use Rattle.hy_world.proofs.simulation.Simulation.report.Goals as goal

pub returns : goal.returns
returns g c = λ p run r.
    told-report p (trace_of p run) c.in_ok-history.history c.in_ok-orders.orders c.of.result
    (c.in_ok-history.ensures p run r)
    (c.in_ok-orders.ensures p (trace_of p run) (schedule-trace p run) r.log_keeps)
    (c.of.ensures ∙ c.in_ok-held.ensures p (trace_of p run) r.machines_stand ∙ ap (λ (xs : List Order). filter_map (held_of p (trace_of p run)) (map order_key xs)) c.items.ensures)
