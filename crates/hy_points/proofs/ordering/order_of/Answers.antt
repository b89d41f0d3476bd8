use Rattle.std.proofs.Common.{◌≡◌, map, sym, ap, subst, ◌∙◌}
use Rattle.hy_points.specs.Marks.{linearization_of, marks_of, moment_cmp, op_of, sorted_by}
use Rattle.hy_points.specs.Orders.{OrdersLog}
use Rattle.hy_points.proofs.LogLaw.{orders-log}
use Rattle.hy_points.proofs.ByStamp.{moments-by-stamp}
use Rattle.hy_points.proofs.ordering.order_of.Goals as goal

pub returns-clause-law : goal.returns-clause-law
unfolding linearization_of
returns-clause-law c = λ atomic once.
    let e : c.in_ok-ops.ops ≡ linearization_of c.args.log.now c.args.key.now =
    c.in_ok-ops.ensures ∙ ap (λ marks. map op_of (sorted_by moment_cmp marks)) (c.in_ok-marks.ensures ∙ ap (λ log. marks_of log c.args.key.now) (c.in_ok-index.ensures ∙ c.items.ensures)) in
    subst (OrdersLog c.args.log.now c.args.key.now) (sym e) (orders-log c.args.log.now atomic once c.args.key.now)

pub returns-clause-by_stamp : goal.returns-clause-by_stamp
unfolding linearization_of
returns-clause-by_stamp c = λ atomic once.
    c.in_ok-ops.ensures ∙ ap (λ marks. map op_of (sorted_by moment_cmp marks)) (c.in_ok-marks.ensures ∙ ap (λ log. marks_of log c.args.key.now) (c.in_ok-index.ensures ∙ c.items.ensures))
    ∙ moments-by-stamp c.args.log.now atomic once c.args.key.now
