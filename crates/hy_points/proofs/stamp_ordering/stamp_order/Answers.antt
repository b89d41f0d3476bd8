use Rattle.std.proofs.Common.{map, ap, ◌∙◌}
use Rattle.std.specs.List.{filter}
use Rattle.std.specs.Ordering.{on}
use Rattle.hy_points.specs.Marks.{sorted_by}
use Rattle.hy_points.specs.Stamps.{is_told, told_of, told_cmp, told_number, operations_by_stamp}
use Rattle.hy_points.proofs.StampLaw.{sorted-map, map-numbers}
use Rattle.hy_points.proofs.stamp_ordering.stamp_order.Goals as goal

pub returns-clause-order : goal.returns-clause-order
unfolding operations_by_stamp
returns-clause-order c =
    c.in_ok-ops.ensures
    ∙ ap (λ told. map told_number (sorted_by told_cmp told)) (c.in_ok-told.ensures ∙ ap (λ ops. map told_of (filter (is_told c.args.key.now) ops)) c.items.ensures.value)
    ∙ ap (map told_number) (sorted-map told_of told_cmp (filter (is_told c.args.key.now) c.args.history.now))
    ∙ map-numbers (sorted_by (on told_of told_cmp) (filter (is_told c.args.key.now) c.args.history.now))
