use Rattle.std.proofs.Common.{◌≡◌, map, ap, ◌∙◌}
use Rattle.hy_order.specs.Keys.{sorted_keys}
use Rattle.hy_points.specs.Marks.{begun_keys, order_under}
use Rattle.hy_points.proofs.Marking.{orders-under}
use Rattle.hy_points.proofs.ordering.all_orders.Goals as goal

pub returns : goal.returns
returns c =
    let e : c.deref.result.now ≡ sorted_keys (begun_keys c.args.index.now) = c.deref.ensures.value ∙ c.in_ok-keys.ensures ∙ ap (λ points. sorted_keys (begun_keys points)) c.points.ensures in
    c.in_ok-orders.ensures
    ∙ ap (map (order_under c.in_ok-groups.groups.entries)) e
    ∙ orders-under c.args.index.now c.in_ok-groups.groups.entries (sorted_keys (begun_keys c.args.index.now)) c.in_ok-groups.ensures
