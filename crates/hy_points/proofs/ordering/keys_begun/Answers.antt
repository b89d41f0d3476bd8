use Rattle.std.proofs.Common.{sym, ap, ◌∙◌}
use Rattle.hy_order.specs.Keys.{sorted_keys}
use Rattle.hy_points.proofs.Marking.{begun-more, begun-same}
use Rattle.hy_points.proofs.ordering.keys_begun.Goals as goal
use Rattle.hy_points.proofs.ordering.keys_begun.Goals.{in-Some+in_ok-insert, in_default}

pub loop-point-preserved : goal.loop-point-preserved
loop-point-preserved c = elim c.match-begun_key.branch [
  | in-Some+in_ok-insert w ↦
      begun-more c.args.points.now c.loop-point.point-index c.point-item.result c.loop-point-test.true c.point-item.is w.in-Some.key c.loop-point.keys.keys _
      (sym w.in-Some.ensures) c.loop-point.invariant (ap (λ keys. keys.keys) w.keys-is ∙ w.in_ok-insert.ensures.keys)
  | in_default w ↦
      ap (λ keys. keys.keys) w.keys-is ∙ c.loop-point.invariant
      ∙ ap sorted_keys (sym (begun-same c.args.points.now c.loop-point.point-index c.point-item.result c.loop-point-test.true c.point-item.is (sym w.in_default.ensures)))
]
