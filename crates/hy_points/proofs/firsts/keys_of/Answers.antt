use Rattle.std.proofs.Common.{◌∙◌, sym, ap}
use Rattle.std.specs.Option.{option_or}
use Rattle.hy_points.specs.Index.{key_at}
use Rattle.hy_points.specs.Index.{under}
use Rattle.hy_points.proofs.Tellings.{firsts-more, firsts-same, key-none}
use Rattle.hy_points.proofs.firsts.keys_of.Goals as goal
use Rattle.hy_points.proofs.firsts.keys_of.Goals.{in-Begin+in_ok-keep_first, in_default}

pub loop-point-preserved : goal.loop-point-preserved
loop-point-preserved c = elim c.match-point.branch [
  | in-Begin+in_ok-keep_first w ↦
      firsts-more key_at c.args.points.now c.loop-point.point-index c.point-item.result c.loop-point.keys.entries c.match-point.keys.entries c.loop-point-test.true c.point-item.is c.loop-point.invariant
      (λ op. rw w.keys-is (w.in_ok-keep_first.ensures op ∙ ap (option_or (under c.loop-point.keys.entries op)) (sym (ap (key_at op c.loop-point.point-index) w.in-Begin.is))))
  | in_default w ↦
      rw w.keys-is (firsts-same key_at c.args.points.now c.loop-point.point-index c.point-item.result c.loop-point.keys.entries c.loop-point-test.true c.point-item.is c.loop-point.invariant (λ op. key-none c.point-item.result w.in_default.not-Begin op c.loop-point.point-index))
]
