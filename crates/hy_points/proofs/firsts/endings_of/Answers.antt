use Rattle.std.proofs.Common.{◌∙◌, sym, ap}
use Rattle.std.specs.Option.{option_or}
use Rattle.hy_points.specs.Lookups.{ending_at}
use Rattle.hy_points.specs.Index.{under}
use Rattle.hy_points.proofs.Tellings.{firsts-more, firsts-same, ending-none}
use Rattle.hy_points.proofs.firsts.endings_of.Goals as goal
use Rattle.hy_points.proofs.firsts.endings_of.Goals.{in-End+in_ok-keep_first, in_default}

pub loop-place-preserved : goal.loop-place-preserved
loop-place-preserved c = elim c.match-point.branch [
  | in-End+in_ok-keep_first w ↦
      firsts-more ending_at c.args.points.now c.loop-place.place c.index-points-place.result c.loop-place.endings.entries c.match-point.endings.entries c.loop-place-test.true c.index-points-place.is c.loop-place.invariant
      (λ op. rw w.endings-is (w.in_ok-keep_first.ensures op ∙ ap (option_or (under c.loop-place.endings.entries op)) (sym (ap (ending_at op c.loop-place.place) w.in-End.is))))
  | in_default w ↦
      rw w.endings-is (firsts-same ending_at c.args.points.now c.loop-place.place c.index-points-place.result c.loop-place.endings.entries c.loop-place-test.true c.index-points-place.is c.loop-place.invariant (λ op. ending-none c.index-points-place.result w.in_default.not-End op c.loop-place.place))
]
