use Rattle.std.proofs.Common.{◌∙◌, sym, ap}
use Rattle.std.specs.Option.{option_or}
use Rattle.hy_points.specs.Lookups.{asking_at}
use Rattle.hy_points.specs.Index.{under}
use Rattle.hy_points.proofs.Tellings.{firsts-more, firsts-same, asking-none}
use Rattle.hy_points.proofs.firsts.askings_of.Goals as goal
use Rattle.hy_points.proofs.firsts.askings_of.Goals.{in-Ask+in_ok-keep_first, in_default}

pub loop-place-preserved : goal.loop-place-preserved
loop-place-preserved c = elim c.match-point.branch [
  | in-Ask+in_ok-keep_first w ↦
      firsts-more asking_at c.args.points.now c.loop-place.place c.index-points-place.result c.loop-place.askings.entries c.match-point.askings.entries c.loop-place-test.true c.index-points-place.is c.loop-place.invariant
      (λ op. rw w.askings-is (w.in_ok-keep_first.ensures op ∙ ap (option_or (under c.loop-place.askings.entries op)) (sym (ap (asking_at op c.loop-place.place) w.in-Ask.is))))
  | in_default w ↦
      rw w.askings-is (firsts-same asking_at c.args.points.now c.loop-place.place c.index-points-place.result c.loop-place.askings.entries c.loop-place-test.true c.index-points-place.is c.loop-place.invariant (λ op. asking-none c.index-points-place.result w.in_default.not-Ask op c.loop-place.place))
]
