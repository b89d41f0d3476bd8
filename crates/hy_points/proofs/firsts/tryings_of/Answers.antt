use Rattle.std.proofs.Common.{◌∙◌, sym, ap}
use Rattle.std.specs.Option.{option_or}
use Rattle.hy_points.specs.Lookups.{trying_at}
use Rattle.hy_points.specs.Index.{under}
use Rattle.hy_points.proofs.Tellings.{firsts-more, firsts-same, trying-none}
use Rattle.hy_points.proofs.firsts.tryings_of.Goals as goal
use Rattle.hy_points.proofs.firsts.tryings_of.Goals.{in-Try+in_ok-keep_first, in_default}

pub loop-place-preserved : goal.loop-place-preserved
loop-place-preserved c = elim c.match-point.branch [
  | in-Try+in_ok-keep_first w ↦
      firsts-more trying_at c.args.points.now c.loop-place.place c.index-points-place.result c.loop-place.tryings.entries c.match-point.tryings.entries c.loop-place-test.true c.index-points-place.is c.loop-place.invariant
      (λ op. rw w.tryings-is (w.in_ok-keep_first.ensures op ∙ ap (option_or (under c.loop-place.tryings.entries op)) (sym (ap (trying_at op c.loop-place.place) w.in-Try.is))))
  | in_default w ↦
      rw w.tryings-is (firsts-same trying_at c.args.points.now c.loop-place.place c.index-points-place.result c.loop-place.tryings.entries c.loop-place-test.true c.index-points-place.is c.loop-place.invariant (λ op. trying-none c.index-points-place.result w.in_default.not-Try op c.loop-place.place))
]
