use Rattle.std.proofs.Common.{◌∙◌, sym, ap}
use Rattle.std.specs.Option.{option_or}
use Rattle.hy_points.specs.Lookups.{setting_at}
use Rattle.hy_points.specs.Index.{under}
use Rattle.hy_points.proofs.Tellings.{firsts-more, firsts-same, setting-none}
use Rattle.hy_points.proofs.firsts.settings_of.Goals as goal
use Rattle.hy_points.proofs.firsts.settings_of.Goals.{in-Set+in_ok-keep_first, in_default}

pub loop-place-preserved : goal.loop-place-preserved
loop-place-preserved c = elim c.match-point.branch [
  | in-Set+in_ok-keep_first w ↦
      firsts-more setting_at c.args.points.now c.loop-place.place c.index-points-place.result c.loop-place.settings.entries c.match-point.settings.entries c.loop-place-test.true c.index-points-place.is c.loop-place.invariant
      (λ op. rw w.settings-is (w.in_ok-keep_first.ensures op ∙ ap (option_or (under c.loop-place.settings.entries op)) (sym (ap (setting_at op c.loop-place.place) w.in-Set.is))))
  | in_default w ↦
      rw w.settings-is (firsts-same setting_at c.args.points.now c.loop-place.place c.index-points-place.result c.loop-place.settings.entries c.loop-place-test.true c.index-points-place.is c.loop-place.invariant (λ op. setting-none c.index-points-place.result w.in_default.not-Set op c.loop-place.place))
]
