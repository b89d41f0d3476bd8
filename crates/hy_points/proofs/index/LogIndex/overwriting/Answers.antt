use Rattle.std.proofs.Common.{◌≡◌, ◌∙◌, sym, ap, subst}
use Rattle.hy_points.specs.Index.{AreRising, peaks_under}
use Rattle.hy_points.proofs.Raising.{items_in}
use Rattle.hy_points.proofs.index.LogIndex.overwriting.Goals as goal

pub first_above-requires : goal.first_above-requires
first_above-requires c =
    let e : peaks_under c.self.inside.peaks.entries c.args.key.now ≡ c.deref.result.now = ap items_in (sym c.in-Some.ensures.value) ∙ sym c.deref.ensures.value in
    subst AreRising e (c.self.invariant.raises.rising c.args.key.now)
