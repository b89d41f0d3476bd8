use Rattle.std.proofs.Common.{◌≡◌, unwrap_or, ap, ◌∙◌, arith}
use Rattle.hy_points.specs.Index.{peaks_under, raised}
use Rattle.hy_points.proofs.Raising.{peaks_under-added, peaks-of-none}
use Rattle.hy_points.proofs.index.add_peak.Goals as goal

pub returns : goal.returns
returns c = λ k.
    let more : c.raise.new.peaks.items ≡ raised (peaks_under c.args.peaks.now.entries c.args.key) c.args.place c.args.stamp =
    c.in_ok-raise.ensures
    ∙ ap (λ peaks. raised peaks c.args.place c.args.stamp) (peaks-of-none c.args.peaks.now.entries c.args.key c.new.result c.or_insert-of_key.result.now c.new.ensures.items
    (c.or_insert-of_key.ensures.value ∙ ap (λ found. unwrap_or found c.new.result) c.in_ok-peaks.ensures.value)) in
    let update = ((c.in_ok-peaks.ensures.update).0 c.raise.new.peaks).0 k in
    peaks_under-added c.args.peaks.now.entries _ c.args.key c.args.place c.args.stamp c.raise.new.peaks k (grind (arith, update)) more
