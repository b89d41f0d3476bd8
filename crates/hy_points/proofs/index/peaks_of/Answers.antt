use Rattle.std.proofs.Common.{◌∙◌, sym, ap, length, ◌≤◌, arith}
use Rattle.std.proofs.lemmas.List.{take_all}
use Rattle.hy_points.specs.Lookups.{first_from}
use Rattle.hy_points.specs.Marks.{overwriting, overwriting_at}
use Rattle.hy_points.proofs.Raising.{raised-more, raised-same}
use Rattle.hy_points.proofs.index.peaks_of.Goals as goal
use Rattle.hy_points.proofs.index.peaks_of.Goals.{in-Some+in_ok-add_peak, in_default}

pub loop-place-preserved : goal.loop-place-preserved
loop-place-preserved c = elim c.match-applied_writing.branch [
  | in-Some+in_ok-add_peak w ↦
      rw w.peaks-is (raised-more c.args.points.now c.loop-place.place c.index-points-place.result c.args.keys.now.entries c.loop-place.peaks.entries w.add_peak.new.peaks.entries _
      c.loop-place-test.true c.index-points-place.is c.requires (sym w.in-Some.ensures) c.loop-place.invariant w.in_ok-add_peak.ensures)
  | in_default w ↦
      rw w.peaks-is (raised-same c.args.points.now c.loop-place.place c.index-points-place.result c.args.keys.now.entries c.loop-place.peaks.entries
      c.loop-place-test.true c.index-points-place.is c.requires (sym w.in_default.ensures) c.loop-place.invariant)
]

pub returns : goal.returns
unfolding overwriting
returns c = record {
  rising = c.loop-place.invariant.rising;
  first = λ key stamp.
      (let past : length c.args.points.now ≤ c.loop-place.place = omega arith in
      c.loop-place.invariant.first key stamp ∙ ap (first_from (overwriting_at c.args.points.now key stamp) 0) (take_all c.loop-place.place c.args.points.now past));
}
