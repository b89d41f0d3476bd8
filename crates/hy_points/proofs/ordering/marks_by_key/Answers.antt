use Rattle.std.proofs.Common.{◌≡◌, ◌<◌, ◌≤◌, List, length, get_or, ◌∙◌, sym, ap, subst, arith}
use Rattle.std.specs.List.{filter_map}
use Rattle.std.proofs.lemmas.List.{take_all}
use Rattle.hy_points.specs.declared.point.Point.{Point}
use Rattle.hy_points.specs.Marks.{marks_of, point_mark}
use Rattle.hy_points.proofs.Marking.{grouped-more, grouped-same}
use Rattle.hy_points.proofs.ordering.marks_by_key.Goals as goal
use Rattle.hy_points.proofs.ordering.marks_by_key.Goals.{in-Some+in_ok-add_mark, in_default}

pub loop-point-preserved : goal.loop-point-preserved
loop-point-preserved c =
    let within : c.loop-point.point-index < length c.args.index.now = subst (λ (xs : List Point). c.loop-point.point-index < length xs) c.points-point-items.ensures c.loop-point-test.true in
    let is : c.point-item.result ≡ get_or c.args.index.now c.loop-point.point-index c.point-item.result
    = subst (λ (xs : List Point). c.point-item.result ≡ get_or xs c.loop-point.point-index c.point-item.result) c.points-point-items.ensures c.point-item.is in
    elim c.match-own_mark.branch [
      | in-Some+in_ok-add_mark w ↦
          rw w.groups-is (grouped-more c.args.index.now c.loop-point.point-index c.point-item.result within is _ c.loop-point.groups.entries w.add_mark.new.groups.entries
          (sym w.in-Some.ensures) c.loop-point.invariant w.in_ok-add_mark.ensures)
      | in_default w ↦
          rw w.groups-is (grouped-same c.args.index.now c.loop-point.point-index c.point-item.result within is c.loop-point.groups.entries (sym w.in_default.ensures) c.loop-point.invariant)
    ]

pub returns : goal.returns
unfolding marks_of
returns c = λ key.
    let past : length c.args.index.now ≤ c.loop-point.point-index = omega (arith, ap (λ (xs : List Point). length xs) c.points-point-items.ensures) in
    c.loop-point.invariant key ∙ ap (filter_map (point_mark c.args.index.now key)) (take_all c.loop-point.point-index c.args.index.now past)
