use Rattle.std.proofs.Common.{◌++◌, ◌∷◌, [], take, ◌∙◌, sym, ap}
use Rattle.std.specs.List.{cons_option, filter_map}
use Rattle.std.proofs.lemmas.List.{append-nil}
use Rattle.hy_points.specs.Marks.{point_mark}
use Rattle.hy_points.proofs.Marking.{filter_map-more}
use Rattle.hy_points.proofs.ordering.marks_of.Goals as goal
use Rattle.hy_points.proofs.ordering.marks_of.Goals.{in-Some+in_ok-push, in_default}

pub loop-point-preserved : goal.loop-point-preserved
loop-point-preserved c =
    let more = filter_map-more (point_mark c.args.index.now c.args.key.now) c.points-point-items.result.now c.loop-point.point-index c.point-item.result c.loop-point-test.true c.point-item.is in
    elim c.match-point_mark.branch [
      | in-Some+in_ok-push w ↦
          rw w.marks-is (w.in_ok-push.ensures.items ∙ ap (λ marks. marks ++ w.in-Some.mark ∷ []) c.loop-point.invariant
          ∙ sym (more ∙ ap (λ mark. filter_map (point_mark c.args.index.now c.args.key.now) (take c.loop-point.point-index c.points-point-items.result.now) ++ cons_option mark []) (sym w.in-Some.ensures)))
      | in_default w ↦
          rw w.marks-is (c.loop-point.invariant
          ∙ sym (more ∙ ap (λ mark. filter_map (point_mark c.args.index.now c.args.key.now) (take c.loop-point.point-index c.points-point-items.result.now) ++ cons_option mark []) (sym w.in_default.ensures)
          ∙ append-nil (filter_map (point_mark c.args.index.now c.args.key.now) (take c.loop-point.point-index c.points-point-items.result.now))))
    ]
