use Rattle.std.proofs.Common.{◌≡◌, ◌++◌, ◌∷◌, [], unwrap_or, ap, ◌∙◌, arith}
use Rattle.hy_points.specs.Marks.{marks_under}
use Rattle.hy_points.proofs.Marking.{marks_under-added, marks-of-none}
use Rattle.hy_points.proofs.ordering.add_mark.Goals as goal

pub returns : goal.returns
returns c = λ k.
    let more : c.push.new.self.items ≡ marks_under c.args.groups.now.entries c.args.key ++ c.args.mark ∷ [] =
    c.in_ok-push.ensures.items
    ∙ ap (λ marks. marks ++ c.args.mark ∷ []) (marks-of-none c.args.groups.now.entries c.args.key c.new.result c.or_insert-marks.result.now c.new.ensures.items
    (c.or_insert-marks.ensures.value ∙ ap (λ found. unwrap_or found c.new.result) c.in_ok-groups.ensures.value)) in
    let update = ((c.in_ok-groups.ensures.update).0 c.push.new.self).0 k in
    marks_under-added c.args.groups.now.entries _ c.args.key c.args.mark c.push.new.self k (grind (arith, update)) more
