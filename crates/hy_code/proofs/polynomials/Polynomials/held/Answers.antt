use Rattle.std.proofs.Common.{◌∙◌, ap, sym, subst, List}
use Rattle.hy_code.specs.Fragments.{row_at}
use Rattle.hy_code.specs.declared.pick.Pick.{Pick}
use Rattle.hy_code.proofs.Points.{held_row}
use Rattle.hy_code.proofs.Refusals.{AreSized, AreSized-all}
use Rattle.hy_code.proofs.polynomials.Polynomials.held.Goals as goal

pub returns-then-pick-cloud : goal.returns-then-pick-cloud
returns-then-pick-cloud c =
    let picks = c.self.inside.picks.now in
    let points = c.self.invariant in
    let S : List Pick → Type 0 = AreSized c.args.size in
    let sized : S picks = subst S (sym c.self.view_is) (AreSized-all c.args.size c.args.self.now c.requires) in
    c.bytes.ensures
    ∙ sym (held_row c.args.size picks c.loop-pick.pick-index c.pick-item.result c.loop-pick-test.true c.pick-item.is sized points.in_range points.different)
    ∙ ap (row_at c.args.size picks) c.if-pick-cloud.true
    ∙ ap (λ p. row_at c.args.size p c.args.cloud) c.self.view_is
