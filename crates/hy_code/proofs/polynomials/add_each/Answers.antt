use Rattle.std.proofs.Common.{◌∙◌, ap, length, arith}
use Rattle.std.proofs.lemmas.List.{take_all}
use Rattle.hy_code.proofs.Points.{sized_row}
use Rattle.hy_code.proofs.Refusals.{AreSized-all}
use Rattle.hy_code.proofs.Rows.{rows_sum, rows_sum-next, rows_sum-all}
use Rattle.hy_code.proofs.polynomials.add_each.Goals as goal

pub mul_add-requires : goal.mul_add-requires
mul_add-requires c =
    let size = length c.args.out.now in
    let sized = AreSized-all size c.args.picks.now c.requires.sizes in
    omega (arith, sized_row size c.args.picks.now c.loop-i.i c.product-product.result.row.now sized c.loop-i-test.true c.product-product.ensures.row, c.loop-i.auto.out)

pub loop-i-preserved : goal.loop-i-preserved
loop-i-preserved c =
    c.mul_add.ensures
    ∙ rows_sum-next (length c.args.out.now) c.args.picks.now c.args.cloud c.loop-i.i c.product-product.result.factor c.product-product.result.row.now c.loop-i.out
    c.loop-i-test.true c.product-product.ensures.row c.product-product.ensures.factor c.loop-i.invariant

pub returns : goal.returns
returns c =
    let size = length c.args.out.now in
    c.loop-i.invariant
    ∙ ap (rows_sum size c.args.picks.now c.args.cloud) (take_all c.loop-i.i c.args.picks.now c.loop-i-test.false)
    ∙ rows_sum-all size c.args.picks.now c.args.cloud c.ranges.cloud.fits (AreSized-all size c.args.picks.now c.requires.sizes)
    c.requires.points.in_range c.requires.points.different
