use Rattle.std.proofs.Common.{◌∙◌, length, arith}
use Rattle.hy_code.proofs.Points.{sized_row, four_rows}
use Rattle.hy_code.proofs.Refusals.{AreSized-all}
use Rattle.hy_code.proofs.polynomials.add_four.Goals as goal

pub mul_add_four-requires-clause-a : goal.mul_add_four-requires-clause-a
mul_add_four-requires-clause-a c =
    sized_row (length c.args.out.now) c.args.picks.now 0 c.product-first.result.row.now (AreSized-all _ c.args.picks.now c.requires.sizes) (omega arith) c.product-first.ensures.row

pub mul_add_four-requires-clause-b : goal.mul_add_four-requires-clause-b
mul_add_four-requires-clause-b c =
    sized_row (length c.args.out.now) c.args.picks.now 1 c.product-second.result.row.now (AreSized-all _ c.args.picks.now c.requires.sizes) (omega arith) c.product-second.ensures.row

pub mul_add_four-requires-clause-c : goal.mul_add_four-requires-clause-c
mul_add_four-requires-clause-c c =
    sized_row (length c.args.out.now) c.args.picks.now 2 c.product-third.result.row.now (AreSized-all _ c.args.picks.now c.requires.sizes) (omega arith) c.product-third.ensures.row

pub mul_add_four-requires-clause-d : goal.mul_add_four-requires-clause-d
mul_add_four-requires-clause-d c =
    sized_row (length c.args.out.now) c.args.picks.now 3 c.product-fourth.result.row.now (AreSized-all _ c.args.picks.now c.requires.sizes) (omega arith) c.product-fourth.ensures.row

pub returns : goal.returns
returns c =
    c.mul_add_four.ensures
    ∙ four_rows (length c.args.out.now) c.args.picks.now c.args.cloud
    c.product-first.result.factor c.product-second.result.factor c.product-third.result.factor c.product-fourth.result.factor
    c.product-first.result.row.now c.product-second.result.row.now c.product-third.result.row.now c.product-fourth.result.row.now c.args.out.now
    c.requires.four (AreSized-all _ c.args.picks.now c.requires.sizes) c.requires.points.in_range c.requires.points.different c.ranges.cloud.fits
    c.product-first.ensures.row c.product-second.ensures.row c.product-third.ensures.row c.product-fourth.ensures.row
    c.product-first.ensures.factor c.product-second.ensures.factor c.product-third.ensures.factor c.product-fourth.ensures.factor
    c.requires.zeros
