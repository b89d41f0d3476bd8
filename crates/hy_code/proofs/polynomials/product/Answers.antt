use Rattle.hy_code.proofs.Points.{product_is}
use Rattle.hy_code.proofs.polynomials.product.Goals as goal

pub returns-clause-factor : goal.returns-clause-factor
returns-clause-factor c =
    product_is c.args.picks.now c.args.scales.now c.args.i c.args.cloud c.raised-raised.result c.index-scales-i.result c.times-factor.result c.index-picks-i.result
    c.requires.points c.requires.within c.ranges.cloud.fits c.index-picks-i.is c.raised-raised.ensures c.index-scales-i.is c.times-factor.ensures.product
