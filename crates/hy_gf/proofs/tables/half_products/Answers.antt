use Rattle.std.proofs.Common.{rules}
use Rattle.hy_gf.proofs.Halves.{all_sums}
use Rattle.hy_gf.proofs.tables.half_products.Goals as goal

pub returns : goal.returns
returns c =
    all_sums c.args.factor c.byte-one.result c.doubled-two.result c.doubled-four.result c.doubled-eight.result
    (search rules) c.byte-one.ensures c.doubled-two.ensures c.doubled-four.ensures c.doubled-eight.ensures
