use Rattle.std.proofs.Common.{◌∙◌, ap, rules}
use Rattle.hy_gf.specs.Gf.{gf_product}
use Rattle.hy_gf.specs.GfLaws.{quotient-product}
use Rattle.hy_gf.proofs.gf.Gf.over.Goals as goal

pub returns-clause-undoes : goal.returns-clause-undoes
returns-clause-undoes c =
    ap (λ x. gf_product x c.args.other) (c.times.ensures.product ∙ ap (gf_product c.args.self) c.inverse.ensures.inverse)
    ∙ quotient-product c.args.self c.args.other (search rules) (search rules) c.requires
