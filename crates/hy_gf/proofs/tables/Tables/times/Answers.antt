use Rattle.std.proofs.Common.{rules, ◌∙◌, ap}
use Rattle.hy_gf.specs.Gf.{gf_product}
use Rattle.hy_gf.proofs.Halves.{looked_up}
use Rattle.hy_gf.proofs.tables.Tables.times.Goals as goal

pub returns : goal.returns
returns c =
    looked_up c.self.inside.factor c.args.byte c.self.inside.low c.self.inside.high c.self.invariant c.ranges.byte.fits
    ∙ ap (λ factor. gf_product factor c.args.byte) c.self.view_is
