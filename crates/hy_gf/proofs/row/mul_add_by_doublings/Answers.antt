use Rattle.std.proofs.Common.{get_or, refl}
use Rattle.hy_gf.specs.Gf.{gf_product}
use Rattle.hy_gf.proofs.Added.{row_added}
use Rattle.hy_gf.proofs.row.mul_add_by_doublings.Goals as goal

pub returns : goal.returns
returns c =
    row_added (λ place. gf_product c.args.factor (get_or c.args.row.now place 0)) c.args.factor c.args.row.now c.args.out.now c.add_terms.new.out c.requires
    (λ place within. refl) c.add_terms.ensures
