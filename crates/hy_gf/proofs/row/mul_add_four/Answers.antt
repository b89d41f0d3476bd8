use Rattle.std.proofs.Common.{get_or}
use Rattle.hy_gf.specs.Gf.{gf_sum, gf_product}
use Rattle.hy_gf.proofs.Added.{four_added}
use Rattle.hy_gf.proofs.row.mul_add_four.Goals as goal

pub returns : goal.returns
returns c =
    four_added c.args.a.now.factor c.args.b.now.factor c.args.c.now.factor c.args.d.now.factor
    c.args.a.now.row.now c.args.b.now.row.now c.args.c.now.row.now c.args.d.now.row.now c.args.out.now
    c.requires.a c.requires.b c.requires.c c.requires.d _ c.add_terms.new.out
    (λ place i.
    gf_sum
    (gf_sum (gf_product (c.looked.ensures.factor i) (get_or (c.looked.ensures.row i) place 0)) (gf_product (c.looked-2.ensures.factor i) (get_or (c.looked-2.ensures.row i) place 0)))
    (gf_sum (gf_product (c.looked-3.ensures.factor i) (get_or (c.looked-3.ensures.row i) place 0)) (gf_product (c.looked-4.ensures.factor i) (get_or (c.looked-4.ensures.row i) place 0))))
    c.add_terms.ensures
