use Rattle.std.proofs.Common.{◌≡◌, ℕ, ap, sym, ◌∙◌, refl, get_or}
use Rattle.hy_gf.specs.Gf.{gf_product}
use Rattle.hy_gf.specs.GfLaws.{one-product}
use Rattle.hy_gf.specs.Row.{row_sum}
use Rattle.hy_gf.proofs.Added.{row_added}
use Rattle.hy_gf.proofs.RowLemmas.{row_sum-zero}
use Rattle.hy_gf.proofs.row.mul_add.Goals as goal

pub returns-in-0 : goal.returns-in-0
returns-in-0 c =
    let none : 0 ≡ c.args.factor = sym c.in-0.is ∙ c.byte.ensures in
    sym (row_sum-zero c.args.row.now c.args.out.now) ∙ ap (λ factor. row_sum factor c.args.row.now c.args.out.now) none

pub returns-in-1 : goal.returns-in-1
returns-in-1 c =
    let one : 1 ≡ c.args.factor = sym c.in-1.is ∙ c.byte.ensures in
    row_added (λ place. get_or c.args.row.now place 0) 1 c.args.row.now c.args.out.now c.add_terms.new.out c.requires
    (λ place within. sym (one-product (get_or c.args.row.now place 0) (c.type_inv.row place).fits)) c.add_terms.ensures
    ∙ ap (λ factor. row_sum factor c.args.row.now c.args.out.now) one

pub returns-in_default : goal.returns-in_default
returns-in_default c =
    row_added (λ place. gf_product c.of-tables.result (get_or c.args.row.now place 0)) c.args.factor c.args.row.now c.args.out.now c.add_terms-in_default.new.out c.requires
    (λ place within. ap (λ factor. gf_product factor (get_or c.args.row.now place 0)) c.of-tables.ensures) c.add_terms-in_default.ensures
