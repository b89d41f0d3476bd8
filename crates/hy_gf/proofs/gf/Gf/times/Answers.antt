use Rattle.std.proofs.Common.{ℕ, subst, ◌<◌, ◌∙◌, sym, ap, rules, arith}
use Rattle.hy_gf.specs.Gf.{IsRemainder, gf_product, polynomial_product}
use Rattle.hy_gf.specs.GfLaws.{product_is_remainder, zero-product}
use Rattle.hy_gf.proofs.Doubling.{bit_clear, bit_set, bits_all}
use Rattle.hy_gf.proofs.gf.Gf.times.Goals as goal

pub loop-power-init : goal.loop-power-init
loop-power-init c =
    let small : c.other.inside.0 < 256 = search rules in
    sym (ap (λ x. gf_product x c.self.inside.0) (omega arith) ∙ zero-product c.self.inside.0)

pub loop-power-preserved-then-other-power-eq1 : goal.loop-power-preserved-then-other-power-eq1
loop-power-preserved-then-other-power-eq1 c =
    rw c.doubled-product.ensures
    (bit_set c.other.inside.0 c.loop-power.power c.self.inside.0 c.loop-power.product c.loop-power-test.true
    (search rules) (search rules) c.loop-power.invariant c.if-other-power-eq1.true)

pub loop-power-preserved : goal.loop-power-preserved
loop-power-preserved c =
    c.doubled-product.ensures
    ∙ bit_clear c.other.inside.0 c.loop-power.power c.self.inside.0 c.loop-power.product c.loop-power-test.true
    (search rules) (search rules) c.loop-power.invariant c.if-other-power-eq1.false

pub returns-clause-product : goal.returns-clause-product
returns-clause-product c =
    let p : c.self.inside.0 < 256 = search rules in
    let small : c.other.inside.0 < 256 = search rules in
    c.loop-power.invariant
    ∙ bits_all c.other.inside.0 c.loop-power.power c.self.inside.0 c.loop-power-test.false small p
    ∙ ap (gf_product c.self.inside.0) c.other.view_is
    ∙ ap (λ x. gf_product x c.args.other) c.self.view_is

pub returns-clause-remainder : goal.returns-clause-remainder
returns-clause-remainder c =
    let R : ℕ → Type 0 = IsRemainder (polynomial_product 8 c.args.self c.args.other) in
    subst R (sym (returns-clause-product c)) (product_is_remainder c.args.self c.args.other (search rules) (search rules))
