use Rattle.std.proofs.Common.{◌≡◌, ◌∙◌, ap, rules, arith, refl, add-one, ℕ, ◌+◌, ◌≤◌}
use Rattle.hy_gf.specs.Gf.{gf_product}
use Rattle.hy_gf.specs.GfLaws.{square, squares, squares-inverse, squares-below}
use Rattle.hy_gf.proofs.gf.Gf.inverse.Goals as goal

more : (i a s p s' p' : ℕ) → s ≡ square i a → p ≡ squares i a → s' ≡ gf_product s s → p' ≡ gf_product p s' → (s' ≡ square (i + 1) a) × (p' ≡ squares (i + 1) a)
more i a s p s' p' square_is product_is next next_product =
    let next_square : s' ≡ square (i + 1) a = next ∙ ap (λ x. gf_product x x) square_is ∙ rw add-one refl in
    (next_square, next_product ∙ ap (λ x. gf_product x s') product_is ∙ ap (gf_product (squares i a)) next_square ∙ rw add-one refl)

pub loop-doubling-init : goal.loop-doubling-init
loop-doubling-init c = (refl, refl)

pub loop-doubling-preserved : goal.loop-doubling-preserved
loop-doubling-preserved c =
    more c.loop-doubling._doubling c.args.self c.loop-doubling.square c.loop-doubling.inverse c.times-square.result c.times-inverse.result
    c.loop-doubling.invariant.0 c.loop-doubling.invariant.1 c.times-square.ensures.product c.times-inverse.ensures.product

pub returns-clause-inverse : goal.returns-clause-inverse
returns-clause-inverse c =
    c.loop-doubling.invariant.1
    ∙ ap (λ i. squares i c.args.self) (rounds c.loop-doubling._doubling c.loop-doubling.auto._doubling-end c.loop-doubling-test.false)
    ∙ squares-inverse c.args.self (search rules) c.requires
  where
    rounds : (i : ℕ) → i ≤ 7 → 7 ≤ i → i ≡ 7
    rounds i low high = omega arith

pub returns-clause-element : goal.returns-clause-element
returns-clause-element c =
    rw c.loop-doubling.invariant.1 (squares-below c.loop-doubling._doubling c.args.self (search rules))
