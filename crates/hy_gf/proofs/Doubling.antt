-- The product of x and an element.
use Rattle.std.proofs.Common.{◌≡◌, ℕ, ◌+◌, ◌-◌, ◌*◌, ◌/◌, ◌^◌, ◌<◌, ◌≤◌, Bool, true, cond, eqb, ltb, refl, sym, ap, ◌∙◌, arith, lit<}
use Rattle.std.specs.Int.Bits.{bit_xor, xor_disjoint}
use lib.Bits.{bit_and}
use Rattle.std.proofs.lemmas.Nat.{and_mask, shr-shr, shr_le}
use Rattle.std.proofs.lemmas.Bool.{eqb-true, lt-ltb, le-ltb, cond-true, cond-false}
use Rattle.hy_gf.specs.Gf.{gf_product, polynomial_product, remainder}
use Rattle.hy_gf.specs.GfLaws.{all_below, at_below, product-assoc, product-comm, product-sum_left, one-product}

abbrev is_doubled : ℕ → Bool
is_doubled b = eqb (cond (ltb b 128) (2 * b) (bit_xor (2 * (b - 128)) 29)) (gf_product 2 b)

all_are_doubled : all_below 256 is_doubled ≡ true
unfolding gf_product polynomial_product remainder
all_are_doubled = refl

doubled : (b : ℕ) → b < 256 → cond (ltb b 128) (2 * b) (bit_xor (2 * (b - 128)) 29) ≡ gf_product 2 b
doubled b p = eqb-true _ _ (at_below 256 is_doubled all_are_doubled b p)

pub doubled_low : (b : ℕ) → b < 128 → 2 * b ≡ gf_product 2 b
doubled_low b low = sym (cond-true (ltb b 128) _ _ (lt-ltb b 128 low)) ∙ doubled b (omega arith)

pub doubled_high : (b : ℕ) → 128 ≤ b → b < 256 → bit_xor (2 * (b - 128)) 29 ≡ gf_product 2 b
doubled_high b high p = sym (cond-false (ltb b 128) _ _ (le-ltb b 128 high)) ∙ doubled b p

-- ---- one more bit of a factor

product-even : (q s : ℕ) → q < 128 → s < 256 → gf_product 2 (gf_product q s) ≡ gf_product (2 * q) s
product-even q s low p =
    sym (ap (λ x. gf_product x s) (doubled_low q low) ∙ product-assoc 2 q s (lit< tt) (omega arith) p)

odd : (q : ℕ) → bit_xor (2 * q) 1 ≡ 2 * q + 1
odd q = xor_disjoint (2 * q) 1 (and_mask (2 * q) 1 ∙ omega arith)

product-odd : (q s : ℕ) → q < 128 → s < 256 → bit_xor (gf_product 2 (gf_product q s)) s ≡ gf_product (2 * q + 1) s
product-odd q s low p =
    sym (ap (λ x. gf_product x s) (sym (odd q))
    ∙ product-sum_left (2 * q) 1 s
    ∙ ap (λ x. bit_xor x (gf_product 1 s)) (sym (product-even q s low p))
    ∙ ap (bit_xor (gf_product 2 (gf_product q s))) (one-product s p))

half : (n i : ℕ) → 0 < i → n / 2 ^ i ≡ n / 2 ^ (i - 1) / 2
half n i positive = sym (shr-shr n (i - 1) 1 ∙ ap (λ k. n / 2 ^ k) (omega arith))

-- the product with the bits of `n` from `i` on, one bit lower: it is doubled, and the other factor is added where the bit is set
module _ (n i s product : ℕ) (positive : 0 < i) (small : n < 256) (p : s < 256) (so_far : product ≡ gf_product (n / 2 ^ i) s) where
  bound : n / 2 ^ (i - 1) < 256
  bound = omega (arith, shr_le n (i - 1))

  pub bit_clear : (bit_and (n / 2 ^ (i - 1)) 1 ≡ 1 → ⊥) → gf_product 2 product ≡ gf_product (n / 2 ^ (i - 1)) s
  bit_clear clear =
      let bit = and_mask (n / 2 ^ (i - 1)) 1 in
      ap (gf_product 2) (so_far ∙ ap (λ x. gf_product x s) (half n i positive))
      ∙ product-even (n / 2 ^ (i - 1) / 2) s (omega (arith, bound)) p
      ∙ ap (λ x. gf_product x s) (omega (arith, bit, clear))

  pub bit_set : bit_and (n / 2 ^ (i - 1)) 1 ≡ 1 → bit_xor (gf_product 2 product) s ≡ gf_product (n / 2 ^ (i - 1)) s
  bit_set is_set =
      let bit = and_mask (n / 2 ^ (i - 1)) 1 in
      ap (λ x. bit_xor (gf_product 2 x) s) (so_far ∙ ap (λ x. gf_product x s) (half n i positive))
      ∙ product-odd (n / 2 ^ (i - 1) / 2) s (omega (arith, bound)) p
      ∙ ap (λ x. gf_product x s) (omega (arith, bit, is_set))

-- the product with all bits of `n`
pub bits_all : (n i s : ℕ) → i ≤ 0 → n < 256 → s < 256 → gf_product (n / 2 ^ i) s ≡ gf_product s n
bits_all n i s last small p =
    ap (λ k. gf_product (n / 2 ^ k) s) (zero_of i last) ∙ ap (λ x. gf_product x s) (omega arith) ∙ product-comm n s small p
  where
    zero_of : (k : ℕ) → k ≤ 0 → k ≡ 0
    zero_of k h = omega arith
