-- Products with the halves of a byte.
use Rattle.std.proofs.Common.{◌≡◌, ℕ, ◌+◌, ◌*◌, ◌/◌, ◌%◌, ◌<◌, List, [], ◌∷◌, Bool, true, eqb, get_or, refl, sym, ap, ◌∙◌, arith, lit<}
use Rattle.std.specs.Int.Bits.{bit_xor}
use Rattle.std.proofs.lemmas.Bool.{eqb-true}
use Rattle.std.proofs.lemmas.List.FromFn.{get_or-map-range_with_len}
use Rattle.hy_gf.specs.Gf.{gf_product, polynomial_product, remainder}
use Rattle.hy_gf.specs.GfLaws.{all_below, at_below, product-assoc, product-comm, product-one, product-sum_right, zero-product}
use Rattle.hy_gf.specs.Tables.{half_products, AreTables}
use Rattle.hy_gf.proofs.Doubling.{doubled_low}

-- ---- the table of a factor

doubles : (f n : ℕ) → f < 256 → n < 128 → gf_product 2 (gf_product f n) ≡ gf_product f (2 * n)
doubles f n p low =
    ap (gf_product 2) (product-comm f n p (omega arith))
    ∙ sym (product-assoc 2 n f (lit< tt) (omega arith) p)
    ∙ ap (λ x. gf_product x f) (sym (doubled_low n low))
    ∙ product-comm (2 * n) f (omega arith) p

adds : (f i j a b : ℕ) → a ≡ gf_product f i → b ≡ gf_product f j → bit_xor a b ≡ gf_product f (bit_xor i j)
adds f i j a b e g = ap (λ x. bit_xor x b) e ∙ ap (bit_xor (gf_product f i)) g ∙ sym (product-sum_right f i j)

-- sums of the products with 1, 2, 4 and 8
module _ (f one two four eight : ℕ) (p : f < 256) (is_one : one ≡ f) (is_two : two ≡ gf_product 2 one) (is_four : four ≡ gf_product 2 two) (is_eight : eight ≡ gf_product 2 four) where
  at_1 : one ≡ gf_product f 1
  at_1 = is_one ∙ sym (product-one f p)

  at_2 : two ≡ gf_product f 2
  at_2 = is_two ∙ ap (gf_product 2) at_1 ∙ doubles f 1 p (lit< tt)

  at_4 : four ≡ gf_product f 4
  at_4 = is_four ∙ ap (gf_product 2) at_2 ∙ doubles f 2 p (lit< tt)

  at_8 : eight ≡ gf_product f 8
  at_8 = is_eight ∙ ap (gf_product 2) at_4 ∙ doubles f 4 p (lit< tt)

  at_0 : 0 ≡ gf_product f 0
  at_0 = sym (product-comm f 0 p (lit< tt) ∙ zero-product f)

  at_3 : bit_xor one two ≡ gf_product f 3
  at_3 = adds f 1 2 one two at_1 at_2

  at_12 : bit_xor four eight ≡ gf_product f 12
  at_12 = adds f 4 8 four eight at_4 at_8

  pub all_sums : ◌≡◌ {A = List ℕ} (
      0 ∷ one ∷ two ∷ bit_xor one two
      ∷ four ∷ bit_xor four one ∷ bit_xor four two ∷ bit_xor four (bit_xor one two)
      ∷ eight ∷ bit_xor eight one ∷ bit_xor eight two ∷ bit_xor eight (bit_xor one two)
      ∷ bit_xor four eight ∷ bit_xor (bit_xor four eight) one ∷ bit_xor (bit_xor four eight) two ∷ bit_xor (bit_xor four eight) (bit_xor one two) ∷ []
      ) (half_products f)
  all_sums = λ i.
      at_0 i ∷ at_1 i ∷ at_2 i ∷ at_3 i
      ∷ at_4 i ∷ adds f 4 1 four one at_4 at_1 i ∷ adds f 4 2 four two at_4 at_2 i ∷ adds f 4 3 four (bit_xor one two) at_4 at_3 i
      ∷ at_8 i ∷ adds f 8 1 eight one at_8 at_1 i ∷ adds f 8 2 eight two at_8 at_2 i ∷ adds f 8 3 eight (bit_xor one two) at_8 at_3 i
      ∷ at_12 i ∷ adds f 12 1 (bit_xor four eight) one at_12 at_1 i ∷ adds f 12 2 (bit_xor four eight) two at_12 at_2 i ∷ adds f 12 3 (bit_xor four eight) (bit_xor one two) at_12 at_3 i ∷ []

-- ---- a byte from its halves

abbrev is_shifted : ℕ → Bool
is_shifted i = eqb (gf_product 16 i) (16 * i)

all_are_shifted : all_below 16 is_shifted ≡ true
unfolding gf_product polynomial_product remainder
all_are_shifted = refl

abbrev is_whole : ℕ → Bool
is_whole byte = eqb (bit_xor (byte % 16) (16 * (byte / 16))) byte

all_are_whole : all_below 256 is_whole ≡ true
all_are_whole = refl

pub upper : (f i : ℕ) → f < 256 → i < 16 → gf_product (gf_product f 16) i ≡ gf_product f (16 * i)
upper f i p small =
    product-assoc f 16 i p (lit< tt) (omega arith)
    ∙ ap (gf_product f) (eqb-true (gf_product 16 i) (16 * i) (at_below 16 is_shifted all_are_shifted i small))

pub halves : (f byte : ℕ) → f < 256 → byte < 256 → bit_xor (gf_product f (byte % 16)) (gf_product (gf_product f 16) (byte / 16)) ≡ gf_product f byte
halves f byte p small =
    ap (bit_xor (gf_product f (byte % 16))) (upper f (byte / 16) p (omega arith))
    ∙ sym (product-sum_right f (byte % 16) (16 * (byte / 16)))
    ∙ ap (gf_product f) (eqb-true (bit_xor (byte % 16) (16 * (byte / 16))) byte (at_below 256 is_whole all_are_whole byte small))

pub at_half : (f i : ℕ) → i < 16 → get_or (half_products f) i 0 ≡ gf_product f i
at_half f i small = get_or-map-range_with_len (gf_product f) 0 16 i i 0 small (omega arith)

-- what the tables give for a byte
pub looked_up : (f byte : ℕ) (low high : List ℕ) → AreTables f low high → byte < 256 → bit_xor (get_or low (byte % 16) 0) (get_or high (byte / 16) 0) ≡ gf_product f byte
looked_up f byte low high tables small =
    ap (λ t. bit_xor (get_or t (byte % 16) 0) (get_or high (byte / 16) 0)) tables.lower
    ∙ ap (λ t. bit_xor (get_or (half_products f) (byte % 16) 0) (get_or t (byte / 16) 0)) tables.upper
    ∙ ap (λ x. bit_xor x (get_or (half_products (gf_product f 16)) (byte / 16) 0)) (at_half f (byte % 16) (omega arith))
    ∙ ap (bit_xor (gf_product f (byte % 16))) (at_half (gf_product f 16) (byte / 16) (omega arith))
    ∙ halves f byte tables.element small
