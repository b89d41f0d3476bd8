-- The field of 256 elements: bit polynomials modulo x^8 + x^4 + x^3 + x^2 + 1.
-- A number stands for the polynomial over bits whose coefficient of x^i is the number's bit i.
use Rattle.std.specs.Prelude.{◌≡◌, ℕ, zero, suc, ◌+◌, ◌*◌, ◌^◌, ◌<◌, ◌==◌, bit_xor, find, unwrap_or}
use Rattle.std.specs.Int.{bit_at}
use Rattle.std.specs.List.{range_with_len}
use Rattle.hy_gf.specs.Field.{Operations}

-- an element is a polynomial of degree below 8, which is a byte
abbrev pub IsElement : ℕ → Type 0
IsElement a = a < 256

-- the sum adds the coefficients of each power of x, without carry
abbrev pub gf_sum : ℕ → ℕ → ℕ
gf_sum a b = bit_xor a b

-- the product of `a`, of degree below `terms`, and `b`: the sum of b * x^i over the terms x^i of `a`
unfoldable pub polynomial_product : ℕ → ℕ → ℕ → ℕ
polynomial_product zero a b = 0
polynomial_product (suc i) a b = bit_xor (polynomial_product i a b) (bit_at a i * (b * 2 ^ i))

-- x^8 + x^4 + x^3 + x^2 + 1
abbrev pub modulus : ℕ
modulus = 0x11D

-- what division by the modulus leaves of `p`, of degree below 8 + `steps`: while the power x^(8 + i) is there,
-- the modulus times x^i is taken away
unfoldable pub remainder : ℕ → ℕ → ℕ
remainder zero p = p
remainder (suc i) p = remainder i (bit_xor p (bit_at p (8 + i) * (modulus * 2 ^ i)))

-- division by the modulus leaves `rest` of `p`: an element that differs from `p` by a multiple of the modulus
pub record IsRemainder (p rest : ℕ) : Type 0 where
  pub element : IsElement rest
  pub multiple : (q : ℕ) × (p ≡ gf_sum (polynomial_product 7 q modulus) rest)

-- the product of two elements: what the modulus leaves of the product of the polynomials
unfoldable pub gf_product : ℕ → ℕ → ℕ
gf_product a b = remainder 7 (polynomial_product 8 a b)

-- the element whose product with `a` is 1
unfoldable pub gf_inverse : ℕ → ℕ
gf_inverse a = unwrap_or (find (λ b. gf_product a b == 1) (range_with_len 0 256)) 0

-- what is computed in the field of 256 elements
abbrev pub gf : Operations ℕ
gf = record {
  zero = 0;
  one = 1;
  sum = gf_sum;
  product = gf_product;
  inverse = gf_inverse;
}
