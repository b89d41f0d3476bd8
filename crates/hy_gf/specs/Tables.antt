-- The products of a factor with the halves of a byte.
use Rattle.std.specs.Prelude.{◌≡◌, ℕ, List, map}
use Rattle.std.specs.List.{range_with_len}
use Rattle.hy_gf.specs.Gf.{IsElement, gf_product}

-- the products with the elements below 16, which are the lower halves of bytes
abbrev pub half_products : ℕ → List ℕ
half_products factor = map (gf_product factor) (range_with_len 0 16)

-- the products with the lower halves of bytes, and with the upper ones
pub record AreTables (factor : ℕ) (low high : List ℕ) : Type 0 where
  pub element : IsElement factor
  pub lower : low ≡ half_products factor
  pub upper : high ≡ half_products (gf_product factor 16)
