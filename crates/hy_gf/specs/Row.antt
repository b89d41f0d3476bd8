-- Rows of bytes, as vectors over the field of 256 elements.
use Rattle.std.specs.Prelude.{◌≡◌, ◌<◌, ◌≤◌, ℕ, List, [], ◌∷◌, length, slice_index}
use Rattle.hy_gf.specs.Gf.{gf_sum, gf_product}

-- to each byte of `out`, the factor times the row's byte is added
abbrev pub row_sum : ℕ → List ℕ → List ℕ → List ℕ
row_sum factor [] out = out
row_sum factor (x ∷ row) [] = []
row_sum factor (x ∷ row) (y ∷ out) = gf_sum y (gf_product factor x) ∷ row_sum factor row out

-- to each of the first `count` bytes its term is added, and the others are as before
pub record IsAdded (term : ℕ → ℕ) (count : ℕ) (before after : List ℕ) : Type 0 where
  pub length_same : length after ≡ length before
  pub added : (place : ℕ) → place < count → slice_index after place ≡ gf_sum (slice_index before place) (term place)
  pub others : (place : ℕ) → count ≤ place → slice_index after place ≡ slice_index before place
