-- Rows times 0.
use Rattle.std.proofs.Common.{◌≡◌, ℕ, List, [], ◌∷◌, refl, ap, ◌∙◌}
use Rattle.std.specs.Int.Bits.{bit_xor, xor_zero_r}
use Rattle.hy_gf.specs.Gf.{gf_sum}
use Rattle.hy_gf.specs.GfLaws.{zero-product}
use Rattle.hy_gf.specs.Row.{row_sum}

pub row_sum-zero : (row out : List ℕ) → row_sum 0 row out ≡ out
row_sum-zero [] out = refl
row_sum-zero (x ∷ row) [] = refl
row_sum-zero (x ∷ row) (y ∷ out) =
    ap (λ z. gf_sum y z ∷ row_sum 0 row out) (zero-product x)
    ∙ ap (λ z. z ∷ row_sum 0 row out) (xor_zero_r y)
    ∙ ap (λ rest. y ∷ rest) (row_sum-zero row out)
