-- Sums of rows, place by place.
use Rattle.std.proofs.Common.{◌≡◌, ℕ, zero, suc, ◌<◌, List, [], ◌∷◌, length, get_or, refl, ap, arith}
use Rattle.hy_gf.specs.Gf.{gf_sum, gf_product}
use Rattle.hy_gf.specs.Row.{row_sum}

pub length-row_sum : (factor : ℕ) (row out : List ℕ) → length (row_sum factor row out) ≡ length out
length-row_sum factor [] out = refl
length-row_sum factor (x ∷ row) [] = refl
length-row_sum factor (x ∷ row) (y ∷ out) = ap suc (length-row_sum factor row out)

pub get_or-row_sum : (factor place : ℕ) (row out : List ℕ) → place < length out → length row ≡ length out → get_or (row_sum factor row out) place 0 ≡ gf_sum (get_or out place 0) (gf_product factor (get_or row place 0))
get_or-row_sum factor place [] [] within e = absurd (omega arith)
get_or-row_sum factor place [] (y ∷ out) within e = absurd (omega arith)
get_or-row_sum factor place (x ∷ row) [] within e = absurd (omega arith)
get_or-row_sum factor zero (x ∷ row) (y ∷ out) within e = refl
get_or-row_sum factor (suc place) (x ∷ row) (y ∷ out) within e = get_or-row_sum factor place row out (omega arith) (omega arith)
