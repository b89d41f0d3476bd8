-- Rows of picks, added up with their weights.
use Rattle.std.proofs.Common.{◌≡◌, ℕ, suc, ◌+◌, ◌<◌, List, [], ◌∷◌, ◌++◌, length, get_or, take, drop, replicate, map, eqb, refl, sym, ap, ◌∙◌, arith, subst}
use Rattle.std.specs.List.{fold, range_with_len}
use Rattle.std.specs.Int.Bits.{bit_xor, xor_assoc, xor_zero_l, xor_zero_r}
use Rattle.std.proofs.Math.ListN.{get_or-map}
use Rattle.std.proofs.lemmas.Grind.{same_number_lists}
use Rattle.std.proofs.lemmas.List.{get_or-replicate, length-replicate, take_more, take_all, drop_all, append-nil}
use Rattle.std.proofs.lemmas.List.Sums.{fold_more}
use Rattle.std.proofs.lemmas.List.FromFn.{get_or-map-range_with_len, length-map-range_with_len}
use Rattle.hy_gf.specs.Gf.{gf, gf_product, IsElement}
use Rattle.hy_gf.specs.Row.{row_sum}
use Rattle.hy_gf.specs.RowLaws.{length-row_sum, get_or-row_sum}
use Rattle.hy_code.proofs.Bytes.{value_at-weights}
use Rattle.hy_code.proofs.Refusals.{AreSized}
use Rattle.hy_code.specs.Fragments.{clouds, column, row_at}
use Rattle.hy_code.specs.Points.{AreInRange}
use Rattle.hy_code.specs.Polynomial.{AreElements, AreDifferent, value_at, polynomial_through}
use Rattle.hy_code.specs.Weights.{weight}
use Rattle.hy_code.proofs.Interpolation.{weighted_sum}
use Rattle.hy_code.specs.declared.pick.Pick.{Pick}

-- ---- clouds and bytes in range

in_range-push : (picks : List Pick) (pick : Pick) → AreInRange picks → pick.cloud < 256 → ((place : ℕ) → get_or pick.bytes place 0 < 256) → AreInRange (picks ++ pick ∷ [])
in_range-push [] pick all cloud bytes = (cloud, bytes, tt)
in_range-push (p ∷ picks) pick all cloud bytes = (all.0, all.1, in_range-push picks pick all.2 cloud bytes)

pub in_range-more : (picks : List Pick) (i : ℕ) (pick : Pick) → i < length picks → pick ≡ get_or picks i pick → AreInRange (take i picks) → pick.cloud < 256 → ((place : ℕ) → get_or pick.bytes place 0 < 256) → AreInRange (take (i + 1) picks)
in_range-more picks i pick within here all cloud bytes =
    let P : List Pick → Type 0 = AreInRange in
    subst P (ap (λ p. take i picks ++ p ∷ []) here ∙ sym (take_more picks i pick within)) (in_range-push (take i picks) pick all cloud bytes)

pub clouds-elements : (picks : List Pick) → AreInRange picks → AreElements IsElement (clouds picks)
clouds-elements [] all = tt
clouds-elements (pick ∷ picks) all = (all.0, clouds-elements picks all.2)

pub column-elements : (picks : List Pick) (place : ℕ) → AreInRange picks → AreElements IsElement (column picks place)
column-elements [] place all = tt
column-elements (pick ∷ picks) place all = (all.1 place, column-elements picks place all.2)

pub length-clouds : (picks : List Pick) (place : ℕ) → length (clouds picks) ≡ length (column picks place)
length-clouds [] place = refl
length-clouds (pick ∷ picks) place = ap suc (length-clouds picks place)

-- ---- the sum of rows

-- the rows of picks, each times the factor of its cloud, added to a row
abbrev added : (ℕ → ℕ) → List ℕ → List Pick → List ℕ
added factor out picks = fold (λ row pick. row_sum (factor pick.cloud) pick.bytes row) out picks

length-added : (factor : ℕ → ℕ) (out : List ℕ) (picks : List Pick) → length (added factor out picks) ≡ length out
length-added factor out [] = refl
length-added factor out (pick ∷ picks) =
    length-added factor (row_sum (factor pick.cloud) pick.bytes out) picks ∙ length-row_sum (factor pick.cloud) pick.bytes out

get_or-added : (factor : ℕ → ℕ) (place : ℕ) (out : List ℕ) (picks : List Pick) → place < length out → AreSized (length out) picks → get_or (added factor out picks) place 0 ≡ bit_xor (get_or out place 0) (weighted_sum gf (map factor (clouds picks)) (column picks place))
get_or-added factor place out [] within sized = sym (xor_zero_r (get_or out place 0))
get_or-added factor place out (pick ∷ picks) within sized =
    let next = row_sum (factor pick.cloud) pick.bytes out in
    let same = length-row_sum (factor pick.cloud) pick.bytes out in
    let S : ℕ → Type 0 = λ n. AreSized n picks in
    get_or-added factor place next picks (omega (arith, same)) (subst S (sym same) sized.1)
    ∙ ap (λ z. bit_xor z (weighted_sum gf (map factor (clouds picks)) (column picks place))) (get_or-row_sum (factor pick.cloud) place pick.bytes out within sized.0)
    ∙ xor_assoc (get_or out place 0) (gf_product (factor pick.cloud) (get_or pick.bytes place 0)) (weighted_sum gf (map factor (clouds picks)) (column picks place))

-- the weighted bytes of `some` of the picks, added up
abbrev pub rows_sum : ℕ → List Pick → ℕ → List Pick → List ℕ
rows_sum size picks target some =
    fold (λ row pick. row_sum (weight gf eqb (clouds picks) pick.cloud target) pick.bytes row) (replicate size 0) some

pub rows_sum-all : (size : ℕ) (picks : List Pick) (target : ℕ) → target < 256 → AreSized size picks → AreInRange picks → AreDifferent (clouds picks) → rows_sum size picks target picks ≡ row_at size picks target
unfolding row_at
rows_sum-all size picks target small sized all different =
    same_number_lists (rows_sum size picks target picks) (map value (range_with_len 0 size))
    (length_is ∙ sym (length-map-range_with_len value 0 size))
    (λ place within. here place (omega (arith, length_is)) ∙ sym (get_or-map-range_with_len value 0 size place place 0 (omega (arith, length_is)) (omega arith)))
  where
    value : ℕ → ℕ
    value place = value_at gf (polynomial_through gf (clouds picks) (column picks place)) target

    zeros-size : length {A = ℕ} (replicate size 0) ≡ size
    zeros-size = length-replicate size 0

    length_is : length (rows_sum size picks target picks) ≡ size
    length_is = length-added (λ cloud. weight gf eqb (clouds picks) cloud target) (replicate size 0) picks ∙ zeros-size

    here : (place : ℕ) → place < size → get_or (rows_sum size picks target picks) place 0 ≡ value_at gf (polynomial_through gf (clouds picks) (column picks place)) target
    here place within =
        let sum = weighted_sum gf (map (λ cloud. weight gf eqb (clouds picks) cloud target) (clouds picks)) (column picks place) in
        let S : ℕ → Type 0 = λ n. AreSized n picks in
        get_or-added (λ cloud. weight gf eqb (clouds picks) cloud target) place (replicate size 0) picks (omega (arith, zeros-size)) (subst S (sym zeros-size) sized)
        ∙ ap (λ z. bit_xor z sum) (get_or-replicate size place 0 0 within)
        ∙ xor_zero_l sum
        ∙ sym (value_at-weights (clouds picks) (column picks place) target (clouds-elements picks all) (column-elements picks place all) small (length-clouds picks place) different)

abbrev row_of : Pick → List ℕ
row_of pick = pick.bytes

abbrev cloud_of : Pick → ℕ
cloud_of pick = pick.cloud

-- what no pick has, where a list of picks is read
abbrev pub nothing : Pick
nothing = record { cloud = 0; bytes = [] }

-- one more row
pub rows_sum-next : (size : ℕ) (picks : List Pick) (target i factor : ℕ) (row out : List ℕ) → i < length picks → row ≡ get_or (map (λ pick. pick.bytes) picks) i [] → factor ≡ weight gf eqb (clouds picks) (get_or (clouds picks) i 0) target → out ≡ rows_sum size picks target (take i picks) → row_sum factor row out ≡ rows_sum size picks target (take (i + 1) picks)
rows_sum-next size picks target i factor row out within row_is factor_is so_far =
    let step : List ℕ → Pick → List ℕ = λ row pick. row_sum (weight gf eqb (clouds picks) pick.cloud target) pick.bytes row in
    let pick = get_or picks i nothing in
    ap (row_sum factor row) so_far
    ∙ ap (λ f. row_sum f row (rows_sum size picks target (take i picks))) (factor_is ∙ ap (λ cloud. weight gf eqb (clouds picks) cloud target) (get_or-map cloud_of picks i nothing))
    ∙ ap (λ r. row_sum (weight gf eqb (clouds picks) pick.cloud target) r (rows_sum size picks target (take i picks))) (row_is ∙ get_or-map row_of picks i nothing)
    ∙ sym (fold_more step (replicate size 0) picks i nothing within)

-- what a vector of n bytes holds once its slice was written
pub written : (n : ℕ) (xs ys : List ℕ) → n ≡ length xs → length xs ≡ length ys → take n (xs ++ drop (length xs) ys) ≡ xs
written n xs ys e same =
    ap (λ z. take n (xs ++ z)) (drop_all (length xs) ys (omega arith)) ∙ ap (take n) (append-nil xs) ∙ take_all n xs (omega arith)
