-- Any k fragments of a value rebuild it.
use Rattle.std.proofs.Common.{◌≡◌, ℕ, zero, suc, ◌+◌, ◌*◌, ◌<◌, ◌≤◌, List, [], ◌∷◌, length, get_or, take, map, refl, sym, ap, ◌∙◌, arith, subst, lit<}
use Rattle.std.specs.Prelude.{slice_index}
use Rattle.std.specs.List.{range_with_len}
use Rattle.std.proofs.lemmas.Grind.{same_number_lists, div_ceil_times}
use Rattle.std.proofs.lemmas.List.{get_or-take, length-map, length-take}
use Rattle.std.proofs.lemmas.List.FromFn.{get_or-map-range_with_len, length-map-range_with_len, length-range_with_len}
use Rattle.hy_base.specs.Shape.{fragment_size}
use Rattle.hy_gf.specs.Gf.{gf, IsElement}
use Rattle.hy_code.proofs.Bytes.{only_polynomial, value_at-element}
use Rattle.hy_code.proofs.PartLemmas.{clouds-parts_of, range-different}
use Rattle.hy_code.proofs.Ranges.{map-same, flat_map-same, rows_joined}
use Rattle.hy_code.specs.Fragments.{AreFragments, AnyPartsRebuild, clouds, column, row_at, part_of, parts_of, fragment_of, rebuilt_value}
use Rattle.hy_code.specs.Polynomial.{AreElements, IsOnlyPolynomial, value_at, polynomial_through}
use Rattle.hy_code.specs.declared.pick.Pick.{Pick}

-- ---- elements

range-elements : (a n : ℕ) → a + n ≤ 256 → AreElements IsElement (range_with_len a n)
range-elements a zero small = tt
range-elements a (suc n) small = (omega arith, range-elements (a + 1) n (omega arith))

index-element : (xs : List ℕ) (i : ℕ) → AreElements IsElement xs → slice_index xs i < 256
index-element [] i all = lit< tt
index-element (x ∷ xs) zero all = all.0
index-element (x ∷ xs) (suc i) all = index-element xs i all.1

map-elements : (f : ℕ → ℕ) (xs : List ℕ) → ((x : ℕ) → IsElement x → IsElement (f x)) → AreElements IsElement xs → AreElements IsElement (map f xs)
map-elements f [] each all = tt
map-elements f (x ∷ xs) each all = (each x all.0, map-elements f xs each all.1)

map-range-elements : (f : ℕ → ℕ) (a n : ℕ) → ((x : ℕ) → IsElement (f x)) → AreElements IsElement (map f (range_with_len a n))
map-range-elements f a zero each = tt
map-range-elements f a (suc n) each = (each a, map-range-elements f (a + 1) n each)

-- ---- the polynomial at a place of the parts

-- the bytes of the parts at a place
unfoldable pub part_bytes : List ℕ → ℕ → ℕ → ℕ → List ℕ
part_bytes value size k place = map (λ number. slice_index value (number * size + place)) (range_with_len 0 k)

column-parts : (value : List ℕ) (size place a n : ℕ) → place < size → column (map (part_of value size) (range_with_len a n)) place ≡ map (λ number. slice_index value (number * size + place)) (range_with_len a n)
column-parts value size place a zero within = refl
column-parts value size place a (suc n) within =
    ap (λ z. z ∷ column (map (part_of value size) (range_with_len (a + 1) n)) place)
    (get_or-map-range_with_len (λ p. slice_index value (a * size + p)) 0 size place place 0 within (omega arith))
    ∙ ap (λ z. slice_index value (a * size + place) ∷ z) (column-parts value size place (a + 1) n within)

-- one polynomial holds the bytes of all fragments at a place
unfoldable pub place_polynomial : List ℕ → ℕ → ℕ → List ℕ
place_polynomial value k place =
    polynomial_through gf (range_with_len 0 k) (part_bytes value (fragment_size (length value) k) k place)

pub byte_of_fragment : (value : List ℕ) (k i place : ℕ) → place < fragment_size (length value) k → slice_index (fragment_of value k i) place ≡ value_at gf (place_polynomial value k place) i
unfolding fragment_of row_at parts_of place_polynomial part_bytes
byte_of_fragment value k i place within =
    let size = fragment_size (length value) k in
    let parts = parts_of value k in
    get_or-map-range_with_len (λ p. value_at gf (polynomial_through gf (clouds parts) (column parts p)) i) 0 size place place 0 within (omega arith)
    ∙ ap (λ cs. value_at gf (polynomial_through gf cs (column parts place)) i) (clouds-parts_of value k)
    ∙ ap (λ ys. value_at gf (polynomial_through gf (range_with_len 0 k) ys) i) (column-parts value size place 0 k within)

module _ (value : List ℕ) (k : ℕ) (bytes : AreElements IsElement value) (small : k ≤ 256) (place : ℕ) where
  only_at_place : IsOnlyPolynomial IsElement gf (place_polynomial value k place) (range_with_len 0 k) (part_bytes value (fragment_size (length value) k) k place)
  unfolding place_polynomial part_bytes
  only_at_place =
      let size = fragment_size (length value) k in
      let byte : ℕ → ℕ = λ number. slice_index value (number * size + place) in
      only_polynomial (range_with_len 0 k) (map byte (range_with_len 0 k)) (range-elements 0 k (omega arith))
      (map-range-elements byte 0 k (λ number. index-element value (number * size + place) bytes))
      (length-range_with_len 0 k ∙ sym (length-map-range_with_len byte 0 k)) (range-different 0 k)

  -- its value at the number of a part is the part's byte
  pub part_byte : (number : ℕ) → number < k → value_at gf (place_polynomial value k place) number ≡ slice_index value (number * fragment_size (length value) k + place)
  unfolding part_bytes
  part_byte number within =
      let size = fragment_size (length value) k in
      sym (get_or-map-range_with_len (value_at gf (place_polynomial value k place)) 0 k number number 0 within (omega arith))
      ∙ ap (λ xs. get_or xs number 0) only_at_place.interpolates.takes
      ∙ get_or-map-range_with_len (λ n. slice_index value (n * size + place)) 0 k number number 0 within (omega arith)

  module _ (inside : place < fragment_size (length value) k) where
    column-fragments : (picks : List Pick) → map (λ pick. pick.bytes) picks ≡ map (fragment_of value k) (clouds picks) → column picks place ≡ map (value_at gf (place_polynomial value k place)) (clouds picks)
    column-fragments [] e = refl
    column-fragments (pick ∷ picks) e =
        let first : pick.bytes ≡ fragment_of value k pick.cloud = cc in
        let rest : map (λ pick. pick.bytes) picks ≡ map (fragment_of value k) (clouds picks) = cc in
        ap (λ z. z ∷ column picks place) (ap (λ bs. slice_index bs place) first ∙ byte_of_fragment value k pick.cloud place inside)
        ∙ ap (λ z. value_at gf (place_polynomial value k place) pick.cloud ∷ z) (column-fragments picks rest)

    -- the polynomial through picked fragments is the same
    through_fragments : (picks : List Pick) → AreFragments value k picks → polynomial_through gf (clouds picks) (column picks place) ≡ place_polynomial value k place
    through_fragments picks fragments =
        let p = place_polynomial value k place in
        let values = column-fragments picks fragments.fragments in
        let E : List ℕ → Type 0 = AreElements IsElement in
        let elements : E (column picks place) =
        subst E (sym values) (map-elements (value_at gf p) (clouds picks) (λ x h. value_at-element p x only_at_place.elements h) fragments.numbers) in
        let lengths = length-map picks (λ (pick : Pick). pick.cloud) in
        let at_picks = only_polynomial (clouds picks) (column picks place) fragments.numbers elements
        (lengths ∙ sym (length-map picks (λ (pick : Pick). slice_index pick.bytes place))) fragments.different in
        sym (at_picks.only p only_at_place.elements
        (record {
          degree = only_at_place.interpolates.degree ∙ length-range_with_len 0 k ∙ sym fragments.count ∙ sym lengths;
          takes = sym values;
        }))

-- a part is rebuilt
row_of_fragments : (value : List ℕ) (k number : ℕ) (picks : List Pick) → AreElements IsElement value → k ≤ 256 → AreFragments value k picks → number < k → row_at (fragment_size (length value) k) picks number ≡ map (λ place. slice_index value (number * fragment_size (length value) k + place)) (range_with_len 0 (fragment_size (length value) k))
unfolding row_at
row_of_fragments value k number picks bytes small fragments within =
    let size = fragment_size (length value) k in
    map-same (λ place. value_at gf (polynomial_through gf (clouds picks) (column picks place)) number)
    (λ place. slice_index value (number * size + place)) 0 size
    (λ place low high.
    ap (λ p. value_at gf p number) (through_fragments value k bytes small place (omega arith) picks fragments)
    ∙ part_byte value k bytes small place number within)

-- a value is a beginning of its bytes followed by zeros
take-bytes : (value : List ℕ) (a n : ℕ) → a ≡ 0 → length value ≤ n → take (length value) (map (slice_index value) (range_with_len a n)) ≡ value
take-bytes value a n start room =
    let all = length-map-range_with_len (slice_index value) a n in
    let size = length-take (length value) (map (slice_index value) (range_with_len a n)) in
    same_number_lists _ value (omega (arith, all, size))
    (λ i within.
    get_or-take (length value) (map (slice_index value) (range_with_len a n)) i 0 (omega (arith, all, size))
    ∙ get_or-map-range_with_len (slice_index value) a n i i 0 (omega (arith, all, size)) (omega arith))

pub any_parts : AnyPartsRebuild
unfolding rebuilt_value
any_parts value k picks bytes positive small fragments =
    let size = fragment_size (length value) k in
    ap (take (length value))
    (flat_map-same (row_at size picks) (λ number. map (λ place. slice_index value (number * size + place)) (range_with_len 0 size)) 0 k
    (λ number low high. row_of_fragments value k number picks bytes small fragments (omega arith))
    ∙ rows_joined (slice_index value) size 0 k)
    ∙ take-bytes value (0 * size) (k * size) (omega arith) (omega (arith, (div_ceil_times (length value) k positive).0))
