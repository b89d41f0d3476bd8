-- Rows of one length, one behind another.
use Rattle.std.proofs.Common.{◌≡◌, ℕ, zero, suc, ◌+◌, ◌-◌, ◌*◌, ◌<◌, ◌≤◌, List, [], ◌∷◌, ◌++◌, length, get_or, take, drop, map, sym, ap, ◌∙◌, arith}
use Rattle.std.proofs.lemmas.List.{append-nil, drop-drop, drop_at, length-append, map-id, take_at}
use Rattle.std.proofs.lemmas.List.Concat.{flat_map-append}
use Rattle.std.proofs.lemmas.List.FromFn.{get_or-map-range_with_len, length-map-range_with_len, map-range_with_len_more}
use Rattle.std.specs.List.{flat_map, range_with_len}
use Rattle.hy_code.specs.Block.{rows_of}
use Rattle.hy_code.proofs.Ranges.{map-same, map-shifted}

suc-times : (n size : ℕ) → suc n * size ≡ size + n * size
suc-times n size = omega arith

zero-times : (size : ℕ) → 0 * size ≡ 0
zero-times size = omega arith

-- how many rows there are
pub length-rows_of : (count size : ℕ) (bytes : List ℕ) → length (rows_of count size bytes) ≡ count
unfolding rows_of
length-rows_of count size bytes = length-map-range_with_len (λ row. take size (drop (row * size) bytes)) 0 count

-- a row
pub get_or-rows_of : (count size : ℕ) (bytes : List ℕ) (i : ℕ) → i < count → get_or (rows_of count size bytes) i [] ≡ take size (drop (i * size) bytes)
unfolding rows_of
get_or-rows_of count size bytes i within =
    get_or-map-range_with_len (λ row. take size (drop (row * size) bytes)) 0 count i i [] within (omega arith)

-- a row ends where the bytes end, or before
pub row_fits : (i count size : ℕ) → i < count → i * size + size ≤ count * size
row_fits i zero size within = absurd (omega arith)
row_fits zero (suc count) size within = omega (arith, suc-times count size, zero-times size)
row_fits (suc i) (suc count) size within =
    omega (arith, row_fits i count size (omega arith), suc-times count size, suc-times i size)

-- ---- rows that a function gives

module _ (f : ℕ → List ℕ) (size : ℕ) (sized : (x : ℕ) → length (f x) ≡ size) where
  pub length-joined : (a n : ℕ) → length (flat_map f (range_with_len a n)) ≡ n * size
  length-joined a zero = sym (zero-times size)
  length-joined a (suc n) =
      length-append (f a) (flat_map f (range_with_len (a + 1) n)) ∙ ap (λ m. m + length (flat_map f (range_with_len (a + 1) n))) (sized a)
      ∙ ap (λ m. size + m) (length-joined (a + 1) n) ∙ sym (suc-times n size)

  row-joined : (a n i : ℕ) → i < n → take size (drop (i * size) (flat_map f (range_with_len a n))) ≡ f (i + a)
  row-joined a zero i within = absurd (omega arith)
  row-joined a (suc n) zero within =
      ap (λ m. take size (drop m (f a ++ flat_map f (range_with_len (a + 1) n)))) (zero-times size)
      ∙ take_at (f a) (flat_map f (range_with_len (a + 1) n)) size (sized a)
      ∙ ap f (omega arith)
  row-joined a (suc n) (suc i) within =
      let rest = flat_map f (range_with_len (a + 1) n) in
      ap (λ m. take size (drop m (f a ++ rest))) (suc-times i size)
      ∙ ap (take size) (sym (drop-drop (i * size) size (f a ++ rest)) ∙ ap (drop (i * size)) (drop_at (f a) rest size (sized a)))
      ∙ row-joined (a + 1) n i (omega arith)
      ∙ ap f (omega arith)

  -- they are the rows of the bytes that they make one behind another
  pub rows_of-joined : (a n : ℕ) (bytes : List ℕ) → bytes ≡ flat_map f (range_with_len a n) → rows_of n size bytes ≡ map f (range_with_len a n)
  unfolding rows_of
  rows_of-joined a n bytes is =
      ap (λ bs. map (λ row. take size (drop (row * size) bs)) (range_with_len 0 n)) is
      ∙ map-same (λ row. take size (drop (row * size) (flat_map f (range_with_len a n)))) (λ row. f (a + row)) 0 n
      (λ row low high. row-joined a n row (omega arith) ∙ ap f (omega arith))
      ∙ map-shifted f a 0 n ∙ ap (λ b. map f (range_with_len b n)) (omega arith)

-- one more row of a range from a place on
pub joined_from : {X : Type 0} (f : ℕ → List X) (a b : ℕ) (xs ys piece : List X) → a ≤ b → xs ≡ flat_map f (range_with_len a (b - a)) → ys ≡ xs ++ piece → piece ≡ f b → ys ≡ flat_map f (range_with_len a (b + 1 - a))
joined_from f a b xs ys piece low so_far append e =
    let n = b - a in
    let range : range_with_len a (n + 1) ≡ range_with_len a n ++ b ∷ [] =
    sym (map-id (range_with_len a (n + 1))) ∙ map-range_with_len_more (λ j. j) a n b (omega arith) ∙ ap (λ z. z ++ b ∷ []) (map-id (range_with_len a n)) in
    append
    ∙ ap (λ z. z ++ piece) so_far
    ∙ ap (λ z. flat_map f (range_with_len a n) ++ z) (e ∙ sym (append-nil (f b)))
    ∙ sym (ap (flat_map f) range ∙ flat_map-append f (range_with_len a n) (b ∷ []))
    ∙ ap (λ m. flat_map f (range_with_len a m)) (omega arith)
