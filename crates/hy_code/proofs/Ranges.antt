-- Lists made from a function of the index.
use Rattle.std.proofs.Common.{◌≡◌, ℕ, zero, suc, ◌+◌, ◌-◌, ◌*◌, ◌<◌, ◌≤◌, List, [], ◌∷◌, ◌++◌, map, refl, sym, ap, ◌∙◌, arith}
use Rattle.std.proofs.lemmas.List.{append-nil, map-id}
use Rattle.std.proofs.lemmas.List.Concat.{flat_map-append}
use Rattle.std.proofs.lemmas.List.FromFn.{map-range_with_len_more}
use Rattle.std.specs.List.{flat_map, range_with_len}

-- one more element
pub pushed : {X : Type 0} (f : ℕ → X) (n : ℕ) (xs ys : List X) (y : X) → xs ≡ map f (range_with_len 0 n) → ys ≡ xs ++ y ∷ [] → y ≡ f n → ys ≡ map f (range_with_len 0 (n + 1))
pushed f n xs ys y so_far push e =
    push ∙ ap (λ z. z ++ y ∷ []) so_far ∙ ap (λ z. map f (range_with_len 0 n) ++ z ∷ []) e ∙ sym (map-range_with_len_more f 0 n n (omega arith))

-- one more element of a range from a place on
pub pushed_from : {X : Type 0} (f : ℕ → X) (a b : ℕ) (xs ys : List X) (y : X) → a ≤ b → xs ≡ map f (range_with_len a (b - a)) → ys ≡ xs ++ y ∷ [] → y ≡ f b → ys ≡ map f (range_with_len a (b + 1 - a))
pushed_from f a b xs ys y low so_far push e =
    push
    ∙ ap (λ z. z ++ y ∷ []) so_far
    ∙ ap (λ z. map f (range_with_len a (b - a)) ++ z ∷ []) e
    ∙ sym (map-range_with_len_more f a (b - a) b (omega arith))
    ∙ ap (λ n. map f (range_with_len a n)) (omega arith)

-- functions that agree on a range
pub map-same : {X : Type 0} (f g : ℕ → X) (a n : ℕ) → ((j : ℕ) → a ≤ j → j < a + n → f j ≡ g j) → map f (range_with_len a n) ≡ map g (range_with_len a n)
map-same f g a zero same = refl
map-same f g a (suc n) same =
    ap (λ z. z ∷ map f (range_with_len (a + 1) n)) (same a (omega arith) (omega arith))
    ∙ ap (λ z. g a ∷ z) (map-same f g (a + 1) n (λ j low high. same j (omega arith) (omega arith)))

pub flat_map-same : {X : Type 0} (f g : ℕ → List X) (a n : ℕ) → ((j : ℕ) → a ≤ j → j < a + n → f j ≡ g j) → flat_map f (range_with_len a n) ≡ flat_map g (range_with_len a n)
flat_map-same f g a zero same = refl
flat_map-same f g a (suc n) same =
    ap (λ z. z ++ flat_map f (range_with_len (a + 1) n)) (same a (omega arith) (omega arith))
    ∙ ap (λ z. g a ++ z) (flat_map-same f g (a + 1) n (λ j low high. same j (omega arith) (omega arith)))

-- a range further up
pub map-shifted : {X : Type 0} (f : ℕ → X) (c a n : ℕ) → map (λ j. f (c + j)) (range_with_len a n) ≡ map f (range_with_len (c + a) n)
map-shifted f c a zero = refl
map-shifted f c a (suc n) =
    ap (λ z. f (c + a) ∷ z) (map-shifted f c (a + 1) n ∙ ap (λ b. map f (range_with_len b n)) (omega arith))

-- a range in two pieces
pub map-range_with_len-add : {X : Type 0} (f : ℕ → X) (a m n : ℕ) → map f (range_with_len a (m + n)) ≡ map f (range_with_len a m) ++ map f (range_with_len (a + m) n)
map-range_with_len-add f a zero n = ap (λ z. map f (range_with_len a z)) (omega arith) ∙ ap (λ z. map f (range_with_len z n)) (omega arith)
map-range_with_len-add f a (suc m) n =
    ap (λ z. map f (range_with_len a z)) (suc_add m n)
    ∙ ap (λ z. f a ∷ z)
    (map-range_with_len-add f (a + 1) m n ∙ ap (λ z. map f (range_with_len (a + 1) m) ++ map f (range_with_len z n)) (omega arith))
  where
    suc_add : (m n : ℕ) → suc m + n ≡ suc (m + n)
    suc_add m n = omega arith

-- rows of one length joined
pub rows_joined : {X : Type 0} (f : ℕ → X) (m a k : ℕ) → flat_map (λ j. map (λ place. f (j * m + place)) (range_with_len 0 m)) (range_with_len a k) ≡ map f (range_with_len (a * m) (k * m))
rows_joined f m a zero = ap (λ z. map f (range_with_len (a * m) z)) (sym (zero_times m))
  where
    zero_times : (m : ℕ) → zero * m ≡ 0
    zero_times m = omega arith
rows_joined f m a (suc k) =
    ap (λ z. z ++ flat_map (λ j. map (λ place. f (j * m + place)) (range_with_len 0 m)) (range_with_len (a + 1) k))
    (map-shifted f (a * m) 0 m ∙ ap (λ z. map f (range_with_len z m)) (omega arith))
    ∙ ap (λ z. map f (range_with_len (a * m) m) ++ z) (rows_joined f m (a + 1) k ∙ ap (λ z. map f (range_with_len z (k * m))) (omega arith))
    ∙ sym (map-range_with_len-add f (a * m) m (k * m))
    ∙ ap (λ z. map f (range_with_len (a * m) z)) (omega arith)

-- one more row
pub joined : {X : Type 0} (f : ℕ → List X) (n : ℕ) (xs ys piece : List X) → xs ≡ flat_map f (range_with_len 0 n) → ys ≡ xs ++ piece → piece ≡ f n → ys ≡ flat_map f (range_with_len 0 (n + 1))
joined f n xs ys piece so_far append e =
    let range : range_with_len 0 (n + 1) ≡ range_with_len 0 n ++ n ∷ [] =
    sym (map-id (range_with_len 0 (n + 1))) ∙ map-range_with_len_more (λ j. j) 0 n n (omega arith) ∙ ap (λ z. z ++ n ∷ []) (map-id (range_with_len 0 n)) in
    append
    ∙ ap (λ z. z ++ piece) so_far
    ∙ ap (λ z. flat_map f (range_with_len 0 n) ++ z) (e ∙ sym (append-nil (f n)))
    ∙ sym (ap (flat_map f) range ∙ flat_map-append f (range_with_len 0 n) (n ∷ []))
