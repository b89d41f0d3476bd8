-- The parts of a value.
use Rattle.std.proofs.Common.{◌≡◌, ℕ, zero, suc, ◌+◌, ◌-◌, ◌*◌, ◌<◌, List, ◌∷◌, ◌++◌, length, get_or, take, drop, replicate, map, min, refl, sym, ap, ◌∙◌, arith, subst, inl, inr}
use Rattle.std.proofs.lemmas.Bool.{cases_lt}
use Rattle.std.proofs.lemmas.Grind.{same_number_lists}
use Rattle.std.proofs.lemmas.List.{take_all, length-take, length-drop, length-append, length-replicate, get_or-take, get_or-drop, get_or-replicate, get_or_append_left, get_or-append_right, get_or_past}
use Rattle.std.proofs.lemmas.List.FromFn.{get_or-map-range_with_len, length-map-range_with_len}
use Rattle.std.specs.List.{range_with_len}
use Rattle.std.specs.Prelude.{slice_index}
use Rattle.hy_base.specs.Shape.{fragment_size}
use Rattle.hy_code.specs.Fragments.{clouds, part_of, parts_of}
use Rattle.hy_code.specs.Polynomial.{Differs, AreDifferent}
use Rattle.hy_code.proofs.Refusals.{AreSized}

sized : (value : List ℕ) (size a n : ℕ) → AreSized size (map (part_of value size) (range_with_len a n))
sized value size a zero = tt
sized value size a (suc n) =
    (length-map-range_with_len (λ place. slice_index value (a * size + place)) 0 size, sized value size (a + 1) n)

pub parts_of-sized : (value : List ℕ) (k : ℕ) → AreSized (fragment_size (length value) k) (parts_of value k)
unfolding parts_of
parts_of-sized value k = sized value (fragment_size (length value) k) 0 k

pub clouds-parts : (value : List ℕ) (size a n : ℕ) → clouds (map (part_of value size) (range_with_len a n)) ≡ range_with_len a n
clouds-parts value size a zero = refl
clouds-parts value size a (suc n) = ap (λ z. a ∷ z) (clouds-parts value size (a + 1) n)

differs-range : (x a n : ℕ) → x < a → Differs x (range_with_len a n)
differs-range x a zero below = tt
differs-range x a (suc n) below = ((λ e. absurd (omega arith)), differs-range x (a + 1) n (omega arith))

pub range-different : (a n : ℕ) → AreDifferent (range_with_len a n)
range-different a zero = tt
range-different a (suc n) = (differs-range a (a + 1) n (omega arith), range-different (a + 1) n)

pub clouds-parts_of : (value : List ℕ) (k : ℕ) → clouds (parts_of value k) ≡ range_with_len 0 k
unfolding parts_of
clouds-parts_of value k = clouds-parts value (fragment_size (length value) k) 0 k

pub parts_of-different : (value : List ℕ) (k : ℕ) → AreDifferent (clouds (parts_of value k))
parts_of-different value k =
    let D : List ℕ → Type 0 = AreDifferent in subst D (sym (clouds-parts_of value k)) (range-different 0 k)

-- the bytes from a place on that are there, filled up with zeros
pub padded : (value xs ys : List ℕ) (start size n : ℕ) → xs ≡ take size (drop start value) → n ≡ length xs → ys ≡ take size xs ++ replicate (size - n) 0 → ys ≡ map (λ place. slice_index value (start + place)) (range_with_len 0 size)
padded value xs ys start size n cut counted filled =
    same_number_lists ys (map byte (range_with_len 0 size)) (length_is ∙ sym (length-map-range_with_len byte 0 size))
    (λ place inside. at place (omega (arith, length_is)) ∙ sym (get_or-map-range_with_len byte 0 size place place 0 (omega (arith, length_is)) (omega arith)))
  where
    byte : ℕ → ℕ
    byte place = slice_index value (start + place)

    length_cut : length xs ≡ min size (length value - start)
    length_cut = ap length cut ∙ length-take size (drop start value) ∙ ap (min size) (length-drop start value)

    whole : take size xs ≡ xs
    whole = take_all size xs (omega (arith, length_cut))

    parts_are : ys ≡ xs ++ replicate (size - length xs) 0
    parts_are = filled ∙ ap (λ t. t ++ replicate (size - n) 0) whole ∙ ap (λ m. xs ++ replicate (size - m) 0) counted

    zeros : length {A = ℕ} (replicate (size - length xs) 0) ≡ size - length xs
    zeros = length-replicate (size - length xs) 0

    length_is : length ys ≡ size
    length_is = omega (arith, ap length parts_are, length-append xs (replicate (size - length xs) 0), zeros, length_cut)

    at : (place : ℕ) → place < size → get_or ys place 0 ≡ byte place
    at place inside = ap (λ l. get_or l place 0) parts_are ∙ elim (cases_lt place (length xs)) [
      | inl low ↦
          get_or_append_left xs (replicate (size - length xs) 0) 0 place low
          ∙ ap (λ l. get_or l place 0) cut
          ∙ get_or-take size (drop start value) place 0 inside
          ∙ get_or-drop start value place 0
      | inr high ↦
          get_or-append_right xs (replicate (size - length xs) 0) (length xs) place 0 refl high
          ∙ get_or-replicate (size - length xs) (place - length xs) 0 0 (omega arith)
          ∙ sym (get_or_past value (start + place) 0 (omega (arith, length_cut)))
    ]
