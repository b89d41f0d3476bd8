-- The clouds of a set, taken one by one.
use Rattle.std.proofs.Common.{◌≡◌, ◌==◌, ℕ, zero, suc, ◌+◌, ◌/◌, ◌%◌, ◌^◌, Bool, true, false, cond, List, [], ◌∷◌, ◌++◌, filter, ap, sym, ◌∙◌, subst, append-nil, add-one, eq-eqb, arith}
use Rattle.std.proofs.lemmas.Bool.Decides.{nat_tests}
use Rattle.std.proofs.lemmas.List.Elements.{filter-append}
use Rattle.std.specs.Int.{bit_at}
use Rattle.std.specs.List.{range_with_len}
use Rattle.hy_record.specs.Clouds.{clouds_of}

-- one number more of a range
range_with_len-suc : (from count : ℕ) → range_with_len from (suc count) ≡ range_with_len from count ++ (from + count) ∷ []
range_with_len-suc from zero = ap (λ x. x ∷ []) (omega arith)
range_with_len-suc from (suc count) =
    ap (λ rest. from ∷ rest) (range_with_len-suc (from + 1) count)
    ∙ ap (λ x. from ∷ range_with_len (from + 1) count ++ x ∷ []) (omega arith)

-- the clouds of a set below a number, and then that number too
filter-range_more : (p : ℕ → Bool) (count : ℕ) → filter p (range_with_len 0 (count + 1)) ≡ filter p (range_with_len 0 count) ++ cond (p count) (count ∷ []) []
filter-range_more p count =
    ap (filter p) (rw add-one (range_with_len-suc 0 count))
    ∙ filter-append p (range_with_len 0 count) ((0 + count) ∷ [])
    ∙ ap (λ x. filter p (range_with_len 0 count) ++ cond (p x) (x ∷ []) []) (omega arith)

-- a cloud of the set is one number more
filter-range_there : (p : ℕ → Bool) (count : ℕ) (numbers new : List ℕ) → numbers ≡ filter p (range_with_len 0 count) → p count ≡ true → new ≡ numbers ++ count ∷ []
    → new ≡ filter p (range_with_len 0 (count + 1))
filter-range_there p count numbers new before there now =
    now ∙ ap (λ xs. xs ++ count ∷ []) before
    ∙ ap (λ b. filter p (range_with_len 0 count) ++ cond b (count ∷ []) []) (sym there)
    ∙ sym (filter-range_more p count)

-- another cloud is none
filter-range_absent : (p : ℕ → Bool) (count : ℕ) (numbers new : List ℕ) → numbers ≡ filter p (range_with_len 0 count) → p count ≡ false → new ≡ numbers
    → new ≡ filter p (range_with_len 0 (count + 1))
filter-range_absent p count numbers new before absent now =
    now ∙ before ∙ sym (append-nil (filter p (range_with_len 0 count)))
    ∙ ap (λ b. filter p (range_with_len 0 count) ++ cond b (count ∷ []) []) (sym absent)
    ∙ sym (filter-range_more p count)

-- the clouds of the set below a number
abbrev pub clouds_below : ℕ → ℕ → List ℕ
clouds_below set count = filter (λ cloud. bit_at set cloud == 1) (range_with_len 0 count)

pub clouds_below-there : (set count : ℕ) (numbers new : List ℕ) → numbers ≡ clouds_below set count → set / 2 ^ count % 2 ≡ 1 → new ≡ numbers ++ count ∷ []
    → new ≡ clouds_below set (count + 1)
clouds_below-there set count numbers new before there now =
    filter-range_there (λ cloud. bit_at set cloud == 1) count numbers new before (eq-eqb (set / 2 ^ count % 2) 1 there) now

pub clouds_below-absent : (set count : ℕ) (numbers new : List ℕ) → numbers ≡ clouds_below set count → (set / 2 ^ count % 2 ≡ 1 → ⊥) → new ≡ numbers
    → new ≡ clouds_below set (count + 1)
clouds_below-absent set count numbers new before absent now =
    filter-range_absent (λ cloud. bit_at set cloud == 1) count numbers new before (grind (arith, nat_tests)) now

pub clouds_below-all : (set count : ℕ) (numbers : List ℕ) → numbers ≡ clouds_below set count → count ≡ 16 → numbers ≡ clouds_of set
unfolding clouds_of
clouds_below-all set count numbers before all = let P : ℕ → Type 0 = λ n. numbers ≡ clouds_below set n in subst P all before
