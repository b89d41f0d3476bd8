-- Filters of the numbers from one place on.
use Rattle.std.proofs.Common.{◌≡◌, ℕ, zero, suc, ◌+◌, ◌≤◌, ◌<◌, Bool, true, false, List, [], ◌∷◌, length, refl, sym, ap, ◌∙◌, inl, inr, arith, append-nil}
use Rattle.std.specs.Prelude.{◌⊎◌, All, filter, ◌++◌}
use Rattle.std.specs.List.{range_with_len}
use Rattle.std.proofs.Math.Numerals.{add-one}
use Rattle.std.proofs.Math.Nat.{zero-add}
use Rattle.std.proofs.lemmas.Bool.{false≢true}
use Rattle.std.proofs.lemmas.List.Elements.{All-nil, All-cons, filter-append}
use Rattle.std.proofs.lemmas.List.FromFn.{length-range_with_len}
use Rattle.hy_meta.proofs.Rising.{cases_bool}

range-more : (a n : ℕ) → range_with_len a (suc n) ≡ range_with_len a n ++ (a + n) ∷ []
range-more a zero = ap (λ (i : ℕ). i ∷ []) (omega arith)
range-more a (suc n) = ap (λ (xs : List ℕ). a ∷ xs) (range-more (a + 1) n ∙ ap (λ (i : ℕ). range_with_len (a + 1) n ++ i ∷ []) (omega arith))

-- one more number that passes
pub filter-passes : (p : ℕ → Bool) (n : ℕ) → p n ≡ true → filter p (range_with_len 0 (n + 1)) ≡ filter p (range_with_len 0 n) ++ n ∷ []
filter-passes p n taken = ap (λ (m : ℕ). filter p (range_with_len 0 m)) (add-one n) ∙ ap (filter p) (range-more 0 n) ∙ filter-append p (range_with_len 0 n) ((0 + n) ∷ []) ∙ rw (zero-add, taken) refl

-- one more number that does not pass
pub filter-skips : (p : ℕ → Bool) (n : ℕ) → p n ≡ false → filter p (range_with_len 0 (n + 1)) ≡ filter p (range_with_len 0 n)
filter-skips p n left_out = ap (λ (m : ℕ). filter p (range_with_len 0 m)) (add-one n) ∙ ap (filter p) (range-more 0 n) ∙ filter-append p (range_with_len 0 n) ((0 + n) ∷ []) ∙ rw (zero-add, left_out) (append-nil (filter p (range_with_len 0 n)))

-- a filter has no more than all
pub filter-few : (p : ℕ → Bool) (xs : List ℕ) → length (filter p xs) ≤ length xs
filter-few p [] = omega arith
filter-few p (x ∷ xs) =
    let rest = filter-few p xs in
    elim (cases_bool (p x)) [
      | inl taken ↦ rw taken (omega (arith, rest))
      | inr left_out ↦ rw left_out (omega (arith, rest))
    ]

pub few-below : (p : ℕ → Bool) (n : ℕ) → length (filter p (range_with_len 0 n)) ≤ n
few-below p n = let few = filter-few p (range_with_len 0 n) in let all = length-range_with_len 0 n in omega (arith, few, all)

-- tests that agree on these numbers
pub filter-agrees : (p q : ℕ → Bool) (a n : ℕ) → ((i : ℕ) → i < a + n → p i ≡ q i) → filter p (range_with_len a n) ≡ filter q (range_with_len a n)
filter-agrees p q a zero same = refl
filter-agrees p q a (suc n) same =
    let rest = filter-agrees p q (a + 1) n (λ i l. same i (omega (arith, l))) in
    let here : p a ≡ q a = same a (omega arith) in
    elim (cases_bool (q a)) [
      | inl taken ↦ rw (here, taken) (ap (λ (xs : List ℕ). a ∷ xs) rest)
      | inr left_out ↦ rw (here, left_out) rest
    ]

-- where what passes passed before, no more pass
pub filter-no-more : (p q : ℕ → Bool) (a n : ℕ) → ((i : ℕ) → a ≤ i → i < a + n → q i ≡ true → p i ≡ true) → length (filter q (range_with_len a n)) ≤ length (filter p (range_with_len a n))
filter-no-more p q a zero only = omega arith
filter-no-more p q a (suc n) only =
    let rest = filter-no-more p q (a + 1) n (λ i from l e. only i (omega (arith, from)) (omega (arith, l)) e) in
    elim (cases_bool (q a)) [
      | inl taken ↦ let was : p a ≡ true = only a (omega arith) (omega arith) taken in rw (taken, was) (omega (arith, rest))
      | inr left_out ↦ elim (cases_bool (p a)) [
        | inl was ↦ rw (left_out, was) (omega (arith, rest))
        | inr never ↦ rw (left_out, never) rest
      ]
    ]

-- where one number more may pass, one more passes at most
pub filter-one-more : (p q : ℕ → Bool) (c a n : ℕ) → ((i : ℕ) → i < a + n → q i ≡ true → (p i ≡ true) ⊎ (c ≡ i)) → length (filter q (range_with_len a n)) ≤ length (filter p (range_with_len a n)) + 1
filter-one-more p q c a zero either = omega arith
filter-one-more p q c a (suc n) either =
    let rest = filter-one-more p q c (a + 1) n (λ i l e. either i (omega (arith, l)) e) in
    elim (cases_bool (q a)) [
      | inr left_out ↦ elim (cases_bool (p a)) [
        | inl was ↦ rw (left_out, was) (omega (arith, rest))
        | inr never ↦ rw (left_out, never) rest
      ]
      | inl taken ↦ elim (cases_bool (p a)) [
        | inl was ↦ rw (taken, was) (omega (arith, rest))
        | inr never ↦
            let here : c ≡ a = (elim (either a (omega arith) taken) [ inl e ↦ absurd (false≢true (sym never ∙ e)) | inr e ↦ e ]) in
            let same = filter-no-more p q (a + 1) n (λ i from l e. elim (either i (omega (arith, l)) e) [ inl y ↦ y | inr y ↦ absurd (omega (arith, here, y, from)) ]) in
            rw (taken, never) (omega (arith, same))
      ]
    ]

-- one more at the end
pub length-snoc : (xs : List ℕ) (x : ℕ) → length (xs ++ x ∷ []) ≡ length xs + 1
length-snoc [] x = omega arith
length-snoc (y ∷ ys) x = let rest = length-snoc ys x in omega (arith, rest)

-- a filter goes no further than what passes
pub filter-ends : (p : ℕ → Bool) (a n m : ℕ) → n ≤ m → ((i : ℕ) → a + n ≤ i → i < a + m → p i ≡ false) → filter p (range_with_len a m) ≡ filter p (range_with_len a n)
filter-ends p a zero zero le outside = refl
filter-ends p a (suc n) zero le outside = absurd (omega (arith, le))
filter-ends p a zero (suc m) le outside =
    let here : p a ≡ false = outside a (omega arith) (omega arith) in
    rw here (filter-ends p (a + 1) zero m (omega arith) (λ i from below. outside i (omega (arith, from)) (omega (arith, below))))
filter-ends p a (suc n) (suc m) le outside =
    let rest = filter-ends p (a + 1) n m (omega (arith, le)) (λ i from below. outside i (omega (arith, from)) (omega (arith, below))) in
    elim (cases_bool (p a)) [
      | inl taken ↦ rw taken (ap (λ (xs : List ℕ). a ∷ xs) rest)
      | inr left_out ↦ rw left_out rest
    ]

-- what passes has passed the test
pub filter-passed : (p : ℕ → Bool) (a n : ℕ) → All (λ i. p i ≡ true) (filter p (range_with_len a n))
filter-passed p a zero = All-nil (λ i. p i ≡ true)
filter-passed p a (suc n) =
    let rest = filter-passed p (a + 1) n in
    elim (cases_bool (p a)) [
      | inl taken ↦ rw taken (All-cons (λ i. p i ≡ true) a (filter p (range_with_len (a + 1) n)) taken rest)
      | inr left_out ↦ rw left_out rest
    ]
