-- Sets of clouds as numbers, and how many clouds pass a test.
use Rattle.std.proofs.Common.{◌≡◌, ℕ, zero, suc, ◌+◌, ◌*◌, ◌^◌, ◌/◌, ◌%◌, ◌≤◌, ◌<◌, Bool, true, false, cond, not, List, [], ◌∷◌, length, map, filter, refl, sym, ap, ◌∙◌, inl, inr, arith}
use Rattle.std.specs.Prelude.{◌==◌, ◌⊎◌}
use Rattle.std.specs.Int.{bit_at}
use Rattle.std.specs.List.{AllByRecursion, range_with_len}
use Rattle.std.proofs.Math.Nat.{mul-add, mul_assoc, mul-one}
use Rattle.std.proofs.lemmas.Bool.{eq-eqb, ne_eqb, false≢true}
use Rattle.std.proofs.lemmas.Grind.{pow_more}
use Rattle.std.proofs.lemmas.List.Sums.{sum_by-cons}
use Rattle.std.proofs.lemmas.Nat.Bits.{bit_at-zero, bit_at-suc, bit_at_lowest}
use Rattle.hy_record.specs.Clouds.{clouds_of}
use Rattle.hy_meta.proofs.Rising.{cases_bool}
use Rattle.hy_record.specs.Clouds.{set_of}

-- the number whose bits tell the test's answers from this cloud on
digits : (ℕ → Bool) → ℕ → ℕ → ℕ
digits test a zero = 0
digits test a (suc n) = cond (test a) 1 0 + 2 * digits test (a + 1) n

-- a set of clouds from this one on is such a number
set-digits : (test : ℕ → Bool) (a n : ℕ) → set_of (filter test (range_with_len a n)) ≡ 2 ^ a * digits test a n
unfolding digits
set-digits test a zero = omega arith
set-digits test a (suc n) =
    let later = set-digits test (a + 1) n in
    let power = pow_more 2 a in
    let whole : 2 ^ (a + 1) * digits test (a + 1) n ≡ 2 ^ a * (2 * digits test (a + 1) n) = ap (λ (x : ℕ). x * digits test (a + 1) n) power ∙ mul_assoc (2 ^ a) 2 (digits test (a + 1) n) in
    by_first (test a) (later ∙ whole)
  where
    by_first : (b : Bool) → set_of (filter test (range_with_len (a + 1) n)) ≡ 2 ^ a * (2 * digits test (a + 1) n) → set_of (cond b (a ∷ filter test (range_with_len (a + 1) n)) (filter test (range_with_len (a + 1) n))) ≡ 2 ^ a * (cond b 1 0 + 2 * digits test (a + 1) n)
    by_first true is =
        let more = sum_by-cons (λ (x : ℕ). x) (2 ^ a) (map (λ cloud. 2 ^ cloud) (filter test (range_with_len (a + 1) n))) in
        let parts = mul-add (2 ^ a) 1 (2 * digits test (a + 1) n) in
        let one_ = mul-one (2 ^ a) in
        more ∙ (ap (λ (x : ℕ). 2 ^ a + x) is ∙ (ap (λ (x : ℕ). x + 2 ^ a * (2 * digits test (a + 1) n)) (sym one_) ∙ sym parts))
    by_first false is = is ∙ ap (λ (x : ℕ). 2 ^ a * x) (omega arith)

half : (b : Bool) (d : ℕ) → ((cond b 1 0 + 2 * d) / 2 ≡ d) × ((cond b 1 0 + 2 * d) % 2 ≡ cond b 1 0)
half true d = (omega arith, omega arith)
half false d = (omega arith, omega arith)

-- its bits
bit-inside : (test : ℕ → Bool) (a n i : ℕ) → i < n → bit_at (digits test a n) i ≡ cond (test (a + i)) 1 0
unfolding digits
bit-inside test a zero i within = absurd (omega (arith, within))
bit-inside test a (suc n) zero within = bit_at_lowest (digits test a (suc n)) ∙ ((half (test a) (digits test (a + 1) n)).1 ∙ ap (λ (x : ℕ). cond (test x) 1 0) (omega arith))
bit-inside test a (suc n) (suc i) within =
    bit_at-suc (digits test a (suc n)) i ∙ (ap (λ (x : ℕ). bit_at x i) (half (test a) (digits test (a + 1) n)).0 ∙ (bit-inside test (a + 1) n i (omega (arith, within)) ∙ ap (λ (x : ℕ). cond (test x) 1 0) (omega arith)))

bit-outside : (test : ℕ → Bool) (a n i : ℕ) → n ≤ i → bit_at (digits test a n) i ≡ 0
unfolding digits
bit-outside test a zero i above = bit_at-zero i
bit-outside test a (suc n) zero above = absurd (omega (arith, above))
bit-outside test a (suc n) (suc i) above =
    bit_at-suc (digits test a (suc n)) i ∙ (ap (λ (x : ℕ). bit_at x i) (half (test a) (digits test (a + 1) n)).0 ∙ bit-outside test (a + 1) n i (omega (arith, above)))

-- two tests that agree on a range pass the same numbers
filter-agrees : (p q : ℕ → Bool) (a n m : ℕ) → n ≤ m → ((i : ℕ) → i < n → p (a + i) ≡ q (a + i)) → ((i : ℕ) → n ≤ i → i < m → p (a + i) ≡ false) → filter p (range_with_len a m) ≡ filter q (range_with_len a n)
filter-agrees p q a zero zero le inside outside = refl
filter-agrees p q a (suc n) zero le inside outside = absurd (omega (arith, le))
filter-agrees p q a zero (suc m) le inside outside =
    let here : p a ≡ false = ap p (omega arith) ∙ outside 0 (omega arith) (omega arith) in
    rw here (filter-agrees p q (a + 1) zero m (omega arith) (λ i less. absurd (omega (arith, less))) (λ i above less. ap p (omega arith) ∙ outside (i + 1) (omega arith) (omega (arith, less))))
filter-agrees p q a (suc n) (suc m) le inside outside =
    let here : p a ≡ q a = ap p (omega arith) ∙ (inside 0 (omega arith) ∙ ap q (omega arith)) in
    let later = filter-agrees p q (a + 1) n m (omega (arith, le)) (λ i less. ap p (omega arith) ∙ (inside (i + 1) (omega (arith, less)) ∙ ap q (omega arith))) (λ i above less. ap p (omega arith) ∙ outside (i + 1) (omega (arith, above)) (omega (arith, less))) in
    ap (λ (b : Bool). cond b (a ∷ filter p (range_with_len (a + 1) m)) (filter p (range_with_len (a + 1) m))) here ∙ ap (λ (xs : List ℕ). cond (q a) (a ∷ xs) xs) later

-- the clouds of a set are those that it was made of
pub clouds-of-set : (test : ℕ → Bool) (n : ℕ) → n ≤ 16 → clouds_of (set_of (filter test (range_with_len 0 n))) ≡ filter test (range_with_len 0 n)
unfolding clouds_of
clouds-of-set test n few =
    let is : set_of (filter test (range_with_len 0 n)) ≡ digits test 0 n = set-digits test 0 n ∙ omega arith in
    rw is (filter-agrees (λ cloud. bit_at (digits test 0 n) cloud == 1) test 0 n 16 few
    (λ i less. passes i (test (0 + i)) (ap (λ (x : ℕ). bit_at (digits test 0 n) x) (omega arith) ∙ bit-inside test 0 n i less))
    (λ i above less. (let zero_ = bit-outside test 0 n i above in let same : bit_at (digits test 0 n) (0 + i) ≡ bit_at (digits test 0 n) i = ap (λ (x : ℕ). bit_at (digits test 0 n) x) (omega arith) in ne_eqb (bit_at (digits test 0 n) (0 + i)) 1 (λ e. omega (arith, zero_, same, e)))))
  where
    passes : (i : ℕ) (b : Bool) → bit_at (digits test 0 n) (0 + i) ≡ cond b 1 0 → (bit_at (digits test 0 n) (0 + i) == 1) ≡ b
    passes i true is = eq-eqb (bit_at (digits test 0 n) (0 + i)) 1 is
    passes i false is = ne_eqb (bit_at (digits test 0 n) (0 + i)) 1 (λ e. omega (arith, is, e))

-- the numbers that pass are low
passes-low : (p : ℕ → Bool) (a m b i : ℕ) → AllByRecursion (λ cloud. cloud < b) (filter p (range_with_len a m)) → i < m → p (a + i) ≡ true → a + i < b
passes-low p a zero b i all less is = absurd (omega (arith, less))
passes-low p a (suc m) b zero all less is = (let here : p a ≡ true = ap p (omega arith) ∙ is in let low = (rw here at all).0 in omega (arith, low))
passes-low p a (suc m) b (suc i) all less is =
    let later = passes-low p (a + 1) m b i (rest (p a) all) (omega (arith, less)) (ap p (omega arith) ∙ is) in omega (arith, later)
  where
    rest : (c : Bool) → AllByRecursion (λ cloud. cloud < b) (cond c (a ∷ filter p (range_with_len (a + 1) m)) (filter p (range_with_len (a + 1) m))) → AllByRecursion (λ cloud. cloud < b) (filter p (range_with_len (a + 1) m))
    rest true h = h.1
    rest false h = h

-- a set of clouds of the store, as a part of these
pub clouds-within : (set n : ℕ) → n ≤ 16 → AllByRecursion (λ cloud. cloud < n) (clouds_of set) → clouds_of set ≡ filter (λ cloud. bit_at set cloud == 1) (range_with_len 0 n)
unfolding clouds_of
clouds-within set n few low =
    filter-agrees (λ cloud. bit_at set cloud == 1) (λ cloud. bit_at set cloud == 1) 0 n 16 few (λ i less. refl)
    (λ i above less. fails (0 + i) (bit_at set (0 + i) == 1) (λ is. (let small = passes-low (λ cloud. bit_at set cloud == 1) 0 16 n i low less is in omega (arith, small, above))))
  where
    fails : (i : ℕ) (b : Bool) → (b ≡ true → ⊥) → b ≡ false
    fails i true never = absurd (never refl)
    fails i false never = refl

-- counts

pub more-pass : {A : Type 0} (p q : A → Bool) (xs : List A) → AllByRecursion (λ x. p x ≡ true → q x ≡ true) xs → length (filter p xs) ≤ length (filter q xs)
more-pass p q [] all = omega arith
more-pass p q (x ∷ xs) all = by_tests (p x) (q x) all.0 (more-pass p q xs all.1)
  where
    by_tests : (b c : Bool) → (b ≡ true → c ≡ true) → length (filter p xs) ≤ length (filter q xs) → length (cond b (x ∷ filter p xs) (filter p xs)) ≤ length (cond c (x ∷ filter q xs) (filter q xs))
    by_tests true true h le = omega (arith, le)
    by_tests true false h le = absurd (false≢true (h refl))
    by_tests false true h le = omega (arith, le)
    by_tests false false h le = le

pub both-pass : {A : Type 0} (p q : A → Bool) (xs : List A) → length (filter p (filter q xs)) ≤ length (filter p xs)
both-pass p q [] = omega arith
both-pass p q (x ∷ xs) = by_tests (q x) (cases_bool (p x)) (both-pass p q xs)
  where
    by_tests : (c : Bool) → (p x ≡ true) ⊎ (p x ≡ false) → length (filter p (filter q xs)) ≤ length (filter p xs) → length (filter p (cond c (x ∷ filter q xs) (filter q xs))) ≤ length (cond (p x) (x ∷ filter p xs) (filter p xs))
    by_tests true (inl is) le = rw is (omega (arith, le))
    by_tests true (inr is) le = rw is le
    by_tests false (inl is) le = rw is (omega (arith, le))
    by_tests false (inr is) le = rw is le

pub split-count : {A : Type 0} (p : A → Bool) (xs : List A) → length (filter p xs) + length (filter (λ x. not (p x)) xs) ≡ length xs
split-count p [] = refl
split-count p (x ∷ xs) = by_test (p x) (split-count p xs)
  where
    by_test : (b : Bool) → length (filter p xs) + length (filter (λ x. not (p x)) xs) ≡ length xs → length (cond b (x ∷ filter p xs) (filter p xs)) + length (cond (not b) (x ∷ filter (λ x. not (p x)) xs) (filter (λ x. not (p x)) xs)) ≡ length (x ∷ xs)
    by_test true is = omega (arith, is)
    by_test false is = omega (arith, is)

-- of a list of clouds that holds all but few of a kind, enough are of the other kind
pub enough-honest : (liar test : ℕ → Bool) (f k n : ℕ) → length (filter liar (range_with_len 0 n)) ≤ f → f + k ≤ length (filter test (range_with_len 0 n)) → k ≤ length (filter (λ x. not (liar x)) (filter test (range_with_len 0 n)))
enough-honest liar test f k n few enough =
    let some = both-pass liar test (range_with_len 0 n) in
    let parts = split-count liar (filter test (range_with_len 0 n)) in
    omega (arith, few, enough, some, parts)

pub range-low : (test : ℕ → Bool) (a n : ℕ) → AllByRecursion (λ cloud. cloud < a + n) (filter test (range_with_len a n))
range-low test a zero = tt
range-low test a (suc n) = by_first (test a) (lower (filter test (range_with_len (a + 1) n)) (range-low test (a + 1) n))
  where
    lower : (xs : List ℕ) → AllByRecursion (λ cloud. cloud < a + 1 + n) xs → AllByRecursion (λ cloud. cloud < a + suc n) xs
    lower [] all = tt
    lower (x ∷ xs) all = (let less = all.0 in omega (arith, less), lower xs all.1)

    by_first : (b : Bool) → AllByRecursion (λ cloud. cloud < a + suc n) (filter test (range_with_len (a + 1) n)) → AllByRecursion (λ cloud. cloud < a + suc n) (cond b (a ∷ filter test (range_with_len (a + 1) n)) (filter test (range_with_len (a + 1) n)))
    by_first true rest = (omega arith, rest)
    by_first false rest = rest
