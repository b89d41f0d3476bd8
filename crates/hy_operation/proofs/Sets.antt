-- Sets of clouds as numbers.
use Rattle.std.proofs.Common.{◌≡◌, ℕ, zero, suc, ◌+◌, ◌*◌, ◌^◌, ◌≤◌, ◌<◌, Bool, true, false, cond, List, [], ◌∷◌, length, refl, sym, ap, subst, ◌∙◌, inl, inr, arith}
use Rattle.std.specs.Prelude.{◌==◌, filter, map, sum, count_ones, nat_lt, slice_index_or, IsTrue}
use Rattle.std.specs.List.{range_with_len}
use Rattle.std.specs.Int.{bit_at}
use Rattle.std.specs.Simd.Lanes.{mask_l}
use Rattle.std.proofs.Math.Nat.{zero-add, pow-suc, pow-le-pow_right}
use Rattle.std.proofs.Math.Numerals.{add-one}
use Rattle.std.proofs.lemmas.Bool.{lt-ltb, eq-eqb, ne_eqb}
use Rattle.std.proofs.lemmas.Bool.Decides.{nat_tests}
use Rattle.std.proofs.lemmas.List.{map-append}
use Rattle.std.proofs.lemmas.List.FromFn.{length-map-range_with_len, get_or-map-range_with_len}
use Rattle.std.proofs.lemmas.List.Sums.{length-filter, sum_by-append}
use Rattle.std.proofs.lemmas.Nat.Bits.{bit_at_above}
use Rattle.std.proofs.lemmas.Simd.{mask_l-lt, ones-mask_l, bit_mask_l}
use Rattle.hy_record.specs.Clouds.{clouds_of, set_of}
use Rattle.hy_record.specs.Record.{is_cloud_list}
use Rattle.hy_base.specs.Shape.{cloud_count, quorum_size}
use Rattle.hy_meta.proofs.Rising.{cases_bool}
use Rattle.hy_operation.proofs.Filters.{filter-passes, filter-agrees, filter-ends}

sum-cons : (x : ℕ) (xs : List ℕ) → sum (x ∷ xs) ≡ x + sum xs
sum-cons x xs = sum_by-append (λ (n : ℕ). n) (x ∷ []) xs ∙ ap (λ (m : ℕ). m + sum xs) (zero-add x)

double : (a m : ℕ) → 2 ^ (a + 1) * m ≡ 2 ^ a * (2 * m)
double a m = ap (λ (x : ℕ). x * m) (ap (λ (i : ℕ). 2 ^ i) (add-one a) ∙ pow-suc 2 a) ∙ (let e : 2 ^ a * 2 * m ≡ 2 ^ a * (2 * m) = grind arith in e)

more-bits : (x m : ℕ) → x + x * (2 * m) ≡ x * (1 + 2 * m)
more-bits x m = grind arith

-- the bits of the clouds that pass, from one place on
set-from : (p : ℕ → Bool) (a n : ℕ) → set_of (filter p (range_with_len a n)) ≡ 2 ^ a * mask_l (map p (range_with_len a n))
set-from p a zero = grind arith
set-from p a (suc n) =
    let rest = set-from p (a + 1) n ∙ double a (mask_l (map p (range_with_len (a + 1) n))) in
    elim (cases_bool (p a)) [
      | inl taken ↦ rw taken (sum-cons (2 ^ a) (map (λ cloud. 2 ^ cloud) (filter p (range_with_len (a + 1) n))) ∙ ap (λ (s : ℕ). 2 ^ a + s) rest ∙ more-bits (2 ^ a) (mask_l (map p (range_with_len (a + 1) n))))
      | inr left_out ↦ rw left_out (rest ∙ ap (λ (x : ℕ). 2 ^ a * x) (omega arith))
    ]

set-is : (p : ℕ → Bool) (n : ℕ) → set_of (filter p (range_with_len 0 n)) ≡ mask_l (map p (range_with_len 0 n))
set-is p n = set-from p 0 n ∙ omega arith

pub set-lt : (p : ℕ → Bool) (n : ℕ) → set_of (filter p (range_with_len 0 n)) < 2 ^ n
set-lt p n = subst (λ (x : ℕ). x < 2 ^ n) (sym (set-is p n)) (subst (λ (i : ℕ). mask_l (map p (range_with_len 0 n)) < 2 ^ i) (length-map-range_with_len p 0 n) (mask_l-lt (map p (range_with_len 0 n))))

pub set-ones : (p : ℕ → Bool) (n : ℕ) → count_ones (set_of (filter p (range_with_len 0 n))) ≡ length (filter p (range_with_len 0 n))
set-ones p n = ap count_ones (set-is p n) ∙ ones-mask_l p (range_with_len 0 n) ∙ sym (length-filter p (range_with_len 0 n))

-- with one more cloud a set of 16 still fits 16 bits
pub set-fits : (p : ℕ → Bool) (i : ℕ) → i < 16 → set_of (filter p (range_with_len 0 i)) + 2 ^ i < 65536
set-fits p i within =
    let low = set-lt p i in
    let high : 2 ^ i ≤ 2 ^ 15 = pow-le-pow_right {n = 2} (omega arith) {i = i} {j = 15} (omega (arith, within)) in
    bound (set_of (filter p (range_with_len 0 i))) (2 ^ i) low high
  where
    bound : (m x : ℕ) → m < x → x ≤ 32768 → m + x < 65536
    bound m x l h = omega arith

-- one more cloud
pub set-passes : (p : ℕ → Bool) (i : ℕ) → p i ≡ true → set_of (filter p (range_with_len 0 (i + 1))) ≡ set_of (filter p (range_with_len 0 i)) + 2 ^ i
set-passes p i taken =
    ap set_of (filter-passes p i taken) ∙ ap sum (map-append (λ (cloud : ℕ). 2 ^ cloud) (filter p (range_with_len 0 i)) (i ∷ []))
    ∙ sum_by-append (λ (n : ℕ). n) (map (λ cloud. 2 ^ cloud) (filter p (range_with_len 0 i))) (2 ^ i ∷ []) ∙ ap (λ (m : ℕ). set_of (filter p (range_with_len 0 i)) + m) (zero-add (2 ^ i))

-- a quorum of a store's clouds is a list that a record can have
pub quorum-is-list : (p : ℕ → Bool) (f k set count : ℕ) → set ≡ set_of (filter p (range_with_len 0 (cloud_count f k))) → count ≡ length (filter p (range_with_len 0 (cloud_count f k))) → count ≡ quorum_size f k
    → IsTrue (is_cloud_list f k set)
quorum-is-list p f k set count is counted enough =
    let low : nat_lt set (2 ^ cloud_count f k) ≡ true = lt-ltb set (2 ^ cloud_count f k) (subst (λ (m : ℕ). m < 2 ^ cloud_count f k) (sym is) (set-lt p (cloud_count f k))) in
    let ones : count_ones set ≡ quorum_size f k = ap count_ones is ∙ set-ones p (cloud_count f k) ∙ sym counted ∙ enough in
    let even : (count_ones set == quorum_size f k) ≡ true = grind (arith, nat_tests, ones) in
    rw (low, even) refl

-- the bits of a set are its clouds
bit-inside : (p : ℕ → Bool) (n i : ℕ) → i < n → (bit_at (set_of (filter p (range_with_len 0 n))) i == 1) ≡ p i
bit-inside p n i within =
    let at_it : slice_index_or (map p (range_with_len 0 n)) i false ≡ p i = get_or-map-range_with_len p 0 n i i false within (zero-add i) in
    told (p i) (ap (λ (s : ℕ). bit_at s i) (set-is p n) ∙ bit_mask_l (map p (range_with_len 0 n)) i ∙ ap (λ (b : Bool). cond b 1 0) at_it)
  where
    told : (b : Bool) → bit_at (set_of (filter p (range_with_len 0 n))) i ≡ cond b 1 0 → (bit_at (set_of (filter p (range_with_len 0 n))) i == 1) ≡ b
    told true is = eq-eqb (bit_at (set_of (filter p (range_with_len 0 n))) i) 1 is
    told false is = ne_eqb (bit_at (set_of (filter p (range_with_len 0 n))) i) 1 (λ e. omega (arith, is, e))

bit-outside : (p : ℕ → Bool) (n i : ℕ) → n ≤ i → (bit_at (set_of (filter p (range_with_len 0 n))) i == 1) ≡ false
bit-outside p n i above =
    let none = bit_at_above (set_of (filter p (range_with_len 0 n))) n i (set-lt p n) above in
    ne_eqb (bit_at (set_of (filter p (range_with_len 0 n))) i) 1 (λ e. omega (arith, none, e))

-- the clouds of a set are those that it was made of
pub clouds-of-set : (p : ℕ → Bool) (n : ℕ) → n ≤ 16 → clouds_of (set_of (filter p (range_with_len 0 n))) ≡ filter p (range_with_len 0 n)
unfolding clouds_of
clouds-of-set p n few =
    filter-ends (λ cloud. bit_at (set_of (filter p (range_with_len 0 n))) cloud == 1) 0 n 16 few (λ i from below. bit-outside p n i (omega (arith, from)))
    ∙ filter-agrees (λ cloud. bit_at (set_of (filter p (range_with_len 0 n))) cloud == 1) p 0 n (λ i below. bit-inside p n i (omega (arith, below)))
