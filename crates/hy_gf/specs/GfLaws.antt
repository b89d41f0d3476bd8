-- The field of 256 elements is a field: products are linear on both sides, so its laws are computed on powers of x.
use Rattle.std.proofs.Common.{lit<, Some, true, ◌≡◌, ◌≢◌, ℕ, zero, suc, ◌+◌, ◌-◌, ◌*◌, ◌%◌, ◌^◌, ◌<◌, ◌≤◌, Bool, eqb, ltb, refl, sym, ap, ◌∙◌, arith, inl, inr}
use Rattle.std.proofs.Math.Nat.{add-zero, zero-add, one-mul, zero-mul, pow-suc, sub_self}
use Rattle.std.specs.Int.Bits.{bit_xor, xor_assoc, xor_self, xor_zero_r}
use Rattle.std.specs.Int.{bit_at}
use Rattle.std.proofs.lemmas.Nat.{xor_comm, xor_block, xor_of_8, pow_pos, mul-add-lt}
use Rattle.std.proofs.lemmas.Nat.Bits.{bit_at_xor, bit_at-lt, bit_at_cat_low, bit_at_cat_high}
use Rattle.std.proofs.lemmas.Bool.{agree_below, agree_below_at, cases_lt, cases_Bool, cond-true, cond-false, false≢true, eqb-true, eq-eqb, ltb-true}
use Rattle.std.specs.List.{find, range_with_len}
use Rattle.std.specs.Option.{unwrap_or}
use Rattle.hy_gf.specs.Field.{IsField}
use Rattle.hy_gf.specs.Gf.{gf, IsRemainder, IsElement, gf_inverse, modulus, polynomial_product, remainder, gf_product}

-- ---- sums

pub sum_pairs : (a b c d : ℕ) → bit_xor (bit_xor a b) (bit_xor c d) ≡ bit_xor (bit_xor a c) (bit_xor b d)
sum_pairs a b c d =
    xor_assoc a b (bit_xor c d)
    ∙ ap (bit_xor a) (sym (xor_assoc b c d) ∙ ap (λ x. bit_xor x d) (xor_comm b c) ∙ xor_assoc c b d)
    ∙ sym (xor_assoc a c (bit_xor b d))

-- a sum, times a power of x
shifted_sum : (a b k : ℕ) → bit_xor a b * 2 ^ k ≡ bit_xor (a * 2 ^ k) (b * 2 ^ k)
shifted_sum a b k =
    sym (ap (λ x. bit_xor x (b * 2 ^ k)) (sym (add-zero (a * 2 ^ k)))
    ∙ ap (λ x. bit_xor (a * 2 ^ k + 0) x) (sym (add-zero (b * 2 ^ k)))
    ∙ xor_block k a b 0 0 (pow_pos k) (pow_pos k)
    ∙ add-zero (bit_xor a b * 2 ^ k))

-- a coefficient times a polynomial, at the sum of two coefficients
sum_of_coefficients : (a b y : ℕ) → a < 2 → b < 2 → ((a + b) % 2) * y ≡ bit_xor (a * y) (b * y)
sum_of_coefficients zero zero y p q = rw zero-mul refl
sum_of_coefficients zero (suc zero) y p q = rw (zero-mul, one-mul) refl
sum_of_coefficients zero (suc (suc b)) y p q = absurd (omega arith)
sum_of_coefficients (suc zero) zero y p q = rw (one-mul, zero-mul) (sym (xor_zero_r y))
sum_of_coefficients (suc zero) (suc zero) y p q = rw (zero-mul, one-mul) (sym (xor_self y))
sum_of_coefficients (suc zero) (suc (suc b)) y p q = absurd (omega arith)
sum_of_coefficients (suc (suc a)) b y p q = absurd (omega arith)

bit_of_sum : (a b i y : ℕ) → bit_at (bit_xor a b) i * y ≡ bit_xor (bit_at a i * y) (bit_at b i * y)
bit_of_sum a b i y =
    ap (λ x. x * y) (bit_at_xor a b i) ∙ sum_of_coefficients (bit_at a i) (bit_at b i) y (bit_at-lt a i) (bit_at-lt b i)

-- a coefficient, times the sum of two polynomials
bit_times_sum : (a b c : ℕ) → a < 2 → a * bit_xor b c ≡ bit_xor (a * b) (a * c)
bit_times_sum zero b c p = rw (zero-mul, zero-mul, zero-mul) refl
bit_times_sum (suc zero) b c p = rw (one-mul, one-mul, one-mul) refl
bit_times_sum (suc (suc a)) b c p = absurd (omega arith)

-- ---- products are linear

polynomial_product-sum_left : (k a b c : ℕ) → polynomial_product k (bit_xor a b) c ≡ bit_xor (polynomial_product k a c) (polynomial_product k b c)
unfolding polynomial_product
polynomial_product-sum_left zero a b c = refl
polynomial_product-sum_left (suc i) a b c =
    ap (λ x. bit_xor x (bit_at (bit_xor a b) i * (c * 2 ^ i))) (polynomial_product-sum_left i a b c)
    ∙ ap (bit_xor (bit_xor (polynomial_product i a c) (polynomial_product i b c))) (bit_of_sum a b i (c * 2 ^ i))
    ∙ sum_pairs (polynomial_product i a c) (polynomial_product i b c) (bit_at a i * (c * 2 ^ i)) (bit_at b i * (c * 2 ^ i))

polynomial_product-sum_right : (k a b c : ℕ) → polynomial_product k a (bit_xor b c) ≡ bit_xor (polynomial_product k a b) (polynomial_product k a c)
unfolding polynomial_product
polynomial_product-sum_right zero a b c = refl
polynomial_product-sum_right (suc i) a b c =
    ap (λ x. bit_xor x (bit_at a i * (bit_xor b c * 2 ^ i))) (polynomial_product-sum_right i a b c)
    ∙ ap (bit_xor (bit_xor (polynomial_product i a b) (polynomial_product i a c)))
    (ap (λ x. bit_at a i * x) (shifted_sum b c i) ∙ bit_times_sum (bit_at a i) (b * 2 ^ i) (c * 2 ^ i) (bit_at-lt a i))
    ∙ sum_pairs (polynomial_product i a b) (polynomial_product i a c) (bit_at a i * (b * 2 ^ i)) (bit_at a i * (c * 2 ^ i))

remainder-sum : (k p q : ℕ) → remainder k (bit_xor p q) ≡ bit_xor (remainder k p) (remainder k q)
unfolding remainder
remainder-sum zero p q = refl
remainder-sum (suc i) p q =
    ap (remainder i)
    (ap (bit_xor (bit_xor p q)) (bit_of_sum p q (8 + i) (modulus * 2 ^ i))
    ∙ sum_pairs p q (bit_at p (8 + i) * (modulus * 2 ^ i)) (bit_at q (8 + i) * (modulus * 2 ^ i)))
    ∙ remainder-sum i (bit_xor p (bit_at p (8 + i) * (modulus * 2 ^ i))) (bit_xor q (bit_at q (8 + i) * (modulus * 2 ^ i)))

pub product-sum_left : (a b c : ℕ) → gf_product (bit_xor a b) c ≡ bit_xor (gf_product a c) (gf_product b c)
unfolding gf_product
product-sum_left a b c =
    ap (remainder 7) (polynomial_product-sum_left 8 a b c)
    ∙ remainder-sum 7 (polynomial_product 8 a c) (polynomial_product 8 b c)

pub product-sum_right : (a b c : ℕ) → gf_product a (bit_xor b c) ≡ bit_xor (gf_product a b) (gf_product a c)
unfolding gf_product
product-sum_right a b c =
    ap (remainder 7) (polynomial_product-sum_right 8 a b c)
    ∙ remainder-sum 7 (polynomial_product 8 a b) (polynomial_product 8 a c)

-- ---- what holds of linear functions at powers of x holds of them at all elements

-- a number with a highest power of x is the sum of that power and the rest
top_and_rest : (k n : ℕ) → 2 ^ k ≤ n → n < 2 ^ suc k → bit_xor (2 ^ k) (n - 2 ^ k) ≡ n
top_and_rest k n low high =
    let small : n - 2 ^ k < 2 ^ k = omega (arith, pow-suc 2 k) in
    ap (λ x. bit_xor x (n - 2 ^ k)) (sym (one-mul (2 ^ k)) ∙ sym (add-zero (1 * 2 ^ k)))
    ∙ ap (bit_xor (1 * 2 ^ k + 0)) (sym (zero-add (n - 2 ^ k)) ∙ ap (λ x. x + (n - 2 ^ k)) (sym (zero-mul (2 ^ k))))
    ∙ xor_block k 1 0 0 (n - 2 ^ k) (pow_pos k) small
    ∙ ap (λ x. x + (n - 2 ^ k)) (one-mul (2 ^ k))
    ∙ omega arith

record IsLinear (f : ℕ → ℕ) : Type 0 where
  of_sum : (a b : ℕ) → f (bit_xor a b) ≡ bit_xor (f a) (f b)

linear_at_zero : (f : ℕ → ℕ) → IsLinear f → f 0 ≡ 0
linear_at_zero f linear = linear.of_sum 0 0 ∙ xor_self (f 0)

linear_at_top : (f : ℕ → ℕ) → IsLinear f → (k n : ℕ) → 2 ^ k ≤ n → n < 2 ^ suc k → f n ≡ bit_xor (f (2 ^ k)) (f (n - 2 ^ k))
linear_at_top f linear k n low high = ap f (sym (top_and_rest k n low high)) ∙ linear.of_sum (2 ^ k) (n - 2 ^ k)

below_on_powers : (f : ℕ → ℕ) → IsLinear f → (k : ℕ) → ((i : ℕ) → i < k → f (2 ^ i) < 256) → (n : ℕ) → n < 2 ^ k → f n < 256
below_on_powers f linear zero below n small =
    let none : n ≡ 0 = omega arith in rw (none, linear_at_zero f linear) (lit< tt)
below_on_powers f linear (suc k) below n small =
    let below' : (i : ℕ) → i < k → f (2 ^ i) < 256 = λ i h. below i (omega arith) in
    elim (cases_lt n (2 ^ k)) [
      | inl low ↦ below_on_powers f linear k below' n low
      | inr high ↦ rw (linear_at_top f linear k n high small)
          (xor_of_8 (f (2 ^ k)) (f (n - 2 ^ k)) (below k (omega arith)) (below_on_powers f linear k below' (n - 2 ^ k) (omega (arith, pow-suc 2 k))))
    ]

same_on_powers : (f g : ℕ → ℕ) → IsLinear f → IsLinear g → (k : ℕ) → ((i : ℕ) → i < k → f (2 ^ i) ≡ g (2 ^ i)) → (n : ℕ) → n < 2 ^ k → f n ≡ g n
same_on_powers f g linear_f linear_g zero same n small =
    let none : n ≡ 0 = omega arith in ap f none ∙ linear_at_zero f linear_f ∙ sym (linear_at_zero g linear_g) ∙ ap g (sym none)
same_on_powers f g linear_f linear_g (suc k) same n small =
    let same' : (i : ℕ) → i < k → f (2 ^ i) ≡ g (2 ^ i) = λ i h. same i (omega arith) in
    elim (cases_lt n (2 ^ k)) [
      | inl low ↦ same_on_powers f g linear_f linear_g k same' n low
      | inr high ↦
          linear_at_top f linear_f k n high small
          ∙ ap (λ x. bit_xor x (f (n - 2 ^ k))) (same k (omega arith))
          ∙ ap (bit_xor (g (2 ^ k))) (same_on_powers f g linear_f linear_g k same' (n - 2 ^ k) (omega (arith, pow-suc 2 k)))
          ∙ sym (linear_at_top g linear_g k n high small)
    ]

linear_left : (b : ℕ) → IsLinear (λ a. gf_product a b)
linear_left b = record { of_sum = λ x y. product-sum_left x y b }

linear_right : (a : ℕ) → IsLinear (gf_product a)
linear_right a = record { of_sum = product-sum_right a }

-- ---- tests of all numbers below a bound, which are computed

abbrev pub all_below : ℕ → (ℕ → Bool) → Bool
all_below n test = agree_below test (λ _. true) n

pub at_below : (n : ℕ) (test : ℕ → Bool) → all_below n test ≡ true → (i : ℕ) → i < n → test i ≡ true
at_below n test all i small = agree_below_at test (λ _. true) n i all small

-- of all pairs of powers of x
abbrev at_pairs : (ℕ → ℕ → Bool) → Bool
at_pairs test = all_below 8 (λ i. all_below 8 (λ j. test (2 ^ i) (2 ^ j)))

at_pair : (test : ℕ → ℕ → Bool) → at_pairs test ≡ true → (i j : ℕ) → i < 8 → j < 8 → test (2 ^ i) (2 ^ j) ≡ true
at_pair test all i j p q =
    at_below 8 (λ j. test (2 ^ i) (2 ^ j)) (at_below 8 (λ i. all_below 8 (λ j. test (2 ^ i) (2 ^ j))) all i p) j q

-- ---- the product of two elements is an element

abbrev is_product_below : ℕ → ℕ → Bool
is_product_below a b = ltb (gf_product a b) 256

powers_below : at_pairs is_product_below ≡ true
unfolding gf_product polynomial_product remainder
powers_below = refl

pub product-below : (a b : ℕ) → a < 256 → b < 256 → gf_product a b < 256
product-below a b p q =
    below_on_powers (λ x. gf_product x b) (linear_left b) 8
    (λ i h. below_on_powers (gf_product (2 ^ i)) (linear_right (2 ^ i)) 8
    (λ j g. ltb-true (gf_product (2 ^ i) (2 ^ j)) 256 (at_pair is_product_below powers_below i j h g)) b q) a p

-- ---- the product is what division by the modulus leaves

-- a product with a factor of few terms reads no other bits of it
same_terms : (k a b y : ℕ) → ((i : ℕ) → i < k → bit_at a i ≡ bit_at b i) → polynomial_product k a y ≡ polynomial_product k b y
unfolding polynomial_product
same_terms zero a b y same = refl
same_terms (suc k) a b y same =
    ap (λ x. bit_xor x (bit_at a k * (y * 2 ^ k))) (same_terms k a b y (λ i h. same i (omega arith)))
    ∙ ap (λ x. bit_xor (polynomial_product k b y) (x * (y * 2 ^ k))) (same k (omega arith))

-- a factor with one more term on top
top_term : (k t q y : ℕ) → t < 2 → q < 2 ^ k → polynomial_product (suc k) (t * 2 ^ k + q) y ≡ bit_xor (polynomial_product k q y) (t * (y * 2 ^ k))
unfolding polynomial_product
top_term k t q y small below =
    ap (λ x. bit_xor x (bit_at (t * 2 ^ k + q) k * (y * 2 ^ k))) (same_terms k (t * 2 ^ k + q) q y (bit_at_cat_low t k q))
    ∙ ap (λ x. bit_xor (polynomial_product k q y) (x * (y * 2 ^ k))) (bit_at_cat_high t k q k below (omega arith) ∙ top)
  where
    top : bit_at t (k - k) ≡ t
    top = ap (bit_at t) (sub_self k) ∙ omega arith

-- what is taken away while dividing is a multiple of the modulus
multiple_of : (k p : ℕ) → (q : ℕ) × (q < 2 ^ k) × (p ≡ bit_xor (polynomial_product k q modulus) (remainder k p))
unfolding polynomial_product remainder
multiple_of zero p = (0, lit< tt, refl)
multiple_of (suc k) p =
    let t = bit_at p (8 + k) in
    let term = t * (modulus * 2 ^ k) in
    let rest = multiple_of k (bit_xor p term) in
    let small : t < 2 = bit_at-lt p (8 + k) in
    let left = remainder k (bit_xor p term) in (
      t * 2 ^ k + rest.0,
      omega (arith, mul-add-lt t (2 ^ k) rest.0 2 small rest.1, pow-suc 2 k),
      sym (xor_zero_r p)
          ∙ ap (bit_xor p) (sym (xor_self term))
          ∙ sym (xor_assoc p term term)
          ∙ ap (λ x. bit_xor x term) rest.2
          ∙ xor_assoc (polynomial_product k rest.0 modulus) left term
          ∙ ap (bit_xor (polynomial_product k rest.0 modulus)) (xor_comm left term)
          ∙ sym (xor_assoc (polynomial_product k rest.0 modulus) term left)
          ∙ ap (λ x. bit_xor x left) (sym (top_term k t rest.0 modulus small rest.1)),
    )

pub product_is_remainder : (a b : ℕ) → a < 256 → b < 256 → IsRemainder (polynomial_product 8 a b) (gf_product a b)
unfolding gf_product
product_is_remainder a b p q =
    let multiple = multiple_of 7 (polynomial_product 8 a b) in
    record { element = product-below a b p q; multiple = (multiple.0, multiple.2) }

-- ---- products commute

abbrev commute : ℕ → ℕ → Bool
commute a b = eqb (gf_product a b) (gf_product b a)

powers_commute : at_pairs commute ≡ true
unfolding gf_product polynomial_product remainder
powers_commute = refl

pub product-comm : (a b : ℕ) → a < 256 → b < 256 → gf_product a b ≡ gf_product b a
product-comm a b p q =
    same_on_powers (λ x. gf_product x b) (gf_product b) (linear_left b) (linear_right b) 8
    (λ i h. same_on_powers (gf_product (2 ^ i)) (λ y. gf_product y (2 ^ i)) (linear_right (2 ^ i)) (linear_left (2 ^ i)) 8
    (λ j g. eqb-true (gf_product (2 ^ i) (2 ^ j)) (gf_product (2 ^ j) (2 ^ i)) (at_pair commute powers_commute i j h g)) b q) a p

-- ---- products associate

abbrev associate : ℕ → ℕ → ℕ → Bool
associate a b c = eqb (gf_product (gf_product a b) c) (gf_product a (gf_product b c))

abbrev associate_with_powers : ℕ → ℕ → Bool
associate_with_powers a b = all_below 8 (λ k. associate a b (2 ^ k))

powers_associate : at_pairs associate_with_powers ≡ true
unfolding gf_product polynomial_product remainder
powers_associate = refl

-- a linear function after another
after : (f g : ℕ → ℕ) → IsLinear f → IsLinear g → IsLinear (λ x. g (f x))
after f g linear_f linear_g =
    record { of_sum = λ x y. ap g (linear_f.of_sum x y) ∙ linear_g.of_sum (f x) (f y) }

at_powers : (i j c : ℕ) → i < 8 → j < 8 → c < 256 → gf_product (gf_product (2 ^ i) (2 ^ j)) c ≡ gf_product (2 ^ i) (gf_product (2 ^ j) c)
at_powers i j c p q r =
    same_on_powers (gf_product (gf_product (2 ^ i) (2 ^ j))) (λ z. gf_product (2 ^ i) (gf_product (2 ^ j) z))
    (linear_right (gf_product (2 ^ i) (2 ^ j)))
    (after (gf_product (2 ^ j)) (gf_product (2 ^ i)) (linear_right (2 ^ j)) (linear_right (2 ^ i))) 8
    (λ k h. eqb-true (gf_product (gf_product (2 ^ i) (2 ^ j)) (2 ^ k)) (gf_product (2 ^ i) (gf_product (2 ^ j) (2 ^ k)))
    (at_below 8 (λ k. associate (2 ^ i) (2 ^ j) (2 ^ k)) (at_pair associate_with_powers powers_associate i j p q) k h)) c r

at_power : (i b c : ℕ) → i < 8 → b < 256 → c < 256 → gf_product (gf_product (2 ^ i) b) c ≡ gf_product (2 ^ i) (gf_product b c)
at_power i b c p q r =
    same_on_powers (λ y. gf_product (gf_product (2 ^ i) y) c) (λ y. gf_product (2 ^ i) (gf_product y c))
    (after (gf_product (2 ^ i)) (λ x. gf_product x c) (linear_right (2 ^ i)) (linear_left c))
    (after (λ y. gf_product y c) (gf_product (2 ^ i)) (linear_left c) (linear_right (2 ^ i))) 8
    (λ j h. at_powers i j c p h r) b q

pub product-assoc : (a b c : ℕ) → a < 256 → b < 256 → c < 256 → gf_product (gf_product a b) c ≡ gf_product a (gf_product b c)
product-assoc a b c p q r =
    same_on_powers (λ x. gf_product (gf_product x b) c) (λ x. gf_product x (gf_product b c))
    (after (λ x. gf_product x b) (λ x. gf_product x c) (linear_left b) (linear_left c)) (linear_left (gf_product b c)) 8
    (λ i h. at_power i b c h q r) a p

-- ---- a product with 1 is the other factor

abbrev keeps_one : ℕ → ℕ → Bool
keeps_one a b = eqb (gf_product a 1) a

powers_keep_one : at_pairs keeps_one ≡ true
unfolding gf_product polynomial_product remainder
powers_keep_one = refl

pub product-one : (a : ℕ) → a < 256 → gf_product a 1 ≡ a
product-one a p =
    same_on_powers (λ x. gf_product x 1) (λ x. x) (linear_left 1) (record { of_sum = λ x y. refl }) 8
    (λ i h. eqb-true (gf_product (2 ^ i) 1) (2 ^ i) (at_pair keeps_one powers_keep_one i 0 h (lit< tt))) a p

pub one-product : (a : ℕ) → a < 256 → gf_product 1 a ≡ a
one-product a p = product-comm 1 a (lit< tt) p ∙ product-one a p

pub zero-product : (a : ℕ) → gf_product 0 a ≡ 0
zero-product a = linear_at_zero (λ x. gf_product x a) (linear_left a)

-- ---- inverses

-- `a` to the power 2^i
abbrev pub square : ℕ → ℕ → ℕ
square zero a = a
square (suc i) a = let s = square i a in gf_product s s

-- the product of `a` to the powers 2, 4, .. up to 2^i
abbrev pub squares : ℕ → ℕ → ℕ
squares zero a = 1
squares (suc i) a = gf_product (squares i a) (square (suc i) a)

abbrev is_undone : ℕ → Bool
is_undone a = eqb (gf_product (suc a) (squares 7 (suc a))) 1

all_are_undone : all_below 255 is_undone ≡ true
unfolding gf_product polynomial_product remainder
all_are_undone = refl

pub square-below : (i a : ℕ) → a < 256 → square i a < 256
square-below zero a p = p
square-below (suc i) a p = product-below (square i a) (square i a) (square-below i a p) (square-below i a p)

pub squares-below : (i a : ℕ) → a < 256 → squares i a < 256
squares-below zero a p = lit< tt
squares-below (suc i) a p = product-below (squares i a) (square (suc i) a) (squares-below i a p) (square-below (suc i) a p)

-- the 254th power of an element undoes it
product-squares : (a : ℕ) → a < 256 → a ≢ 0 → gf_product a (squares 7 a) ≡ 1
product-squares zero p nonzero = absurd (nonzero refl)
product-squares (suc a) p nonzero =
    eqb-true (gf_product (suc a) (squares 7 (suc a))) 1 (at_below 255 is_undone all_are_undone a (omega arith))

-- the first number of a range that passes a test
first_found : (test : ℕ → Bool) (n a x : ℕ) → a ≤ x → x < a + n → test x ≡ true → (v : ℕ) × (find test (range_with_len a n) ≡ Some v) × (test v ≡ true) × (v < a + n)
first_found test zero a x low high pass = absurd (omega arith)
first_found test (suc n) a x low high pass =
    elim (cases_Bool (test a)) [
      | inl here ↦ (a, cond-true (test a) (Some a) (find test (range_with_len (a + 1) n)) here, here, omega arith)
      | inr not_here ↦
          let differ : a ≢ x = λ e. false≢true (sym not_here ∙ ap test e ∙ pass) in
          let later = first_found test n (a + 1) x (omega arith) (omega arith) pass in
          (later.0, cond-false (test a) (Some a) (find test (range_with_len (a + 1) n)) not_here ∙ later.1, later.2, omega (arith, later.3))
    ]

inverse_found : (a : ℕ) → a < 256 → a ≢ 0 → (gf_product a (gf_inverse a) ≡ 1) × (gf_inverse a < 256)
unfolding gf_inverse
inverse_found a p nonzero =
    let found = first_found (λ b. eqb (gf_product a b) 1) 256 0 (squares 7 a) (omega arith) (omega (arith, squares-below 7 a p)) (eq-eqb _ _ (product-squares a p nonzero)) in
    let same = ap (λ o. unwrap_or o 0) found.1 in
    (rw same (eqb-true (gf_product a found.0) 1 found.2), rw same found.3)

pub product-inverse : (a : ℕ) → a < 256 → a ≢ 0 → gf_product a (gf_inverse a) ≡ 1
product-inverse a p nonzero = (inverse_found a p nonzero).0

pub inverse-below : (a : ℕ) → a < 256 → a ≢ 0 → gf_inverse a < 256
inverse-below a p nonzero = (inverse_found a p nonzero).1

inverse_of_zero : gf_inverse 0 ≡ 0
unfolding gf_inverse gf_product polynomial_product remainder
inverse_of_zero = refl

inverse-element : (a : ℕ) → a < 256 → gf_inverse a < 256
inverse-element zero p = rw inverse_of_zero (lit< tt)
inverse-element (suc a) p = inverse-below (suc a) p (λ e. cc)

-- no other element undoes `a`
pub inverse_only : (a b : ℕ) → a < 256 → b < 256 → a ≢ 0 → gf_product a b ≡ 1 → b ≡ gf_inverse a
inverse_only a b p q nonzero undoes =
    let v = gf_inverse a in let r = inverse-below a p nonzero in
    sym (product-one b q)
    ∙ ap (gf_product b) (sym (product-inverse a p nonzero))
    ∙ sym (product-assoc b a v q p r)
    ∙ ap (λ x. gf_product x v) (product-comm b a q p ∙ undoes)
    ∙ one-product v r

pub squares-inverse : (a : ℕ) → a < 256 → a ≢ 0 → squares 7 a ≡ gf_inverse a
squares-inverse a p nonzero =
    inverse_only a (squares 7 a) p (squares-below 7 a p) nonzero (product-squares a p nonzero)

-- a quotient, times its divisor
pub quotient-product : (a b : ℕ) → a < 256 → b < 256 → b ≢ 0 → gf_product (gf_product a (gf_inverse b)) b ≡ a
quotient-product a b p q nonzero =
    let r = inverse-below b q nonzero in
    product-assoc a (gf_inverse b) b p r q
    ∙ ap (gf_product a) (product-comm (gf_inverse b) b r q ∙ product-inverse b q nonzero)
    ∙ product-one a p

-- ---- the laws

pub gf_is_field : IsField IsElement gf
gf_is_field = record {
  zero_element = lit< tt;
  one_element = lit< tt;
  sum_element = xor_of_8;
  product_element = product-below;
  inverse_element = inverse-element;
  one_zero = λ e. cc;
  sum_comm = λ a b p q. xor_comm a b;
  sum_assoc = λ a b c p q r. xor_assoc a b c;
  sum_zero = λ a p. xor_zero_r a;
  sum_self = λ a p. xor_self a;
  product_comm = product-comm;
  product_assoc = product-assoc;
  product_one = product-one;
  product_sum = λ a b c p q r. product-sum_right a b c;
  product_inverse = product-inverse;
}
