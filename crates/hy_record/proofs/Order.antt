-- The laws of the order of timestamps, and of the tests for being one.
use Rattle.std.proofs.Common.{◌≡◌, ℕ, true, false, List, refl, ap, arith}
use Rattle.std.proofs.lemmas.Bool.Decides.{nat_tests, Decides-eqb}
use Rattle.std.proofs.lemmas.Slice.Eq.{slice_eq-Decides}
use Rattle.hy_record.specs.Stamp.{Timestamp, stamp_lt, stamp_eq}
use Rattle.hy_record.specs.Key.{key_eq}

pub stamp_eq-true : (a b : Timestamp) → stamp_eq a b ≡ true → a ≡ b
unfolding stamp_eq
stamp_eq-true a b e =
    let sn : a.sn ≡ b.sn = grind (arith, nat_tests) in
    let cid : a.cid ≡ b.cid = grind (arith, nat_tests) in
    let both : (a.sn, a.cid) ≡ (b.sn, b.cid) = cc in
    let made : ℕ × ℕ → Timestamp = λ p. record { sn = p.0; cid = p.1 } in
    ap made both

pub stamp_eq-same : (a : Timestamp) → stamp_eq a a ≡ true
unfolding stamp_eq
stamp_eq-same a = grind (arith, nat_tests)

pub stamp_lt-same : (a : Timestamp) → stamp_lt a a ≡ false
unfolding stamp_lt
stamp_lt-same a = grind (arith, nat_tests)

pub stamp_lt-trans : (a b c : Timestamp) → stamp_lt a b ≡ true → stamp_lt b c ≡ true → stamp_lt a c ≡ true
unfolding stamp_lt
stamp_lt-trans a b c below above = grind (arith, nat_tests)

-- a below b, and b not above c
pub stamp_lt-le : (a b c : Timestamp) → stamp_lt a b ≡ true → stamp_lt c b ≡ false → stamp_lt a c ≡ true
unfolding stamp_lt
stamp_lt-le a b c below above = grind (arith, nat_tests)

-- a not above b, and b below c
pub stamp_le-lt : (a b c : Timestamp) → stamp_lt b a ≡ false → stamp_lt b c ≡ true → stamp_lt a c ≡ true
unfolding stamp_lt
stamp_le-lt a b c below above = grind (arith, nat_tests)

pub stamp_lt-other : (a b : Timestamp) → stamp_lt a b ≡ true → stamp_lt b a ≡ false
unfolding stamp_lt
stamp_lt-other a b below = grind (arith, nat_tests)

-- neither is below the other
pub stamp_lt-neither : (a b : Timestamp) → stamp_lt a b ≡ false → stamp_lt b a ≡ false → stamp_eq a b ≡ true
unfolding stamp_lt stamp_eq
stamp_lt-neither a b below above = grind (arith, nat_tests)

pub key_eq-true : (a b : List ℕ) → key_eq a b ≡ true → a ≡ b
unfolding key_eq
key_eq-true a b e = (slice_eq-Decides Decides-eqb a b (key_eq a b) refl).0 e

pub key_eq-same : (a : List ℕ) → key_eq a a ≡ true
unfolding key_eq
key_eq-same a = (slice_eq-Decides Decides-eqb a a (key_eq a a) refl).1 refl

-- a not below b, and b not below c
pub stamp_ge-trans : (a b c : Timestamp) → stamp_lt a b ≡ false → stamp_lt b c ≡ false → stamp_lt a c ≡ false
unfolding stamp_lt
stamp_ge-trans a b c above below = grind (arith, nat_tests)
