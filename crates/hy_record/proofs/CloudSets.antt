-- How many clouds a set has, and which.
use Rattle.std.proofs.Math.Numerals.{add-one}
use Rattle.std.proofs.Common.{cond, ◌≡◌, ℕ, zero, suc, ◌+◌, ◌/◌, ◌%◌, ◌^◌, ◌<◌, ◌≤◌, Bool, true, false, List, ◌∷◌, length, refl, sym, ap, ◌∙◌, arith, inl, inr}
use Rattle.std.specs.Prelude.{All, ◌==◌, ◌⊎◌, filter, count_ones}
use Rattle.std.specs.List.{range_with_len}
use Rattle.std.specs.Int.{bit_at}
use Rattle.std.specs.Int.Count.{ones_step, ones-le}
use Rattle.std.proofs.Math.Nat.{pow-suc, pow-le-pow_right}
use Rattle.std.proofs.lemmas.Bool.{cases_lt, eqb-true}
use Rattle.std.proofs.lemmas.Bool.Decides.{nat_tests}
use Rattle.std.proofs.lemmas.Nat.Bits.{bit_at_lowest, bit_at-suc, bit_at-lt, bit_at_above}
use Rattle.hy_base.specs.Shape.{cloud_count, quorum_size}
use Rattle.hy_record.specs.Clouds.{clouds_of}
use Rattle.hy_record.specs.Record.{RecordValue, IsRecord, most_faults, is_part_count}
use Rattle.hy_base.specs.declared.limits.TheConstants.{MAX_K}
use Rattle.hy_record.specs.declared.kind.Kind.{Kind}
use Rattle.hy_record.specs.declared.kind.Kind.TheVariants.{Tomb, Whole, Coded}
use Rattle.std.proofs.lemmas.List.Elements.{All-nil, All-cons}

-- the bits from one place on, so many of them
abbrev bits_from : ℕ → ℕ → ℕ → List ℕ
bits_from set place count = filter (λ cloud. bit_at set cloud == 1) (range_with_len place count)

bit_count : (bit : ℕ) (rest : List ℕ) (place : ℕ) → bit < 2 → length (cond (bit == 1) (place ∷ rest) rest) ≡ bit + length rest
bit_count zero rest place below = omega arith
bit_count (suc zero) rest place below = omega arith
bit_count (suc (suc n)) rest place below = absurd (omega arith)

length-bits : (set place count : ℕ) → length (bits_from set place (suc count)) ≡ bit_at set place + length (bits_from set (place + 1) count)
length-bits set place count = bit_count (bit_at set place) (bits_from set (place + 1) count) place (bit_at-lt set place)

shifted : (set place count : ℕ) → length (bits_from set (place + 1) count) ≡ length (bits_from (set / 2) place count)
shifted set place zero = refl
shifted set place (suc count) =
    let bit : bit_at set (place + 1) ≡ bit_at (set / 2) place = ap (λ (n : ℕ). bit_at set n) (add-one place) ∙ bit_at-suc set place in
    length-bits set (place + 1) count ∙ ap (λ (n : ℕ). n + length (bits_from set (place + 1 + 1) count)) bit ∙ ap (λ (n : ℕ). bit_at (set / 2) place + n) (shifted set (place + 1) count) ∙ sym (length-bits (set / 2) place count)

half_below : (set count : ℕ) → set < 2 ^ suc count → set / 2 < 2 ^ count
half_below set count below = let double = pow-suc 2 count in omega arith

count-bits : (count set : ℕ) → set < 2 ^ count → length (bits_from set 0 count) ≡ count_ones set
count-bits zero set below = let none = ones-le 0 set below in omega arith
count-bits (suc count) set below =
    length-bits set 0 count ∙ ap (λ (n : ℕ). n + length (bits_from set (0 + 1) count)) (bit_at_lowest set) ∙ ap (λ (n : ℕ). set % 2 + n) (shifted set 0 count ∙ count-bits count (set / 2) (half_below set count below)) ∙ sym (ones_step set)

-- a set has as many clouds as its number has bits
pub length-clouds_of : (set : ℕ) → set < 2 ^ 16 → length (clouds_of set) ≡ count_ones set
unfolding clouds_of
length-clouds_of set below = count-bits 16 set below

cases_bit : (b : Bool) → (b ≡ true) ⊎ (b ≡ false)
cases_bit true = inl refl
cases_bit false = inr refl

wider : (set a b : ℕ) → set < a → a ≤ b → set < b
wider set a b below wide = omega arith

coded_parts : (k : ℕ) → is_part_count Coded k ≡ true → k ≤ MAX_K
coded_parts k parts = grind (arith, nat_tests)

most_clouds : (kind : Kind) (f k : ℕ) → f ≤ most_faults kind → is_part_count kind k ≡ true → cloud_count f k ≤ 16
most_clouds Tomb f k few parts = let none : k ≡ 0 = eqb-true k 0 parts in omega arith
most_clouds Whole f k few parts = let one : k ≡ 1 = eqb-true k 1 parts in omega arith
most_clouds Coded f k few parts = let some : k ≤ MAX_K = coded_parts k parts in omega arith

-- no cloud of a set is beyond its number's bits
below-bits : (set n : ℕ) → set < 2 ^ n → (count place : ℕ) → All (λ cloud. cloud < n) (bits_from set place count)
below-bits set n small zero place = All-nil (λ cloud. cloud < n)
below-bits set n small (suc count) place =
    let rest = below-bits set n small count (place + 1) in
    elim (cases_lt place n) [
      | inl inside ↦ elim (cases_bit (bit_at set place == 1)) [
        | inl there ↦ rw there (All-cons (λ cloud. cloud < n) place (bits_from set (place + 1) count) inside rest)
        | inr absent ↦ rw absent rest
      ]
      | inr beyond ↦ let none : bit_at set place ≡ 0 = bit_at_above set n place small beyond in rw none rest
    ]

-- the clouds of a record are a quorum of those of its store
pub quorum-clouds : (r : RecordValue) → IsRecord r → (length (clouds_of r.clouds) ≡ quorum_size r.f r.k) × All (λ cloud. cloud < cloud_count r.f r.k) (clouds_of r.clouds)
unfolding clouds_of
quorum-clouds r ruled =
    let n = cloud_count r.f r.k in
    let below : r.clouds < 2 ^ cloud_count r.f r.k = let h = ruled.clouds in grind (arith, nat_tests) in
    let count : count_ones r.clouds ≡ quorum_size r.f r.k = let h = ruled.clouds in grind (arith, nat_tests) in
    let most : cloud_count r.f r.k ≤ 16 = most_clouds r.kind r.f r.k ruled.faults ruled.parts in
    let wide : 2 ^ cloud_count r.f r.k ≤ 2 ^ 16 = pow-le-pow_right {n = 2} (omega arith) {i = cloud_count r.f r.k} {j = 16} most in
    let small : r.clouds < 2 ^ 16 = wider r.clouds (2 ^ cloud_count r.f r.k) (2 ^ 16) below wide in
    (length-clouds_of r.clouds small ∙ count, below-bits r.clouds (cloud_count r.f r.k) below 16 0)
