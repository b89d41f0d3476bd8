-- Sets of clouds and their lists: each is had of the other.
use Rattle.std.proofs.Common.{◌≡◌, ◌==◌, ℕ, zero, suc, ◌+◌, ◌-◌, ◌*◌, ◌/◌, ◌%◌, ◌^◌, ◌<◌, ◌≤◌, Bool, true, false, cond, List, [], ◌∷◌, filter, refl, sym, ap, subst, ◌∙◌, add-one, add-zero, pow-add, arith}
use Rattle.std.proofs.Math.Nat.{pow-suc, div-div-eq-div-mul}
use Rattle.std.proofs.Math.Pow.{pow_mono}
use Rattle.std.proofs.lemmas.Bool.{eqb-true, eqb-false}
use Rattle.std.specs.Int.{bit_at}
use Rattle.std.specs.List.{range_with_len}
use Rattle.hy_record.specs.Clouds.{clouds_of}
use Rattle.hy_text.specs.Clouds.{AreRising, set_of_clouds}

twice : (n : ℕ) → 2 ^ (n + 1) ≡ 2 ^ n + 2 ^ n
twice n = rw (add-one, pow-suc) (omega arith)

-- ---- the bits of a number

-- the places of the bits of a number, of so many bits, the lowest of which is at this place
abbrev bits : ℕ → ℕ → ℕ → List ℕ
bits zero place number = []
bits (suc count) place number = cond (number % 2 == 1) (place ∷ bits count (place + 1) (number / 2)) (bits count (place + 1) (number / 2))

bits-filter : (set place count : ℕ) → filter (λ cloud. bit_at set cloud == 1) (range_with_len place count) ≡ bits count place (set / 2 ^ place)
bits-filter set place zero = refl
bits-filter set place (suc count) =
    let double : 2 ^ (place + 1) ≡ 2 ^ place * 2 = omega (arith, twice place) in
    let half : set / 2 ^ (place + 1) ≡ set / 2 ^ place / 2 = ap (λ n. set / n) double ∙ sym (div-div-eq-div-mul set (2 ^ place) 2) in
    let more : filter (λ cloud. bit_at set cloud == 1) (range_with_len (place + 1) count) ≡ bits count (place + 1) (set / 2 ^ place / 2) = bits-filter set (place + 1) count ∙ ap (bits count (place + 1)) half in
    ap (λ rest. cond (bit_at set place == 1) (place ∷ rest) rest) more

clouds_of-bits : (set : ℕ) → clouds_of set ≡ bits 16 0 set
unfolding clouds_of
clouds_of-bits set = let one : set / 2 ^ 0 ≡ set = omega arith in bits-filter set 0 16 ∙ ap (bits 16 0) one

bits-zero : (count place : ℕ) → bits count place 0 ≡ []
bits-zero zero place = refl
bits-zero (suc count) place = bits-zero count (place + 1)

-- the first bit that is there, with so many places without a bit before it
bits-first : (gap count more place rest number : ℕ) → count ≡ gap + more → number ≡ 2 ^ gap * (1 + 2 * rest) → bits (suc count) place number ≡ (place + gap) ∷ bits more (place + gap + 1) rest
bits-first zero count more place rest number counted is =
    let odd : number % 2 ≡ 1 = omega arith in
    let half : number / 2 ≡ rest = omega arith in
    let same : count ≡ more = omega arith in
    rw (odd, half, same, add-zero place) refl
bits-first (suc gap) count more place rest number counted is =
    let double : number ≡ 2 * (2 ^ gap * (1 + 2 * rest)) = is ∙ rw pow-suc (omega arith) in
    let even : number % 2 ≡ 0 = omega (arith, double) in
    let half : number / 2 ≡ 2 ^ gap * (1 + 2 * rest) = omega (arith, double) in
    let same : count ≡ suc (gap + more) = omega arith in
    let next : place + 1 + gap ≡ place + suc gap = omega arith in
    rw (even, half, same) (bits-first gap (gap + more) more (place + 1) rest (2 ^ gap * (1 + 2 * rest)) refl refl ∙ ap (λ n. n ∷ bits more (n + 1) rest) next)

-- ---- the set of a list

scaled : (low wide rest bit double set : ℕ) → bit ≡ low * wide → double ≡ bit + bit → set ≡ double * rest → bit + set ≡ low * (wide * (1 + 2 * rest))
scaled low wide rest bit double set is twice_is set_is = rw (set_is, twice_is, is) (omega arith)

-- the set of clouds from the least on is a multiple of the least one's bit, and the bits of it are the clouds
record IsSetFrom (least last : ℕ) (clouds : List ℕ) : Type 0 where
  number : ℕ
  is : set_of_clouds clouds ≡ 2 ^ least * number
  places : (count : ℕ) → last < least + count → bits count least number ≡ clouds

rising-set : (least last : ℕ) (clouds : List ℕ) → AreRising least last clouds → IsSetFrom least last clouds
rising-set least last [] are = record { number = 0; is = omega arith; places = λ count long. bits-zero count least }
rising-set least last (cloud ∷ clouds) are =
    let more = rising-set (cloud + 1) last clouds are.2 in
    let low : least ≤ cloud = are.0 in
    let high : cloud ≤ last = are.1 in
    let gap : ℕ = cloud - least in
    let here : cloud ≡ least + gap = omega arith in
    let bit : 2 ^ cloud ≡ 2 ^ least * 2 ^ gap = ap (λ n. 2 ^ n) here ∙ pow-add 2 least gap in
    record {
      number = 2 ^ gap * (1 + 2 * more.number);
      is = scaled (2 ^ least) (2 ^ gap) more.number (2 ^ cloud) (2 ^ (cloud + 1)) (set_of_clouds clouds) bit (twice cloud) more.is;
      places = λ count long.
          let left : ℕ = count - gap - 1 in
          let counted : count ≡ suc (gap + left) = omega arith in
          let first = bits-first gap (gap + left) left least more.number (2 ^ gap * (1 + 2 * more.number)) refl refl in
          let rest : bits left (least + gap + 1) more.number ≡ clouds = ap (λ n. bits left (n + 1) more.number) (sym here) ∙ more.places left (omega arith) in
          ap (λ n. bits n least (2 ^ gap * (1 + 2 * more.number))) counted ∙ first ∙ ap (λ n. n ∷ bits left (least + gap + 1) more.number) (sym here) ∙ ap (λ ns. cloud ∷ ns) rest;
    }

-- the clouds of the set of a list are the list
pub clouds_of-set : (last : ℕ) (clouds : List ℕ) → last < 16 → AreRising 0 last clouds → clouds_of (set_of_clouds clouds) ≡ clouds
clouds_of-set last clouds few are =
    let set = rising-set 0 last clouds are in
    let same : set_of_clouds clouds ≡ set.number = omega (arith, set.is) in
    clouds_of-bits (set_of_clouds clouds) ∙ ap (bits 16 0) same ∙ set.places 16 (omega arith)

-- the set of a list stays below the bit after its last one
set-small : (least last : ℕ) (clouds : List ℕ) → least ≤ last + 1 → AreRising least last clouds → set_of_clouds clouds + 2 ^ least ≤ 2 ^ (last + 1)
set-small least last [] within are = let low : 2 ^ least ≤ 2 ^ (last + 1) = pow_mono within in omega arith
set-small least last (cloud ∷ clouds) within are =
    let high : cloud ≤ last = are.1 in
    let more = set-small (cloud + 1) last clouds (omega arith) are.2 in
    let low : 2 ^ least ≤ 2 ^ cloud = pow_mono are.0 in
    omega (arith, more, twice cloud)

pub set_of_clouds-lt : (last : ℕ) (clouds : List ℕ) → AreRising 0 last clouds → set_of_clouds clouds < 2 ^ (last + 1)
set_of_clouds-lt last clouds are = omega (arith, set-small 0 last clouds (omega arith) are)

-- ---- the list of a set

half_below : (number count : ℕ) → number < 2 ^ suc count → number / 2 < 2 ^ count
half_below number count below = let double = pow-suc 2 count in omega arith

doubled : (bit double half number : ℕ) → double ≡ bit + bit → number ≡ 1 + 2 * half → bit + double * half ≡ bit * number
doubled bit double half number double_is is = rw (double_is, is) (omega arith)

doubled_even : (bit double half number : ℕ) → double ≡ bit + bit → number ≡ 2 * half → double * half ≡ bit * number
doubled_even bit double half number double_is is = rw (double_is, is) (omega arith)

set-bits : (count place number : ℕ) → number < 2 ^ count → set_of_clouds (bits count place number) ≡ 2 ^ place * number
set-bits zero place number small = let none : number ≡ 0 = omega arith in rw none (omega arith)
set-bits (suc count) place number small = by (number % 2 == 1) refl (set-bits count (place + 1) (number / 2) (half_below number count small))
  where
    by : (t : Bool) → (number % 2 == 1) ≡ t → set_of_clouds (bits count (place + 1) (number / 2)) ≡ 2 ^ (place + 1) * (number / 2)
        → set_of_clouds (cond t (place ∷ bits count (place + 1) (number / 2)) (bits count (place + 1) (number / 2))) ≡ 2 ^ place * number
    by true odd rest = let one = eqb-true (number % 2) 1 odd in ap (λ n. 2 ^ place + n) rest ∙ doubled (2 ^ place) (2 ^ (place + 1)) (number / 2) number (twice place) (omega arith)
    by false even rest = let none = eqb-false (number % 2) 1 even in rest ∙ doubled_even (2 ^ place) (2 ^ (place + 1)) (number / 2) number (twice place) (omega arith)

-- the set of the list of a set is the set
pub set_of_clouds-clouds_of : (set : ℕ) → set < 2 ^ 16 → set_of_clouds (clouds_of set) ≡ set
set_of_clouds-clouds_of set small = ap set_of_clouds (clouds_of-bits set) ∙ set-bits 16 0 set small ∙ omega arith

lower : (least low last : ℕ) (clouds : List ℕ) → low ≤ least → AreRising least last clouds → AreRising low last clouds
lower least low last [] below are = tt
lower least low last (cloud ∷ clouds) below are = (omega (arith, are.0), are.1, are.2)

rising-bits : (count place number more last : ℕ) → number < 2 ^ more → place + more ≡ last + 1 → AreRising place last (bits count place number)
rising-bits zero place number more last small within = tt
rising-bits (suc count) place number zero last small within =
    let none : number ≡ 0 = omega arith in
    subst (AreRising place last) (sym (bits-zero (suc count) place) ∙ ap (bits (suc count) place) (sym none)) tt
rising-bits (suc count) place number (suc more) last small within = by (number % 2 == 1) (rising-bits count (place + 1) (number / 2) more last (half_below number more small) (omega arith))
  where
    by : (t : Bool) → AreRising (place + 1) last (bits count (place + 1) (number / 2)) → AreRising place last (cond t (place ∷ bits count (place + 1) (number / 2)) (bits count (place + 1) (number / 2)))
    by true rest = (omega arith, omega arith, rest)
    by false rest = lower (place + 1) place last (bits count (place + 1) (number / 2)) (omega arith) rest

-- the clouds of a set rise up to its highest
pub rising-clouds_of : (last set : ℕ) → set < 2 ^ (last + 1) → AreRising 0 last (clouds_of set)
rising-clouds_of last set small = subst (AreRising 0 last) (sym (clouds_of-bits set)) (rising-bits 16 0 set (last + 1) last small (omega arith))
