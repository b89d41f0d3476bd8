-- Numbers that increase: what is read is their row, such a row is read again, and how a loop reads them into a set.
use Rattle.std.proofs.Common.{◌≡◌, ℕ, ◌+◌, ◌*◌, ◌%◌, ◌^◌, ◌<◌, ◌≤◌, true, false, List, [], ◌∷◌, map, Result, Ok, Err, refl, sym, ap, subst, ◌∙◌, add-one, add-zero, zero-add, arith}
use Rattle.std.proofs.Math.Nat.{pow-suc}
use Rattle.std.proofs.Math.Pow.{pow_mono}
use Rattle.std.specs.Prelude.{is_err}
use Rattle.std.specs.Fmt.{decimal}
use Rattle.hy_base.specs.Results.{◌>>=◌}
use Rattle.hy_base.proofs.Results.{bind_ok, ok_is}
use Rattle.hy_base.specs.declared.fault.Cause.{Cause}
use Rattle.hy_text.specs.Clouds.{AreRising, rising_of, set_of_clouds, as_set}
use Rattle.hy_text.specs.Line.{first_word, later_words}
use Rattle.hy_text.specs.Slot.{number_of, end_of}
use Rattle.hy_text.proofs.Numbers.{number_takes, number_again}

-- ---- the laws

pub rising_takes : (least last : ℕ) (words : List (List ℕ)) (numbers : List ℕ) → rising_of least last words ≡ Ok numbers → (words ≡ map decimal numbers) × AreRising least last numbers
unfolding rising_of
rising_takes least last [] numbers e =
    subst (λ (ns : List ℕ). ([] ≡ map decimal ns) × AreRising least last ns) (ok_is [] numbers e) (refl, tt)
rising_takes least last (word ∷ words) numbers e =
    let number = bind_ok (number_of least last word) _ numbers e in
    let more = bind_ok (rising_of (number.0 + 1) last words) (λ later. Ok (number.0 ∷ later)) numbers number.2 in
    let n = number_takes least last word number.0 number.1 in
    let rest = rising_takes (number.0 + 1) last words more.0 more.1 in
    let row : word ∷ words ≡ decimal number.0 ∷ map decimal more.0 = ap (λ (w : List ℕ). w ∷ words) n.printed ∙ ap (λ (ws : List (List ℕ)). decimal number.0 ∷ ws) rest.0 in
    subst (λ (ns : List ℕ). (word ∷ words ≡ map decimal ns) × AreRising least last ns) (ok_is (number.0 ∷ more.0) numbers more.2)
    (row, (n.low_end, n.high_end, rest.1))

pub rising_again : (least last : ℕ) (numbers : List ℕ) → last < 2 ^ 64 → AreRising least last numbers → rising_of least last (map decimal numbers) ≡ Ok numbers
unfolding rising_of
rising_again least last [] fits are = refl
rising_again least last (number ∷ numbers) fits are =
    let high : number ≤ last = are.1 in
    rw (number_again least last number (omega arith) are.0 high, rising_again (number + 1) last numbers fits are.2) refl

-- ---- how a loop reads them into a set

-- the set that was read before, and the clouds that are still read
abbrev pub with_set : ℕ → Result (List ℕ) Cause → Result ℕ Cause
with_set clouds later = later >>= λ numbers. Ok (clouds + set_of_clouds numbers)

pub with_set-none : (read : Result (List ℕ) Cause) → with_set 0 read ≡ as_set read
with_set-none (Ok numbers) = ap (λ (n : ℕ). Ok n) (zero-add (set_of_clouds numbers))
with_set-none (Err cause) = refl

with_set-more : (clouds number : ℕ) (later : Result (List ℕ) Cause) → with_set clouds (later >>= λ numbers. Ok (number ∷ numbers)) ≡ with_set (clouds + 2 ^ number) later
with_set-more clouds number (Ok numbers) = ap (λ (n : ℕ). Ok n) (omega arith)
with_set-more clouds number (Err cause) = refl

pub rising_goes_on : (least last : ℕ) (words : List (List ℕ)) (clouds number : ℕ) (total : Result ℕ Cause)
    → is_err (end_of words) ≡ true → number_of least last (first_word words) ≡ Ok number
    → with_set clouds (rising_of least last words) ≡ total → with_set (clouds + 2 ^ number) (rising_of (number + 1) last (later_words words)) ≡ total
unfolding rising_of
rising_goes_on least last [] clouds number total some read so_far = absurd cc
rising_goes_on least last (word ∷ words) clouds number total some read so_far =
    sym (with_set-more clouds number (rising_of (number + 1) last words))
    ∙ ap (λ (first : Result ℕ Cause). with_set clouds (first >>= λ number. rising_of (number + 1) last words >>= λ numbers. Ok (number ∷ numbers))) (sym read) ∙ so_far

pub rising_fails : (least last : ℕ) (words : List (List ℕ)) (clouds : ℕ) (cause : Cause) (total : Result ℕ Cause)
    → is_err (end_of words) ≡ true → number_of least last (first_word words) ≡ Err cause
    → with_set clouds (rising_of least last words) ≡ total → total ≡ Err cause
unfolding rising_of
rising_fails least last [] clouds cause total some read so_far = absurd cc
rising_fails least last (word ∷ words) clouds cause total some read so_far =
    sym so_far ∙ ap (λ (first : Result ℕ Cause). with_set clouds (first >>= λ number. rising_of (number + 1) last words >>= λ numbers. Ok (number ∷ numbers))) read

pub rising_ends : (least last : ℕ) (words : List (List ℕ)) (clouds : ℕ) (total : Result ℕ Cause)
    → is_err (end_of words) ≡ false → with_set clouds (rising_of least last words) ≡ total → total ≡ Ok clouds
unfolding rising_of
rising_ends least last [] clouds total none so_far = sym so_far ∙ ap (λ (n : ℕ). Ok n) (add-zero clouds)
rising_ends least last (word ∷ words) clouds total none so_far = absurd cc

-- ---- the bit of a cloud

twice : (cloud : ℕ) → 2 ^ (cloud + 1) ≡ 2 ^ cloud + 2 ^ cloud
twice cloud = rw (add-one, pow-suc) (omega arith)

-- a cloud that is not below the clouds of a set, in a set of sixteen
pub record IsNextBit (clouds cloud : ℕ) : Type 0 where
  pub bit : 1 * 2 ^ cloud % 65536 ≡ 2 ^ cloud
  pub within : clouds + 2 ^ cloud < 65536
  pub small : clouds + 2 ^ cloud < 2 ^ (cloud + 1)

pub next_bit : (clouds least cloud : ℕ) → clouds < 2 ^ least → least ≤ cloud → cloud < 16 → IsNextBit clouds cloud
next_bit clouds least cloud small above below =
    let low : 2 ^ least ≤ 2 ^ cloud = pow_mono above in
    let few : cloud ≤ 15 = omega arith in
    let high : 2 ^ cloud ≤ 2 ^ 15 = pow_mono few in
    let sum = twice cloud in
    record { bit = omega arith; within = omega arith; small = omega arith }
