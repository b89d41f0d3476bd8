-- Numbers: what the slot of a number says of a word.
use Rattle.std.proofs.Common.{◌≡◌, ℕ, zero, suc, ◌^◌, ◌<◌, ◌≤◌, Bool, true, false, cond, ◌&&◌, leb, List, [], ◌∷◌, length, get_or, Result, Ok, Err, refl, sym, ap, subst, ◌∙◌, arith, inl, inr}
use Rattle.std.specs.Char.{digit_value}
use Rattle.std.specs.Fmt.{decimal}
use Rattle.std.specs.Str.{bytes_eq}
use Rattle.std.specs.Str.Parse.{digits_value, AllDigits}
use Rattle.std.proofs.lemmas.Bool.{cases_lt, leb-true, le-leb}
use Rattle.std.proofs.lemmas.Fmt.{decimal_is_IsNumeral, decimal-digits_value, first_decimal, decimal_digit}
use Rattle.std.proofs.lemmas.Slice.Eq.{bytes_eq-Decides}
use Rattle.std.proofs.lemmas.Str.Parse.{numerals_by_value, tells_digits}
use Rattle.hy_base.specs.declared.fault.Cause.{Cause}
use Rattle.hy_base.specs.declared.fault.Cause.TheVariants.{BadNumber}
use Rattle.hy_text.proofs.Bools.{and_both}
use Rattle.hy_text.specs.Slot.{number_of}

abbrev judged : Bool → ℕ → Result ℕ Cause
judged t number = cond t (Ok number) (Err BadNumber)

judged_ok : (t : Bool) (number n : ℕ) → judged t number ≡ Ok n → (t ≡ true) × (number ≡ n)
judged_ok true number n e = (refl, cc)
judged_ok false number n e = absurd cc

-- what the slot of a number takes is the printed form of a number in its range
pub record IsNumberIn (low high : ℕ) (word : List ℕ) (number : ℕ) : Type 0 where
  pub low_end : low ≤ number
  pub high_end : number ≤ high
  pub printed : word ≡ decimal number

pub number_takes : (low high : ℕ) (word : List ℕ) (number : ℕ) → number_of low high word ≡ Ok number → IsNumberIn low high word number
unfolding number_of
number_takes low high word number e =
    let v : ℕ = digits_value 10 word in
    let j = judged_ok (leb low v && leb v high && bytes_eq word (decimal v)) v number e in
    let both = and_both (leb low v && leb v high) (bytes_eq word (decimal v)) j.0 in
    let range = and_both (leb low v) (leb v high) both.0 in
    subst (IsNumberIn low high word) j.1 (record {
      low_end = leb-true _ _ range.0;
      high_end = leb-true _ _ range.1;
      printed = (bytes_eq-Decides word (decimal v)).0 both.1;
    })

-- what a reader finds of the digits of such a word
pub record HasDigits (low high : ℕ) (word : List ℕ) : Type 0 where
  pub digits : AllDigits 10 word
  pub filled : 0 < length word
  pub plain : get_or word 0 0 ≡ 48 → length word ≡ 1
  pub low_end : low ≤ digits_value 10 word
  pub high_end : digits_value 10 word ≤ high

first_of_decimal : (n : ℕ) → n < 2 ^ 64 → get_or (decimal n) 0 0 ≡ 48 → length (decimal n) ≡ 1
first_of_decimal n fits e =
    elim (cases_lt 0 n) [
      | inl some ↦ absurd (omega (arith, first_decimal n some fits))
      | inr none ↦ let zero_is : n ≡ 0 = omega arith in rw (zero_is, decimal_digit 0 (omega arith)) refl
    ]

digits_of_number : (low high : ℕ) (word : List ℕ) (number : ℕ) → high < 2 ^ 64 → IsNumberIn low high word number → HasDigits low high word
digits_of_number low high word number fits is =
    let small : number < 2 ^ 64 = omega (arith, is.high_end) in
    let numeral = decimal_is_IsNumeral number small in
    let value : digits_value 10 word ≡ number = ap (digits_value 10) is.printed ∙ numeral.1 in
    record {
      digits = subst (AllDigits 10) (sym is.printed) numeral.0.1;
      filled = subst (λ (w : List ℕ). 0 < length w) (sym is.printed) numeral.0.0;
      plain = subst (λ (w : List ℕ). get_or w 0 0 ≡ 48 → length w ≡ 1) (sym is.printed) (first_of_decimal number small);
      low_end = omega (arith, is.low_end, value);
      high_end = omega (arith, is.high_end, value);
    }

-- the printed form of a number in the range is taken
pub number_again : (low high number : ℕ) → number < 2 ^ 64 → low ≤ number → number ≤ high → number_of low high (decimal number) ≡ Ok number
unfolding number_of
number_again low high number small low_end high_end =
    let value : digits_value 10 (decimal number) ≡ number = (decimal_is_IsNumeral number small).1 in
    let same = (bytes_eq-Decides (decimal number) (decimal number)).1 refl in
    rw (value, le-leb _ _ low_end, le-leb _ _ high_end, same) refl

-- a reader that finds these digits takes the word
pub number_of-digits : (low high : ℕ) (word : List ℕ) → digits_value 10 word < 2 ^ 64 → HasDigits low high word → number_of low high word ≡ Ok (digits_value 10 word)
number_of-digits low high word small has =
    let printed : decimal (digits_value 10 word) ≡ word = decimal-digits_value (numerals_by_value (AllDigits 10) tells_digits) word has.digits has.filled has.plain small in
    subst (λ (w : List ℕ). number_of low high w ≡ Ok (digits_value 10 word)) printed (number_again low high (digits_value 10 word) small has.low_end has.high_end)

refusal : (t : Bool) (number : ℕ) (cause : Cause) → judged t number ≡ Err cause → cause ≡ BadNumber
refusal true number cause e = absurd cc
refusal false number cause e = cc

refused : (low high : ℕ) (word : List ℕ) (cause : Cause) → number_of low high word ≡ Err cause → cause ≡ BadNumber
unfolding number_of
refused low high word cause e = refusal _ _ cause e

-- a reader that misses them refuses it
pub number_of-refused : (low high : ℕ) (word : List ℕ) → high < 2 ^ 64 → (HasDigits low high word → ⊥) → number_of low high word ≡ Err BadNumber
number_of-refused low high word fits lacks = by (number_of low high word) refl
  where
    by : (r : Result ℕ Cause) → number_of low high word ≡ r → number_of low high word ≡ Err BadNumber
    by (Ok number) e = absurd (lacks (digits_of_number low high word number fits (number_takes low high word number e)))
    by (Err cause) e = e ∙ ap (λ (c : Cause). Err c) (refused low high word cause e)

-- each byte of digits alone is a digit
pub AllDigits-at : (word : List ℕ) (i : ℕ) → AllDigits 10 word → i < length word → digit_value (get_or word i 0) < 10
AllDigits-at [] i all lt = absurd (omega arith)
AllDigits-at (c ∷ word) zero all lt = all.0
AllDigits-at (c ∷ word) (suc i) all lt = AllDigits-at word i all.1 (omega arith)
