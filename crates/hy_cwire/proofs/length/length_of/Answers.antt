-- One more digit.
use Rattle.std.proofs.Common.{◌≡◌, ℕ, ◌+◌, ◌-◌, ◌*◌, ◌^◌, min, Bool, true, take, get_or, ap, sym, ◌∙◌, ◌&&◌}
use Rattle.std.specs.List.{list_all}
use Rattle.std.specs.Char.{is_ascii_digit, digit_value}
use Rattle.std.specs.Str.Parse.{digits_value}
use Rattle.std.proofs.lemmas.Int.Digits.{digits_value_more}
use Rattle.std.proofs.lemmas.List.Folds.{list_all_more}
use Rattle.hy_cwire.proofs.Numerals.{held_more, digit_value-digit}
use Rattle.hy_cwire.proofs.length.length_of.Goals as goal

pub loop-byte-preserved : goal.loop-byte-preserved
loop-byte-preserved c =
    let value = c.args.value.now in
    let i = c.loop-byte.byte-index in
    let byte = get_or value i 0 in
    let digit : is_ascii_digit byte ≡ true = sym c.if-not-is_ascii_digit.ensures.value in
    let more = digits_value_more 10 value i c.loop-byte-test.true in
    let worth : c.from.result ≡ digit_value byte = c.from.ensures ∙ digit_value-digit byte digit in
    let all : list_all is_ascii_digit (take (i + 1) value) ≡ true = list_all_more is_ascii_digit value i 0 c.loop-byte-test.true ∙ ap (λ (b : Bool). b && is_ascii_digit byte) c.loop-byte.invariant.digits ∙ digit in
    let step : c.saturating_add-length.result ≡ min (digits_value 10 (take i value) * 10 + digit_value byte) (2 ^ 64 - 1) =
    c.saturating_add-length.ensures ∙ ap (λ (n : ℕ). min (n + c.from.result) (2 ^ 64 - 1)) (c.saturating_mul.ensures ∙ ap (λ (n : ℕ). min (n * 10) (2 ^ 64 - 1)) c.loop-byte.invariant.number)
    ∙ ap (λ (n : ℕ). min (min (min (digits_value 10 (take i value)) (2 ^ 64 - 1) * 10) (2 ^ 64 - 1) + n) (2 ^ 64 - 1)) worth ∙ held_more (digits_value 10 (take i value)) (digit_value byte) in
    record { digits = all; number = step ∙ ap (λ (n : ℕ). min n (2 ^ 64 - 1)) (sym more) }
