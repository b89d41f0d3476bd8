-- The number of digits, held at the end of 64 bits.
use Rattle.std.proofs.Common.{◌≡◌, ℕ, ◌+◌, ◌-◌, ◌*◌, ◌^◌, min, true, arith}
use Rattle.std.specs.Char.{is_ascii_digit, digit_value}
use Rattle.std.proofs.lemmas.Bool.Decides.{nat_tests}

-- one more digit
pub held_more : (v d : ℕ) → min (min (min v (2 ^ 64 - 1) * 10) (2 ^ 64 - 1) + d) (2 ^ 64 - 1) ≡ min (v * 10 + d) (2 ^ 64 - 1)
held_more v d = omega arith

-- a digit is worth what it stands behind 0
pub digit_value-digit : (byte : ℕ) → is_ascii_digit byte ≡ true → byte - 48 ≡ digit_value byte
digit_value-digit byte is = grind (arith, nat_tests)
