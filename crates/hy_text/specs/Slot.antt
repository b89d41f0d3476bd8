-- The slots of a line. A slot reads a word to a value, or answers why the word does not fit:
-- it parses the word, prints what it parsed, and compares.
use Rattle.std.specs.Prelude.{ℕ, ◌+◌, ◌-◌, ◌*◌, ◌%◌, ◌==◌, nat_lt, nat_le, Bool, not, ◌&&◌, ◌||◌, if◌then◌else◌, List, [], ◌∷◌, length, Result, Ok, Err}
use Rattle.std.specs.Fmt.{decimal}
use Rattle.std.specs.List.{list_all}
use Rattle.std.specs.Str.{bytes_eq}
use Rattle.std.specs.Str.Parse.{digits_value}
use Rattle.hex.specs.Hex.{encode_lower}
use Rattle.hy_base.specs.declared.fault.Cause.{Cause}
use Rattle.hy_record.specs.Key.{is_key}
use Rattle.hy_base.specs.declared.fault.Cause.TheVariants.{BadWord, BadNumber, BadHex, BadKey, LongValue, Extra, NoLineEnd}

-- the slot of a keyword
abbrev pub keyword : List ℕ → List ℕ → Result (Unit {0}) Cause
keyword due word = if bytes_eq word due then Ok tt else Err BadWord

-- no word is left
abbrev pub end_of : List (List ℕ) → Result (Unit {0}) Cause
end_of [] = Ok tt
end_of (word ∷ words) = Err Extra

-- a line feed ends the line
abbrev pub end_of_line : Bool → Result (Unit {0}) Cause
end_of_line ended = if ended then Ok tt else Err NoLineEnd

-- ---- numbers

-- the slot of a number in a range, which is printed in decimal digits without leading zeros
unfoldable pub number_of : ℕ → ℕ → List ℕ → Result ℕ Cause
number_of low high word =
    let number = digits_value 10 word in
    if nat_le low number && nat_le number high && bytes_eq word (decimal number) then Ok number else Err BadNumber

-- ---- values

-- a digit in lower-case hexadecimal: `0` to `9` are 48 to 57, and `a` to `f` are 97 to 102
abbrev pub is_lower_digit : ℕ → Bool
is_lower_digit digit = (nat_le 48 digit && nat_le digit 57) || (nat_le 97 digit && nat_le digit 102)

-- one pair of digits or more
abbrev pub is_hex_text : List ℕ → Bool
is_hex_text word = not (length word == 0) && (length word % 2 == 0) && list_all is_lower_digit word

-- the value of a digit in lower-case hexadecimal
abbrev pub hex_value : ℕ → ℕ
hex_value digit = if nat_lt digit 58 then digit - 48 else digit - 87

-- the bytes of pairs of digits
unfoldable pub hex_bytes : List ℕ → List ℕ
hex_bytes [] = []
hex_bytes (digit ∷ []) = []
hex_bytes (high ∷ low ∷ digits) = (hex_value high * 16 + hex_value low) ∷ hex_bytes digits

-- the printed form of a value: a dash for the empty one, else two digits of lower-case hexadecimal for each byte
abbrev pub value_word : List ℕ → List ℕ
value_word [] = 45 ∷ []
value_word (byte ∷ bytes) = encode_lower (byte ∷ bytes)

-- the slot of a value of at most so many bytes
unfoldable pub value_of : ℕ → List ℕ → Result (List ℕ) Cause
value_of limit word =
    let value = hex_bytes word in
    if bytes_eq word (value_word value) then (if nat_le (length value) limit then Ok value else Err LongValue) else Err BadHex

-- ---- keys

-- the slot of a key, which is printed as its bytes
abbrev pub key_word : List ℕ → Result (List ℕ) Cause
key_word word = if is_key word then Ok word else Err BadKey
