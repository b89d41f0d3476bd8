-- What is printed can stand in a line: no printed word has a space or a line feed, and none is empty.
use Rattle.std.proofs.Common.{◌≡◌, ℕ, ◌^◌, ◌<◌, ◌/◌, ◌%◌, true, IsTrue, List, [], ◌∷◌, length, get_or, refl, ap, ◌∙◌, arith, inl, inr}
use Rattle.std.specs.Char.{digit_value}
use Rattle.std.specs.Fmt.{decimal}
use Rattle.std.specs.List.{list_all}
use Rattle.std.specs.Str.Parse.{AllDigits}
use Rattle.std.proofs.lemmas.Bool.{cases_lt}
use Rattle.std.proofs.lemmas.Bool.Decides.{nat_tests}
use Rattle.std.proofs.lemmas.Fmt.{decimal_is_IsNumeral}
use Rattle.std.proofs.lemmas.List.{get_or_past}
use Rattle.hex.specs.Hex.{lower_digits, encode_with, encode_lower}
use Rattle.hy_record.specs.Key.{is_key, is_key_byte}
use Rattle.hy_text.specs.Line.{is_word_byte, is_word}
use Rattle.hy_text.specs.Slot.{value_word}
use Rattle.hy_text.proofs.Bools.{and_both, and_true}
use Rattle.hy_text.proofs.Values.{glyph, glyph_is}

-- ---- numbers

digit_is_word_byte : (c : ℕ) → digit_value c < 10 → is_word_byte c ≡ true
digit_is_word_byte c digit = grind (arith, nat_tests)

digits_are_word : (word : List ℕ) → AllDigits 10 word → is_word word ≡ true
digits_are_word [] all = refl
digits_are_word (c ∷ word) all = and_true (is_word_byte c) (is_word word) (digit_is_word_byte c all.0) (digits_are_word word all.1)

pub is_word-decimal : (number : ℕ) → number < 2 ^ 64 → is_word (decimal number) ≡ true
is_word-decimal number small = digits_are_word (decimal number) (decimal_is_IsNumeral number small).0.1

pub length-decimal : (number : ℕ) → number < 2 ^ 64 → 0 < length (decimal number)
length-decimal number small = (decimal_is_IsNumeral number small).0.0

-- ---- values

glyph_is_word_byte : (n : ℕ) → n < 16 → is_word_byte (glyph n) ≡ true
glyph_is_word_byte n small = grind (arith, nat_tests)

table_is_word_byte : (n : ℕ) → is_word_byte (get_or lower_digits n 0) ≡ true
table_is_word_byte n =
    elim (cases_lt n 16) [
      | inl small ↦ ap is_word_byte (glyph_is n small) ∙ glyph_is_word_byte n small
      | inr large ↦ ap is_word_byte (get_or_past lower_digits n 0 large)
    ]

is_word-encode : (bytes : List ℕ) → is_word (encode_lower bytes) ≡ true
unfolding encode_with
is_word-encode [] = refl
is_word-encode (byte ∷ bytes) =
    and_true (is_word_byte (get_or lower_digits (byte / 16) 0)) _ (table_is_word_byte (byte / 16))
    (and_true (is_word_byte (get_or lower_digits (byte % 16) 0)) _ (table_is_word_byte (byte % 16)) (is_word-encode bytes))

pub is_word-value_word : (value : List ℕ) → is_word (value_word value) ≡ true
is_word-value_word [] = refl
is_word-value_word (byte ∷ bytes) = is_word-encode (byte ∷ bytes)

pub length-value_word : (value : List ℕ) → 0 < length (value_word value)
unfolding encode_with
length-value_word [] = omega arith
length-value_word (byte ∷ bytes) = omega arith

-- ---- keys

key_byte_is_word_byte : (b : ℕ) → is_key_byte b ≡ true → is_word_byte b ≡ true
key_byte_is_word_byte b is = grind (arith, nat_tests)

key_bytes_are_word : (key : List ℕ) → list_all is_key_byte key ≡ true → is_word key ≡ true
key_bytes_are_word [] all = refl
key_bytes_are_word (b ∷ key) all =
    let parts = and_both (is_key_byte b) (list_all is_key_byte key) all in
    and_true (is_word_byte b) (is_word key) (key_byte_is_word_byte b parts.0) (key_bytes_are_word key parts.1)

pub is_word-key : (key : List ℕ) → IsTrue (is_key key) → is_word key ≡ true
is_word-key key is = let all : list_all is_key_byte key ≡ true = grind (arith, nat_tests) in key_bytes_are_word key all

pub length-key : (key : List ℕ) → IsTrue (is_key key) → 0 < length key
length-key key is = grind (arith, nat_tests)
