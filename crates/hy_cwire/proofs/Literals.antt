-- The parts of written heads are of the classes that the grammar wants, and say what they should.
use Rattle.std.proofs.Common.{◌≡◌, ℕ, suc, ◌-◌, ◌/◌, ◌%◌, ◌^◌, ◌<◌, ◌≤◌, min, get_or, Bool, true, false, List, [], ◌∷◌, length, refl, arith, codes, Some}
use Rattle.std.specs.Prelude.{reverse, IsUtf8, nat_lt, ◌&&◌}
use Rattle.std.specs.List.{list_all}
use Rattle.std.specs.Char.{is_ascii_digit}
use Rattle.std.specs.Fmt.{decimal}
use Rattle.std.specs.Str.Parse.{AllDigits}
use Rattle.std.proofs.lemmas.Bool.Decides.{nat_tests}
use Rattle.std.proofs.lemmas.Fmt.{decimal_is_IsNumeral}
use Rattle.std.proofs.lemmas.List.{length-append}
use Rattle.std.proofs.lemmas.Str.{IsUtf8-from_ascii}
use Rattle.std.proofs.lemmas.Str.Ascii.{IsAscii-from_all}
use Rattle.std.proofs.lemmas.List.Elements.{All-nil, All-cons, All-head, All-append, All-weaker}
use Rattle.std.proofs.lemmas.List.Sums.{AllPass-from_list_all}
use Rattle.httparse.specs.Grammar.{is_uri_byte, is_value_byte, is_ows, AllPass, skip_ows, trim_ows}
use Rattle.httparse.proofs.TrimLemmas.{AllPass-reverse, trim_ows_space}
use Rattle.byteorder.specs.Endian.{big_bytes}
use Rattle.hex.specs.Hex.{encode_with, lower_digits}
use Rattle.hy_record.specs.Key.{is_key, is_key_byte}
use Rattle.hy_record.specs.Name.{hex_number, object_name}
use Rattle.hy_record.specs.Stamp.{Timestamp}
use Rattle.hy_record.proofs.Names.{length-hex_number}
use Rattle.hy_cwire.specs.Lengths.{length_of}
use Rattle.hy_cwire.proofs.Once.{four_bytes}

-- ---- numerals

digits-pass : (ds : List ℕ) → AllDigits 10 ds → list_all is_ascii_digit ds ≡ true
digits-pass [] all = refl
digits-pass (d ∷ ds) all =
    let one : is_ascii_digit d ≡ true = let h = all.0 in grind (arith, nat_tests) in
    rw (one, digits-pass ds all.1) refl

pub digits : (n : ℕ) → n < 2 ^ 64 → AllPass is_ascii_digit (decimal n)
digits n fits = AllPass-from_list_all is_ascii_digit (decimal n) (digits-pass (decimal n) (decimal_is_IsNumeral n fits).0.1)

-- the length of a written number is the number
pub length_of-decimal : (n : ℕ) → n < 2 ^ 64 → length_of (decimal n) ≡ Some n
length_of-decimal n fits =
    let numeral = decimal_is_IsNumeral n fits in
    let all = digits-pass (decimal n) numeral.0.1 in
    let value = numeral.1 in
    let small : min n (2 ^ 64 - 1) ≡ n = omega (arith, fits) in
    grind (arith, nat_tests)

digit-value : (b : ℕ) → is_ascii_digit b ≡ true → is_value_byte b ≡ true
digit-value b is = grind (arith, nat_tests)

pub digits-value : (n : ℕ) → n < 2 ^ 64 → AllPass is_value_byte (decimal n)
digits-value n fits = All-weaker (λ (b : ℕ). is_ascii_digit b ≡ true) (λ (b : ℕ). is_value_byte b ≡ true) digit-value (decimal n) (digits n fits)

-- ---- white space

digit-ows : (b : ℕ) → is_ascii_digit b ≡ true → is_ows b ≡ false
digit-ows b is = grind (arith, nat_tests)

skip-digits : (ds : List ℕ) → AllPass is_ascii_digit ds → skip_ows ds ≡ ds
skip-digits [] all = refl
skip-digits (d ∷ ds) all = let no : is_ows d ≡ false = digit-ows d (All-head (λ (b : ℕ). is_ascii_digit b ≡ true) d ds all) in rw no refl

-- a numeral behind a space is the value of the field
pub value-digits : (n : ℕ) → n < 2 ^ 64 → trim_ows (32 ∷ decimal n) ≡ decimal n
value-digits n fits =
    let all = digits n fits in
    trim_ows_space (decimal n) (skip-digits (decimal n) all) (skip-digits (reverse (decimal n)) (AllPass-reverse is_ascii_digit (decimal n) all))

-- ---- names

-- a visible byte of ASCII
abbrev is_visible : ℕ → Bool
is_visible b = nat_lt 32 b && nat_lt b 127

visible-uri : (b : ℕ) → is_visible b ≡ true → is_uri_byte b ≡ true
visible-uri b is = grind (arith, nat_tests)

visible-ascii : (b : ℕ) → is_visible b ≡ true → b < 128
visible-ascii b is = grind (arith, nat_tests)

key-visible : (b : ℕ) → is_key_byte b ≡ true → is_visible b ≡ true
key-visible b is = grind (arith, nat_tests)

hex-visible : (digit : ℕ) → digit < 16 → is_visible (get_or lower_digits digit 0) ≡ true
hex-visible digit small = AllPass-from_list_all is_visible lower_digits refl digit 0 small

encoded-visible : (bytes : List ℕ) → ((i : ℕ) → get_or bytes i 0 < 256) → AllPass is_visible (encode_with lower_digits bytes)
unfolding encode_with
encoded-visible [] each = All-nil (λ (b : ℕ). is_visible b ≡ true)
encoded-visible (b ∷ bytes) each =
    let P : ℕ → Type 0 = λ x. is_visible x ≡ true in
    let small : b < 256 = each 0 in
    let low = get_or lower_digits (b % 16) 0 in
    let rest = encode_with lower_digits bytes in
    All-cons P (get_or lower_digits (b / 16) 0) (low ∷ rest) (hex-visible (b / 16) (omega (arith, small))) (All-cons P low rest (hex-visible (b % 16) (omega (arith, small))) (encoded-visible bytes (λ i. each (suc i))))

number-visible : (n : ℕ) → AllPass is_visible (hex_number n)
unfolding hex_number
number-visible n = encoded-visible (big_bytes 4 n) (four_bytes n)

name-visible : (key : List ℕ) (stamp : Timestamp) → is_key key ≡ true → AllPass is_visible (object_name key stamp)
name-visible key stamp spelled =
    let P : ℕ → Type 0 = λ x. is_visible x ≡ true in
    let all : list_all is_key_byte key ≡ true = grind (arith, nat_tests) in
    let bytes : AllPass is_visible key = All-weaker (λ (b : ℕ). is_key_byte b ≡ true) P key-visible key (AllPass-from_list_all is_key_byte key all) in
    let numbers = All-append P (hex_number stamp.sn) (hex_number stamp.cid) (number-visible stamp.sn) (number-visible stamp.cid) in
    let slash = AllPass-from_list_all is_visible (codes "/") refl in
    let start = AllPass-from_list_all is_visible (codes "/o/") refl in
    All-append P (codes "/o/") _ start (All-append P key _ bytes (All-append P (codes "/") _ slash numbers))

pub name-uri : (key : List ℕ) (stamp : Timestamp) → is_key key ≡ true → AllPass is_uri_byte (object_name key stamp)
name-uri key stamp spelled = All-weaker (λ (b : ℕ). is_visible b ≡ true) (λ (b : ℕ). is_uri_byte b ≡ true) visible-uri (object_name key stamp) (name-visible key stamp spelled)

pub name-text : (key : List ℕ) (stamp : Timestamp) → is_key key ≡ true → IsUtf8 (object_name key stamp)
name-text key stamp spelled =
    let name = object_name key stamp in
    IsUtf8-from_ascii name (IsAscii-from_all name (All-weaker (λ (b : ℕ). is_visible b ≡ true) (λ (b : ℕ). b < 128) visible-ascii name (name-visible key stamp spelled)))

pub length-name : (key : List ℕ) (stamp : Timestamp) → is_key key ≡ true → length (object_name key stamp) ≤ 84
length-name key stamp spelled =
    let short : length key ≤ 64 = grind (arith, nat_tests) in
    let sn = length-hex_number stamp.sn in
    let cid = length-hex_number stamp.cid in
    simp length-append (omega (arith, short, sn, cid))
