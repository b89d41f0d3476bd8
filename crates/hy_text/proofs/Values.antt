-- Values: digits in lower-case hexadecimal, and what the slot of a value says of a word.
use Rattle.std.proofs.Common.{◌≡◌, ℕ, zero, suc, ◌+◌, ◌*◌, ◌/◌, ◌%◌, ◌<◌, ◌≤◌, ◌⊎◌, Bool, true, false, not, cond, ◌&&◌, eqb, leb, ltb, List, [], ◌∷◌, length, get_or, Result, Ok, Err, refl, sym, ap, subst, ◌∙◌, arith, inl, inr}
use Rattle.std.specs.List.{list_all}
use Rattle.std.specs.Str.{bytes_eq}
use Rattle.std.proofs.lemmas.List.{get_or_past}
use Rattle.std.proofs.lemmas.List.Folds.{list_all_at}
use Rattle.std.proofs.lemmas.Bool.{cases_Bool, cases_lt, eqb-true, eqb-false, leb-true, le-leb, lt-leb, eq-eqb, ne_eqb, not-true, both_ways}
use Rattle.std.proofs.lemmas.Bool.Decides.{nat_tests}
use Rattle.std.proofs.lemmas.Slice.Eq.{bytes_eq-Decides}
use Rattle.hex.specs.Hex.{lower_digits, encode_with, encode_lower, IsBytes}
use Rattle.hy_base.specs.declared.fault.Cause.{Cause}
use Rattle.hy_base.specs.declared.fault.Cause.TheVariants.{BadHex, LongValue}
use Rattle.hy_text.proofs.Bools.{and_both, and_true}
use Rattle.hy_text.specs.Slot.{is_lower_digit, is_hex_text, hex_value, hex_bytes, value_word, value_of}

-- ---- one digit

-- the digit of a number below sixteen, as the table has it
abbrev pub glyph : ℕ → ℕ
glyph n = cond (ltb n 10) (48 + n) (87 + n)

abbrev table_is : ℕ → Bool
table_is n = eqb (get_or lower_digits n 0) (glyph n)

abbrev table_below : ℕ → Bool
table_below zero = true
table_below (suc n) = table_is n && table_below n

table_at : (n k : ℕ) → table_below n ≡ true → k < n → get_or lower_digits k 0 ≡ glyph k
table_at zero k h lt = absurd (omega arith)
table_at (suc n) k h lt =
    let parts = and_both (table_is n) (table_below n) h in
    elim (cases_lt k n) [
      | inl below ↦ table_at n k parts.1 below
      | inr top ↦ let e : k ≡ n = omega arith in rw e (eqb-true _ _ parts.0)
    ]

pub glyph_is : (n : ℕ) → n < 16 → get_or lower_digits n 0 ≡ glyph n
glyph_is n lt = table_at 16 n refl lt

digit_of_glyph : (n : ℕ) → n < 16 → (is_lower_digit (glyph n) ≡ true) × (hex_value (glyph n) ≡ n)
digit_of_glyph n lt = grind (arith, nat_tests)

glyph_of_digit : (d : ℕ) → is_lower_digit d ≡ true → (hex_value d < 16) × (glyph (hex_value d) ≡ d)
glyph_of_digit d is = grind (arith, nat_tests)

-- ---- pairs of digits

pub hex_bytes-pair : (high low : ℕ) (digits : List ℕ) → hex_bytes (high ∷ low ∷ digits) ≡ (hex_value high * 16 + hex_value low) ∷ hex_bytes digits
unfolding hex_bytes
hex_bytes-pair high low digits = refl

pub all_parts : (high low : ℕ) (digits : List ℕ) → list_all is_lower_digit (high ∷ low ∷ digits) ≡ true → (is_lower_digit high ≡ true) × (is_lower_digit low ≡ true) × (list_all is_lower_digit digits ≡ true)
all_parts high low digits all =
    let one = and_both (is_lower_digit high) (is_lower_digit low && list_all is_lower_digit digits) all in
    let two = and_both (is_lower_digit low) (list_all is_lower_digit digits) one.1 in
    (one.0, two.0, two.1)

-- each of the digits is one
pub digit_at : (digits : List ℕ) (i : ℕ) → list_all is_lower_digit digits ≡ true → i < length digits → is_lower_digit (get_or digits i 0) ≡ true
digit_at digits i all within = elim (cases_Bool (is_lower_digit (get_or digits i 0))) [
  | inl is ↦ is
  | inr lacks ↦ absurd (both_ways _ (list_all_at is_lower_digit digits i 0 within lacks) all)
]

-- the byte of pair `place`
pub pair_at : (digits : List ℕ) (place : ℕ) → 2 * place + 1 < length digits → get_or (hex_bytes digits) place 0 ≡ hex_value (get_or digits (2 * place) 0) * 16 + hex_value (get_or digits (2 * place + 1) 0)
unfolding hex_bytes
pair_at [] place within = absurd (omega arith)
pair_at (high ∷ []) place within = absurd (omega arith)
pair_at (high ∷ low ∷ digits) zero within = refl
pair_at (high ∷ low ∷ digits) (suc place) within =
    let first : suc (suc (2 * place)) ≡ 2 * suc place = omega arith in
    let second : suc (suc (2 * place + 1)) ≡ 2 * suc place + 1 = omega arith in
    pair_at digits place (omega arith)
    ∙ ap (λ i. hex_value (get_or (high ∷ low ∷ digits) i 0) * 16 + hex_value (get_or digits (2 * place + 1) 0)) first
    ∙ ap (λ i. hex_value (get_or (high ∷ low ∷ digits) (2 * suc place) 0) * 16 + hex_value (get_or (high ∷ low ∷ digits) i 0)) second

-- ---- words of pairs

encode-pair : (byte : ℕ) (bytes : List ℕ) → encode_lower (byte ∷ bytes) ≡ get_or lower_digits (byte / 16) 0 ∷ get_or lower_digits (byte % 16) 0 ∷ encode_lower bytes
unfolding encode_with
encode-pair byte bytes = refl

glyph-back : (high low : ℕ) → is_lower_digit high ≡ true → is_lower_digit low ≡ true
    → (get_or lower_digits ((hex_value high * 16 + hex_value low) / 16) 0 ≡ high) × (get_or lower_digits ((hex_value high * 16 + hex_value low) % 16) 0 ≡ low)
glyph-back high low h l =
    let one = glyph_of_digit high h in
    let two = glyph_of_digit low l in
    let up : (hex_value high * 16 + hex_value low) / 16 ≡ hex_value high = omega (arith, one.0, two.0) in
    let down : (hex_value high * 16 + hex_value low) % 16 ≡ hex_value low = omega (arith, one.0, two.0) in
    (ap (λ (n : ℕ). get_or lower_digits n 0) up ∙ glyph_is (hex_value high) one.0 ∙ one.1, ap (λ (n : ℕ). get_or lower_digits n 0) down ∙ glyph_is (hex_value low) two.0 ∙ two.1)

-- pairs of digits are the printed form of their bytes
encode-hex_bytes : (word : List ℕ) → length word % 2 ≡ 0 → list_all is_lower_digit word ≡ true → encode_lower (hex_bytes word) ≡ word
unfolding encode_with hex_bytes
encode-hex_bytes [] even all = refl
encode-hex_bytes (x ∷ []) even all = absurd (omega arith)
encode-hex_bytes (high ∷ low ∷ word) even all =
    let parts = all_parts high low word all in
    let back = glyph-back high low parts.0 parts.1 in
    encode-pair (hex_value high * 16 + hex_value low) (hex_bytes word)
    ∙ rw (back.0, back.1, encode-hex_bytes word (omega arith) parts.2) refl

-- what is known of a word that is the printed form of its pairs
record ArePairs (word : List ℕ) : Type 0 where
  even : length word % 2 ≡ 0
  digits : list_all is_lower_digit word ≡ true
  bytes : IsBytes (hex_bytes word)

pair_printed : (high low : ℕ) → high ≡ get_or lower_digits ((hex_value high * 16 + hex_value low) / 16) 0 → low ≡ get_or lower_digits ((hex_value high * 16 + hex_value low) % 16) 0
    → (is_lower_digit high ≡ true) × (is_lower_digit low ≡ true)
pair_printed high low h l =
    let byte : ℕ = hex_value high * 16 + hex_value low in
    let digit = digit_of_glyph (byte % 16) (omega arith) in
    let low_is : low ≡ glyph (byte % 16) = l ∙ glyph_is (byte % 16) (omega arith) in
    let low_digit : is_lower_digit low ≡ true = ap is_lower_digit low_is ∙ digit.0 in
    let low_value : hex_value low < 16 = (glyph_of_digit low low_digit).0 in
    let up : byte / 16 ≡ hex_value high = omega (arith, low_value) in
    let high_is : high ≡ get_or lower_digits (hex_value high) 0 = h ∙ ap (λ (n : ℕ). get_or lower_digits n 0) up in
    elim (cases_lt (hex_value high) 16) [
      | inl small ↦
          let top = digit_of_glyph (hex_value high) small in
          (ap is_lower_digit (high_is ∙ glyph_is (hex_value high) small) ∙ top.0, low_digit)
      | inr large ↦
          let none : high ≡ 0 = high_is ∙ get_or_past lower_digits (hex_value high) 0 large in
          let small : hex_value high ≡ 0 = ap hex_value none in
          absurd (omega arith)
    ]

byte_front : (byte : ℕ) (bytes : List ℕ) → byte < 256 → IsBytes bytes → IsBytes (byte ∷ bytes)
byte_front byte bytes fits rest zero = fits
byte_front byte bytes fits rest (suc i) = rest i

no_bytes : IsBytes []
no_bytes i = omega arith

pairs_printed : (word : List ℕ) → word ≡ encode_lower (hex_bytes word) → ArePairs word
unfolding encode_with hex_bytes
pairs_printed [] e = record { even = refl; digits = refl; bytes = no_bytes }
pairs_printed (x ∷ []) e = absurd cc
pairs_printed (high ∷ low ∷ word) e =
    let first : high ≡ get_or lower_digits ((hex_value high * 16 + hex_value low) / 16) 0 = cc in
    let second : low ≡ get_or lower_digits ((hex_value high * 16 + hex_value low) % 16) 0 = cc in
    let later : word ≡ encode_lower (hex_bytes word) = cc in
    let pair = pair_printed high low first second in
    let one = glyph_of_digit high pair.0 in
    let two = glyph_of_digit low pair.1 in
    let rest = pairs_printed word later in
    record {
      even = omega (arith, rest.even);
      digits = and_true (is_lower_digit high) _ pair.0 (and_true (is_lower_digit low) _ pair.1 rest.digits);
      bytes = byte_front (hex_value high * 16 + hex_value low) (hex_bytes word) (omega (arith, one.0, two.0)) rest.bytes;
    }

-- ---- the slot of a value

abbrev sized : Bool → List ℕ → Result (List ℕ) Cause
sized t value = cond t (Ok value) (Err LongValue)

abbrev shown : Bool → Bool → List ℕ → Result (List ℕ) Cause
shown same t value = cond same (sized t value) (Err BadHex)

value_of-shown : (limit : ℕ) (word : List ℕ) → value_of limit word ≡ shown (bytes_eq word (value_word (hex_bytes word))) (leb (length (hex_bytes word)) limit) (hex_bytes word)
unfolding value_of
value_of-shown limit word = refl

same_bytes : (xs ys : List ℕ) → xs ≡ ys → bytes_eq xs ys ≡ true
same_bytes xs ys e = (bytes_eq-Decides xs ys).1 e

filled_bytes : (word : List ℕ) → 0 < length word → length word % 2 ≡ 0 → 0 < length (hex_bytes word)
unfolding hex_bytes
filled_bytes [] some even = absurd (omega arith)
filled_bytes (x ∷ []) some even = absurd (omega arith)
filled_bytes (x ∷ y ∷ word) some even = omega arith

pub length-hex_bytes : (word : List ℕ) → length (hex_bytes word) ≡ length word / 2
unfolding hex_bytes
length-hex_bytes [] = refl
length-hex_bytes (x ∷ []) = refl
length-hex_bytes (x ∷ y ∷ word) = omega (arith, length-hex_bytes word)

value_word-filled : (value : List ℕ) → 0 < length value → value_word value ≡ encode_lower value
value_word-filled [] some = absurd (omega arith)
value_word-filled (byte ∷ bytes) some = refl

hex_parts : (word : List ℕ) → is_hex_text word ≡ true → (0 < length word) × (length word % 2 ≡ 0) × (list_all is_lower_digit word ≡ true)
hex_parts word is =
    let one = and_both (not (eqb (length word) 0) && eqb (length word % 2) 0) (list_all is_lower_digit word) is in
    let two = and_both (not (eqb (length word) 0)) (eqb (length word % 2) 0) one.0 in
    let some = eqb-false (length word) 0 (not-true _ two.0) in
    (omega (arith, some), eqb-true _ _ two.1, one.1)

-- pairs of digits are taken up to the limit
pub value_of-hex : (limit : ℕ) (word : List ℕ) → is_hex_text word ≡ true → value_of limit word ≡ sized (leb (length (hex_bytes word)) limit) (hex_bytes word)
value_of-hex limit word is =
    let parts = hex_parts word is in
    let printed : value_word (hex_bytes word) ≡ word = value_word-filled (hex_bytes word) (filled_bytes word parts.0 parts.1) ∙ encode-hex_bytes word parts.1 parts.2 in
    value_of-shown limit word ∙ rw (same_bytes word (value_word (hex_bytes word)) (sym printed)) refl

pub value_of-value : (limit : ℕ) (word : List ℕ) → is_hex_text word ≡ true → length word / 2 ≤ limit → value_of limit word ≡ Ok (hex_bytes word)
value_of-value limit word is short = value_of-hex limit word is ∙ rw (le-leb (length (hex_bytes word)) limit (omega (arith, length-hex_bytes word))) refl

pub value_of-long : (limit : ℕ) (word : List ℕ) → is_hex_text word ≡ true → limit < length word / 2 → value_of limit word ≡ Err LongValue
value_of-long limit word is long = value_of-hex limit word is ∙ rw (lt-leb (length (hex_bytes word)) limit (omega (arith, length-hex_bytes word))) refl

-- a dash is taken as the empty value
pub value_of-dash : (limit : ℕ) → value_of limit (45 ∷ []) ≡ Ok []
unfolding hex_bytes
value_of-dash limit = value_of-shown limit (45 ∷ []) ∙ rw (le-leb 0 limit (omega arith)) refl

-- the printed form of what a word's pairs mean is a dash, or one pair or more
printed_is : (word value : List ℕ) → hex_bytes word ≡ value → word ≡ value_word value → ((word ≡ 45 ∷ []) × (value ≡ [])) ⊎ (ArePairs word × (0 < length value))
printed_is word [] h e = inl (e, refl)
printed_is word (byte ∷ bytes) h e = inr (pairs_printed word (e ∙ ap encode_lower (sym h)), omega arith)

not_filled : (n : ℕ) → 0 < n → not (eqb n 0) ≡ true
not_filled n some = rw (ne_eqb n 0 (λ e. omega (arith, e))) refl

is_hex-pairs : (word : List ℕ) → ArePairs word → 0 < length word → is_hex_text word ≡ true
is_hex-pairs word are some =
    and_true (not (eqb (length word) 0) && eqb (length word % 2) 0) _
    (and_true (not (eqb (length word) 0)) _ (not_filled (length word) some) (eq-eqb (length word % 2) 0 are.even)) are.digits

-- a word that is neither a dash nor one pair or more is refused
pub value_of-other : (limit : ℕ) (word : List ℕ) → is_hex_text word ≡ false → bytes_eq word (45 ∷ []) ≡ false → value_of limit word ≡ Err BadHex
value_of-other limit word lacks no_dash = by (bytes_eq word (value_word (hex_bytes word))) refl
  where
    by : (t : Bool) → bytes_eq word (value_word (hex_bytes word)) ≡ t → value_of limit word ≡ Err BadHex
    by false e = value_of-shown limit word ∙ rw e refl
    by true e =
        elim (printed_is word (hex_bytes word) refl ((bytes_eq-Decides word (value_word (hex_bytes word))).0 e)) [
          | inl dash ↦ absurd (both_ways _ no_dash (same_bytes word (45 ∷ []) dash.0))
          | inr are ↦ absurd (both_ways _ lacks (is_hex-pairs word are.0 (omega (arith, are.1, length-hex_bytes word))))
        ]

-- ---- the laws

-- what the slot of a value takes is the printed form of bytes within the limit
pub record IsValueWithin (limit : ℕ) (word value : List ℕ) : Type 0 where
  pub printed : word ≡ value_word value
  pub short : length value ≤ limit
  pub bytes : IsBytes value

shown_ok : (same t : Bool) (value taken : List ℕ) → shown same t value ≡ Ok taken → (same ≡ true) × (t ≡ true) × (value ≡ taken)
shown_ok true true value taken e = (refl, refl, cc)
shown_ok true false value taken e = absurd cc
shown_ok false t value taken e = absurd cc

pub value_takes : (limit : ℕ) (word value : List ℕ) → value_of limit word ≡ Ok value → IsValueWithin limit word value
value_takes limit word value e =
    let s = shown_ok (bytes_eq word (value_word (hex_bytes word))) (leb (length (hex_bytes word)) limit) (hex_bytes word) value (sym (value_of-shown limit word) ∙ e) in
    let printed = (bytes_eq-Decides word (value_word (hex_bytes word))).0 s.0 in
    let are : IsBytes (hex_bytes word) = elim (printed_is word (hex_bytes word) refl printed) [
      | inl dash ↦ subst IsBytes (sym dash.1) no_bytes
      | inr pairs ↦ pairs.0.bytes
    ] in
    subst (IsValueWithin limit word) s.2 (record { printed = printed; short = leb-true _ _ s.1; bytes = are })

-- the bytes of pairs in print are the bytes that were printed
hex_bytes-encode : (value : List ℕ) → IsBytes value → hex_bytes (encode_lower value) ≡ value
unfolding hex_bytes encode_with
hex_bytes-encode [] fits = refl
hex_bytes-encode (byte ∷ bytes) fits =
    let small : byte < 256 = fits 0 in
    let high = digit_of_glyph (byte / 16) (omega arith) in
    let low = digit_of_glyph (byte % 16) (omega arith) in
    let up : hex_value (get_or lower_digits (byte / 16) 0) ≡ byte / 16 = ap hex_value (glyph_is (byte / 16) (omega arith)) ∙ high.1 in
    let down : hex_value (get_or lower_digits (byte % 16) 0) ≡ byte % 16 = ap hex_value (glyph_is (byte % 16) (omega arith)) ∙ low.1 in
    let whole : hex_value (get_or lower_digits (byte / 16) 0) * 16 + hex_value (get_or lower_digits (byte % 16) 0) ≡ byte = omega (arith, up, down) in
    ap (λ (b : ℕ). b ∷ hex_bytes (encode_lower bytes)) whole ∙ ap (λ (bs : List ℕ). byte ∷ bs) (hex_bytes-encode bytes (λ i. fits (suc i)))

hex_bytes-value_word : (value : List ℕ) → IsBytes value → hex_bytes (value_word value) ≡ value
unfolding hex_bytes
hex_bytes-value_word [] fits = refl
hex_bytes-value_word (byte ∷ bytes) fits = hex_bytes-encode (byte ∷ bytes) fits

-- the printed form of bytes within the limit is taken
pub value_again : (limit : ℕ) (value : List ℕ) → IsBytes value → length value ≤ limit → value_of limit (value_word value) ≡ Ok value
value_again limit value fits short =
    let back = hex_bytes-value_word value fits in
    value_of-shown limit (value_word value)
    ∙ rw (back, same_bytes (value_word value) (value_word value) refl, le-leb (length value) limit short) refl
