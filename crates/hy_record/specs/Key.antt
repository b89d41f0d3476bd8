-- Keys: which texts spell one, and what is wrong with the others.
use Rattle.std.specs.Prelude.{ℕ, Bool, false, ◌&&◌, ◌||◌, ◌==◌, not, nat_lt, nat_le, List, [], ◌∷◌, length, Option, Some, None, Result, Ok, Err, if◌then◌else◌}
use Rattle.std.specs.List.{list_all, position}
use Rattle.std.specs.Cmp.Lexicographic.{pointwise}
use Rattle.hy_base.specs.declared.limits.TheConstants.{MAX_KEY}
use Rattle.hy_record.specs.declared.key.KeyFault.{KeyFault}
use Rattle.hy_record.specs.declared.key.KeyFault.TheVariants.{Empty, TooLong, BadByte}

-- a small letter, a digit, or one of - _ .
abbrev pub is_key_byte : ℕ → Bool
is_key_byte b = (nat_le 97 b && nat_le b 122) || (nat_le 48 b && nat_le b 57) || (b == 45) || (b == 95) || (b == 46)

-- the text spells a key
abbrev pub is_key : List ℕ → Bool
is_key text = nat_lt 0 (length text) && nat_le (length text) MAX_KEY && list_all is_key_byte text

-- the first byte that no key has, or none
abbrev pub first_bad_byte : List ℕ → Option ℕ
first_bad_byte text = position (λ b. not (is_key_byte b)) text

abbrev pub with_bytes : List ℕ → Option ℕ → Result (List ℕ) KeyFault
with_bytes text None = Ok text
with_bytes text (Some place) = Err (BadByte place)

-- the key that the text spells, or what is wrong with it
abbrev pub key_of : List ℕ → Result (List ℕ) KeyFault
key_of text =
    if length text == 0 then Err Empty
    else if nat_lt MAX_KEY (length text) then Err (TooLong (length text))
    else with_bytes text (first_bad_byte text)

-- the two are one
unfoldable pub key_eq : List ℕ → List ℕ → Bool
key_eq a b = pointwise ◌==◌ a b

-- swaps alone write the key: it begins with an underscore
abbrev pub is_cell : List ℕ → Bool
is_cell [] = false
is_cell (first ∷ others) = first == 95
