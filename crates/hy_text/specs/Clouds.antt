-- Sets of clouds in a text: their numbers in increasing order with commas between, or a dash.
use Rattle.std.specs.Prelude.{ℕ, ◌+◌, ◌^◌, ◌≤◌, if◌then◌else◌, List, [], ◌∷◌, map, codes, Result, Ok}
use Rattle.std.specs.Fmt.{decimal}
use Rattle.std.specs.List.{join_with_byte}
use Rattle.std.specs.Str.{bytes_eq}
use Rattle.hy_base.specs.Results.{◌>>=◌}
use Rattle.hy_base.specs.declared.fault.Cause.{Cause}
use Rattle.hy_text.specs.Line.{pieces_at}
use Rattle.hy_text.specs.Slot.{number_of}

-- a list of clouds, with commas between; a dash for none
abbrev pub cloud_word : List ℕ → List ℕ
cloud_word [] = codes "-"
cloud_word (cloud ∷ clouds) = join_with_byte 44 (map decimal (cloud ∷ clouds))

-- the numbers increase, from the least on, and are at most the last
abbrev pub AreRising : ℕ → ℕ → List ℕ → Type 0
AreRising least last [] = Unit {0}
AreRising least last (number ∷ numbers) = (least ≤ number) × (number ≤ last) × AreRising (number + 1) last numbers

-- numbers that increase, from the least on and at most the last: all words
unfoldable pub rising_of : ℕ → ℕ → List (List ℕ) → Result (List ℕ) Cause
rising_of least last [] = Ok []
rising_of least last (word ∷ words) =
    number_of least last word >>= λ number.
    rising_of (number + 1) last words >>= λ numbers.
    Ok (number ∷ numbers)

-- the slot of a list of clouds up to the last
unfoldable pub cloud_list_of : ℕ → List ℕ → Result (List ℕ) Cause
cloud_list_of last word = if bytes_eq word (codes "-") then Ok [] else rising_of 0 last (pieces_at 44 word)

-- the set of these clouds: bit i is cloud i
abbrev pub set_of_clouds : List ℕ → ℕ
set_of_clouds [] = 0
set_of_clouds (cloud ∷ clouds) = 2 ^ cloud + set_of_clouds clouds

-- the set of these numbers, where they are read
abbrev pub as_set : Result (List ℕ) Cause → Result ℕ Cause
as_set read = read >>= λ clouds. Ok (set_of_clouds clouds)

-- the slot of a set of clouds up to the last
abbrev pub cloud_set_of : ℕ → List ℕ → Result ℕ Cause
cloud_set_of last word = as_set (cloud_list_of last word)
