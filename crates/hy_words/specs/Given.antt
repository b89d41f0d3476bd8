-- The option of a command, which stands anywhere among its operands.
use Rattle.std.specs.Prelude.{ℕ, ◌==◌, Bool, false, ◌+◌, List, [], ◌∷◌, ◌++◌, take, drop, get_or, Option, Some, None, Result, Ok, codes, if◌then◌else◌}
use Rattle.std.specs.List.{position}
use Rattle.std.specs.Str.{bytes_eq}
use Rattle.hy_base.specs.Results.{◌>>=◌}
use Rattle.hy_base.specs.declared.fault.Cause.{Cause}
use Rattle.hy_base.specs.declared.limits.TheConstants.{MAX_COUNT}
use Rattle.hy_text.specs.Line.{first_word, later_words}
use Rattle.hy_text.specs.Slot.{keyword, number_of}

-- an option begins with a dash
abbrev pub is_option : List ℕ → Bool
is_option [] = false
is_option (byte ∷ bytes) = byte == 45

-- the words behind the name of a command: its operands, and how many arrivals the option gives, where it stands there
pub record Given : Type 0 where
  pub operands : List (List ℕ)
  pub arrivals : Option ℕ

-- a number of arrivals
abbrev pub arrivals_of : List ℕ → Result ℕ Cause
arrivals_of word = number_of 1 MAX_COUNT word

-- the option in a word of its own, with its number in the next word
abbrev pub with_next : List (List ℕ) → List (List ℕ) → Result Given Cause
with_next before after =
    arrivals_of (first_word after) >>= λ number.
    Ok (record { operands = before ++ later_words after; arrivals = Some number })

-- the option in one word with its number, behind `--arrivals=`
abbrev pub with_own : List (List ℕ) → List ℕ → List (List ℕ) → Result Given Cause
with_own before word after =
    keyword (codes "--arrivals=") (take 11 word) >>= λ _.
    arrivals_of (drop 11 word) >>= λ number.
    Ok (record { operands = before ++ after; arrivals = Some number })

-- the words before an option, its word, and those after it
unfoldable pub given_with : List (List ℕ) → List ℕ → List (List ℕ) → Result Given Cause
given_with before word after =
    if bytes_eq word (codes "--arrivals") then with_next before after else with_own before word after

-- the words, and the place of the first option among them
abbrev pub given_at : List (List ℕ) → Option ℕ → Result Given Cause
given_at words None = Ok (record { operands = words; arrivals = None })
given_at words (Some place) = given_with (take place words) (get_or words place []) (drop (place + 1) words)

-- the operands of these words, and the option that stands first among them
abbrev pub given_of : List (List ℕ) → Result Given Cause
given_of words = given_at words (position is_option words)
