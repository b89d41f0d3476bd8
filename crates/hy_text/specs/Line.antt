-- The lines of a text and the words of a line, from both sides: what a writer joins, and what a reader splits.
use Rattle.std.specs.Prelude.{ℕ, ◌==◌, Bool, true, false, not, ◌&&◌, List, [], ◌∷◌, ◌++◌, Option, Some, None, if◌then◌else◌, length}
use Rattle.std.specs.List.{flat_map, join_with_byte, list_all, slice_split}

-- a line of a text: its words, and whether a line feed ends it
pub record Line : Type 0 where
  pub words : List (List ℕ)
  pub ended : Bool

-- ---- the writer's side: a line is a row of words

-- a row of words as a line, with a space between each two
abbrev pub line_text : List (List ℕ) → List ℕ
line_text words = join_with_byte 32 words ++ 10 ∷ []

-- each word with the separator before it
abbrev pub led_by : ℕ → List (List ℕ) → List ℕ
led_by separator [] = []
led_by separator (word ∷ words) = separator ∷ word ++ led_by separator words

-- each word with a space before it, as after the first of a line
abbrev pub spaced : List (List ℕ) → List ℕ
spaced words = led_by 32 words

-- the rows as lines, one after the other
abbrev pub text_of : List (List (List ℕ)) → List ℕ
text_of rows = flat_map line_text rows

-- a row as a line that ends
abbrev pub ended_line : List (List ℕ) → Line
ended_line words = record { words = words; ended = true }

-- a byte that may stand in a word: neither a line feed nor a space
abbrev pub is_word_byte : ℕ → Bool
is_word_byte b = not (b == 10) && not (b == 32)

-- a word that a reader finds again in its line
abbrev pub is_word : List ℕ → Bool
is_word word = list_all is_word_byte word

-- a row that a reader finds again in its text: one word or more
abbrev pub is_row : List (List ℕ) → Bool
is_row [] = false
is_row (word ∷ row) = is_word word && list_all is_word row

-- ---- the reader's side

-- what stands before, between and after the bytes that separate
abbrev pub pieces_at : ℕ → List ℕ → List (List ℕ)
pieces_at separator bytes = slice_split (λ b. b == separator) bytes

-- the words of a line; those of an empty line are one, the empty word
abbrev pub words_of : List ℕ → List (List ℕ)
words_of line = pieces_at 32 line

-- the lines that pieces between line feeds make: the last of them has no end, and is a line only where it has a byte
abbrev pub lines_of_pieces : List (List ℕ) → List Line
lines_of_pieces [] = []
lines_of_pieces (last ∷ []) = if length last == 0 then [] else record { words = words_of last; ended = false } ∷ []
lines_of_pieces (piece ∷ next ∷ more) = ended_line (words_of piece) ∷ lines_of_pieces (next ∷ more)

-- the lines of a text
unfoldable pub lines_of : List ℕ → List Line
lines_of text = lines_of_pieces (pieces_at 10 text)

-- ---- the words left of a row

-- the pieces of the bytes that are left, where any part of a row is left
abbrev pub pieces_left : ℕ → Option (List ℕ) → List (List ℕ)
pieces_left separator None = []
pieces_left separator (Some rest) = pieces_at separator rest

-- the first word, or the empty word where none is left
abbrev pub first_word : List (List ℕ) → List ℕ
first_word [] = []
first_word (word ∷ words) = word

-- the words after the first
abbrev pub later_words : List (List ℕ) → List (List ℕ)
later_words [] = []
later_words (word ∷ words) = words
