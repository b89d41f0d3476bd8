-- Lines of a text whose first word is known before the rest is read.
use Rattle.std.specs.Prelude.{◌≡◌, ℕ, Bool, List, [], ◌∷◌, map, Option, Some, None}
use Rattle.hy_text.specs.Gives.{next_number}
use Rattle.hy_text.specs.Line.{Line, first_word, later_words}
use Rattle.hy_text.specs.declared.cursor.OpenLine as given

-- a line: its first word, the words after it, and whether a line feed ends it
pub record OpenLine : Type 0 where
  pub keyword : List ℕ
  pub words : List (List ℕ)
  pub ended : Bool

-- what is left of a text: its lines, and the number of the first of them
pub record Rest : Type 0 where
  pub number : ℕ
  pub lines : List OpenLine

-- the line, with its first word apart
abbrev pub opened : Line → OpenLine
opened line = record { keyword = first_word line.words; words = later_words line.words; ended = line.ended }

-- a line that the cursor gives, as a line of the text
abbrev pub opened_seen : given.OpenLine → OpenLine
opened_seen line = record { keyword = line.keyword.now; words = line.words; ended = line.ended }

-- the lines left where the next one, if there is any, is open
abbrev pub lines_left : Option given.OpenLine → List Line → List OpenLine
lines_left None later = []
lines_left (Some line) later = opened_seen line ∷ map opened later

-- the first word of the next line
abbrev pub next_keyword : List OpenLine → Option (List ℕ)
next_keyword [] = None
next_keyword (line ∷ lines) = Some line.keyword

-- the next line, if there is any, has the number
abbrev pub HasNumber : ℕ → Option given.OpenLine → Type 0
HasNumber number None = Unit {0}
HasNumber number (Some line) = line.number ≡ number

-- the line was the next one, and those after it are left
pub record IsNextLine (old : Rest) (line : given.OpenLine) (new : Rest) : Type 0 where
  pub lines : old.lines ≡ opened_seen line ∷ new.lines
  pub here : line.number ≡ old.number
  pub number : new.number ≡ next_number old.number
