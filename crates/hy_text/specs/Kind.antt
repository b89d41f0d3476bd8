-- Kinds of lines: what a line tells by its words and by what stands before it.
use Rattle.std.specs.Prelude.{ℕ, Bool, false, if◌then◌else◌, List, [], ◌∷◌, Result, Ok, Err}
use Rattle.hy_base.specs.Results.{◌>>=◌}
use Rattle.hy_base.specs.Results as results
use Rattle.hy_base.specs.declared.fault.Cause.{Cause}
use Rattle.hy_base.specs.declared.fault.Cause.TheVariants.{Extra}
use Rattle.hy_base.specs.declared.fault.TextError.{TextError}
use Rattle.hy_base.specs.declared.fault.TextFault.{TextFault}
use Rattle.hy_text.specs.Gives.{text_fault_of, at_line, next_number}
use Rattle.hy_text.specs.OpenLine.{OpenLine, Rest}
use Rattle.hy_text.specs.Slot.{end_of_line}

-- a kind of line: whether one is due where the next line has this first word, what its first word and the words
-- after it tell, and what then stands before the next line
pub record Kind (S A : Type 0) : Type 0 where
  pub is_due : S → List ℕ → Bool
  pub read : S → List ℕ → List (List ℕ) → Result A Cause
  pub next : S → A → S

-- what a line of the kind tells, where the line has its end
abbrev pub item_in : {S A : Type 0} → Kind S A → S → OpenLine → Result A Cause
item_in kind before line = kind.read before line.keyword line.words >>= λ item. end_of_line line.ended >>= λ _. Ok item

-- a line of the kind is due next
abbrev pub is_next_due : {S A : Type 0} → Kind S A → S → List OpenLine → Bool
is_next_due kind before [] = false
is_next_due kind before (line ∷ lines) = kind.is_due before line.keyword

-- what the lines of the kind tell, as long as one is due, and what is left after them; so much stands before, and the next line has this number
unfoldable pub items_from : {S A : Type 0} → Kind S A → S → ℕ → List OpenLine → Result (List A × Rest) TextFault
items_from kind before number [] = Ok ([], record { number = number; lines = [] })
items_from kind before number (line ∷ lines) =
    if kind.is_due before line.keyword then
    (at_line number (item_in kind before line) >>= λ item.
    items_from kind (kind.next before item) (next_number number) lines >>= λ more.
    Ok (item ∷ more.0, more.1))
    else Ok ([], record { number = number; lines = line ∷ lines })

-- what the next line tells, which is of the kind, and what is left after it; the cause is that of a text without a next line
abbrev pub item_from : {S A : Type 0} → Cause → Kind S A → S → ℕ → List OpenLine → Result (A × Rest) TextFault
item_from missing kind before number [] = Err (record { line = number; cause = missing })
item_from missing kind before number (line ∷ lines) =
    at_line number (item_in kind before line) >>= λ item. Ok (item, record { number = next_number number; lines = lines })

-- no line is left
abbrev pub nothing_in : ℕ → List OpenLine → Result (Unit {0}) TextFault
nothing_in number [] = Ok tt
nothing_in number (line ∷ lines) = Err (record { line = number; cause = Extra })

-- the code answers what the definition answers, and leaves the lines that it leaves, or answers its fault; or memory ran out
abbrev pub TakesLines : {A B : Type 0} → (A → B) → Result A TextError → Rest → Result (B × Rest) TextFault → Type 0
TakesLines seen result left due = results.Gives text_fault_of (λ x. (seen x, left)) result due
