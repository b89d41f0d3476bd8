-- The lines of a kind: what is read is their rows, and such rows are read again.
use Rattle.std.proofs.Common.{◌≡◌, ℕ, ◌⊎◌, Bool, true, false, cond, ◌&&◌, eqb, List, [], ◌∷◌, ◌++◌, length, map, Result, Ok, refl, sym, ap, subst, ◌∙◌, inl, inr}
use Rattle.std.specs.List.{list_all}
use Rattle.std.proofs.lemmas.Bool.{and_from}
use Rattle.hy_base.specs.Results.{◌>>=◌}
use Rattle.hy_base.proofs.Results.{bind_ok, ok_is}
use Rattle.hy_base.specs.declared.fault.TextFault.{TextFault}
use Rattle.hy_text.specs.Gives.{at_line, next_number}
use Rattle.hy_text.specs.Kind.{Kind, item_in, is_next_due, items_from, nothing_in}
use Rattle.hy_text.specs.Line.{Line, ended_line, text_of, lines_of, lines_of_pieces, words_of, pieces_at, first_word, later_words}
use Rattle.hy_text.specs.OpenLine.{OpenLine, Rest, opened}
use Rattle.hy_text.specs.Slot.{end_of_line}
use Rattle.hy_text.proofs.Pieces.{pieces_at-some}
use Rattle.hy_text.proofs.Rows.{text_of-lines_of}
use Rattle.hy_text.proofs.Slots.{at_line_ok, ended_ok}

-- ---- the rows of lines

-- the rows of lines
abbrev pub rows_in : List OpenLine → List (List (List ℕ))
rows_in lines = map (λ (line : OpenLine). line.keyword ∷ line.words) lines

abbrev pub all_ended : List OpenLine → Bool
all_ended lines = list_all (λ (line : OpenLine). line.ended) lines

-- the row as a line that is read
abbrev pub line_of_row : List (List ℕ) → OpenLine
line_of_row row = opened (ended_line row)

opened_words : (bytes : List ℕ) → first_word (words_of bytes) ∷ later_words (words_of bytes) ≡ words_of bytes
opened_words bytes =
    let some = pieces_at-some 32 bytes in
    subst (λ (ws : List (List ℕ)). first_word ws ∷ later_words ws ≡ ws) (sym some.2) refl

abbrev last_lines : List ℕ → Bool → List Line
last_lines last empty = cond empty [] (record { words = words_of last; ended = false } ∷ [])

opened_last : (last : List ℕ) (empty : Bool) → rows_in (map opened (last_lines last empty)) ≡ map (λ (line : Line). line.words) (last_lines last empty)
opened_last last true = refl
opened_last last false = ap (λ (row : List (List ℕ)). row ∷ []) (opened_words last)

opened_pieces : (pieces : List (List ℕ)) → rows_in (map opened (lines_of_pieces pieces)) ≡ map (λ (line : Line). line.words) (lines_of_pieces pieces)
opened_pieces [] = refl
opened_pieces (last ∷ []) = opened_last last (eqb (length last) 0)
opened_pieces (piece ∷ next ∷ more) =
    ap (λ (row : List (List ℕ)). row ∷ rows_in (map opened (lines_of_pieces (next ∷ more)))) (opened_words piece)
    ∙ ap (λ (rows : List (List (List ℕ))). words_of piece ∷ rows) (opened_pieces (next ∷ more))

rows_of_text : (text : List ℕ) → rows_in (map opened (lines_of text)) ≡ map (λ (line : Line). line.words) (lines_of text)
unfolding lines_of
rows_of_text text = opened_pieces (pieces_at 10 text)

ends_of : (lines : List Line) → all_ended (map opened lines) ≡ list_all (λ (line : Line). line.ended) lines
ends_of [] = refl
ends_of (line ∷ lines) = ap (λ (b : Bool). line.ended && b) (ends_of lines)

-- a text whose lines all end is the text of their rows
pub text_of-rows : (text : List ℕ) (rows : List (List (List ℕ))) → rows_in (map opened (lines_of text)) ≡ rows → all_ended (map opened (lines_of text)) ≡ true → text ≡ text_of rows
text_of-rows text rows is ended = sym (text_of-lines_of text (sym (ends_of (lines_of text)) ∙ ended)) ∙ ap text_of (sym (rows_of_text text) ∙ is)

-- the lines of the text of these rows
abbrev pub lines_written : List (List (List ℕ)) → List OpenLine
lines_written rows = map opened (map ended_line rows)

pub lines_written-rows : {A : Type 0} (row_of : A → List (List ℕ)) (items : List A) (rows : List (List (List ℕ))) → lines_written (map row_of items ++ rows) ≡ map (λ item. line_of_row (row_of item)) items ++ lines_written rows
lines_written-rows row_of [] rows = refl
lines_written-rows row_of (item ∷ items) rows = ap (λ (lines : List OpenLine). line_of_row (row_of item) ∷ lines) (lines_written-rows row_of items rows)

-- ---- one line

-- a line that is read has its end
pub item_ok : {S A : Type 0} (kind : Kind S A) (before : S) (line : OpenLine) (item : A) → item_in kind before line ≡ Ok item → (line.ended ≡ true) × (kind.read before line.keyword line.words ≡ Ok item)
item_ok kind before line item e =
    let read = bind_ok (kind.read before line.keyword line.words) (λ item. end_of_line line.ended >>= λ _. Ok item) item e in
    let end = bind_ok (end_of_line line.ended) (λ _. Ok read.0) item read.2 in
    (ended_ok line.ended end.0 end.1, read.1 ∙ end.2)

-- the words are the row of the item, and the item fits what stands before
pub record IsRowOf {S A : Type 0} (row_of : A → List (List ℕ)) (Fits : S → A → Type 0) (before : S) (words : List (List ℕ)) (item : A) : Type 0 where
  pub row : words ≡ row_of item
  pub fits : Fits before item

-- what the reader of the kind says of a line that is due, where what stands before it is as it has to be
abbrev pub Takes : {S A : Type 0} → Kind S A → (A → List (List ℕ)) → (S → A → Type 0) → (S → Type 0) → Type 0
Takes {S = S} {A = A} kind row_of Fits Holds =
    (before : S) (keyword : List ℕ) (words : List (List ℕ)) (item : A) → Holds before → kind.is_due before keyword ≡ true → kind.read before keyword words ≡ Ok item → IsRowOf row_of Fits before (keyword ∷ words) item

-- a line of an item that fits is due, and is read again
abbrev pub ReadsAgain : {S A : Type 0} → Kind S A → (A → List (List ℕ)) → (S → A → Type 0) → Type 0
ReadsAgain {S = S} {A = A} kind row_of Fits =
    (before : S) (item : A) → Fits before item → (kind.is_due before (first_word (row_of item)) ≡ true) × (kind.read before (first_word (row_of item)) (later_words (row_of item)) ≡ Ok item)

-- ---- all lines of a kind

-- each item fits what stands before it
abbrev pub FitAlong : {S A : Type 0} → Kind S A → (S → A → Type 0) → S → List A → Type 0
FitAlong kind Fits before [] = Unit {0}
FitAlong kind Fits before (item ∷ items) = Fits before item × FitAlong kind Fits (kind.next before item) items

-- what stands before the next line, after the items
abbrev pub state_after : {S A : Type 0} → Kind S A → S → List A → S
state_after kind before [] = before
state_after kind before (item ∷ items) = state_after kind (kind.next before item) items

-- the lines are the rows of the items, each with its end, and then those that are left, of which the first is of another kind
pub record AreLinesOf {S A : Type 0} (kind : Kind S A) (row_of : A → List (List ℕ)) (Fits : S → A → Type 0) (before : S) (lines : List OpenLine) (read : List A × Rest) : Type 0 where
  pub rows : rows_in lines ≡ map row_of read.0 ++ rows_in read.1.lines
  pub ended : all_ended read.1.lines ≡ true → all_ended lines ≡ true
  pub fits : FitAlong kind Fits before read.0
  pub other : is_next_due kind (state_after kind before read.0) read.1.lines ≡ false

chosen_due : {A : Type 0} (b : Bool) (here other : Result A TextFault) (x : A) → cond b here other ≡ Ok x → ((b ≡ true) × (here ≡ Ok x)) ⊎ ((b ≡ false) × (other ≡ Ok x))
chosen_due true here other x e = inl (refl, e)
chosen_due false here other x e = inr (refl, e)

pub items_take : {S A : Type 0} (kind : Kind S A) (row_of : A → List (List ℕ)) (Fits : S → A → Type 0) (Holds : S → Type 0)
    → Takes kind row_of Fits Holds → ((before : S) (item : A) → Holds before → Holds (kind.next before item))
    → (before : S) (number : ℕ) (lines : List OpenLine) (read : List A × Rest) → Holds before → items_from kind before number lines ≡ Ok read → AreLinesOf kind row_of Fits before lines read
unfolding items_from
items_take {A = A} kind row_of Fits Holds each keeps before number [] read holds e =
    let none : List A × Rest = ([], record { number = number; lines = [] }) in
    subst (AreLinesOf kind row_of Fits before []) (ok_is none read e) (record { rows = refl; ended = λ e. e; fits = tt; other = refl })
items_take {A = A} kind row_of Fits Holds each keeps before number (line ∷ lines) read holds e =
    elim (chosen_due (kind.is_due before line.keyword) _ (Ok ([], record { number = number; lines = line ∷ lines })) read e) [
      | inl here ↦
          let item = bind_ok (at_line number (item_in kind before line)) _ read here.1 in
          let more = bind_ok (items_from kind (kind.next before item.0) (next_number number) lines) (λ more. Ok (item.0 ∷ more.0, more.1)) read item.2 in
          let parts = item_ok kind before line item.0 (at_line_ok number (item_in kind before line) item.0 item.1) in
          let one = each before line.keyword line.words item.0 holds here.0 parts.1 in
          let rest = items_take kind row_of Fits Holds each keeps (kind.next before item.0) (next_number number) lines more.0 (keeps before item.0 holds) more.1 in
          subst (AreLinesOf kind row_of Fits before (line ∷ lines)) (ok_is (item.0 ∷ more.0.0, more.0.1) read more.2)
          (record {
            rows = ap (λ (row : List (List ℕ)). row ∷ rows_in lines) one.row ∙ ap (λ (rows : List (List (List ℕ))). row_of item.0 ∷ rows) rest.rows;
            ended = λ ended. and_from line.ended (all_ended lines) parts.0 (rest.ended ended);
            fits = (one.fits, rest.fits);
            other = rest.other;
          })
      | inr there ↦
          let none : List A × Rest = ([], record { number = number; lines = line ∷ lines }) in
          subst (AreLinesOf kind row_of Fits before (line ∷ lines)) (ok_is none read there.1) (record { rows = refl; ended = λ e. e; fits = tt; other = there.0 })
    ]

pub items_again : {S A : Type 0} (kind : Kind S A) (row_of : A → List (List ℕ)) (Fits : S → A → Type 0) → ReadsAgain kind row_of Fits
    → (before : S) (number : ℕ) (items : List A) (left : List OpenLine) → FitAlong kind Fits before items → is_next_due kind (state_after kind before items) left ≡ false
    → (last : ℕ) × (items_from kind before number (map (λ item. line_of_row (row_of item)) items ++ left) ≡ Ok (items, record { number = last; lines = left }))
unfolding items_from
items_again kind row_of Fits each before number [] [] fits other = (number, refl)
items_again kind row_of Fits each before number [] (line ∷ left) fits other = (number, rw other refl)
items_again kind row_of Fits each before number (item ∷ items) left fits other =
    let one = each before item fits.0 in
    let more = items_again kind row_of Fits each (kind.next before item) (next_number number) items left fits.1 other in
    (more.0, rw (one.0, one.1, more.1) refl)

-- ---- the end of the lines

pub none_left : (number : ℕ) (lines : List OpenLine) (u : Unit {0}) → nothing_in number lines ≡ Ok u → lines ≡ []
none_left number [] u e = refl
none_left number (line ∷ lines) u e = absurd cc
