-- The laws of lines: rows that are written are read again, and a text whose lines all end is the text of its words.
use Rattle.std.proofs.Common.{◌≡◌, ℕ, Bool, true, false, cond, not, eqb, List, [], ◌∷◌, ◌++◌, length, map, refl, sym, ap, ◌∙◌, append_assoc}
use Rattle.std.specs.List.{AllByRecursion, join_with_byte, list_all}
use Rattle.std.proofs.lemmas.Bool.{eqb-true, eq-eqb, not-true}
use Rattle.std.proofs.lemmas.List.{nil_from_length}
use Rattle.std.proofs.lemmas.List.Elements.{All-from_recursion}
use Rattle.std.proofs.lemmas.List.Splits.{slice_split_at, slice_split_none, join_with_byte-slice_split}
use Rattle.hy_text.specs.Line.{Line, pieces_at, words_of, lines_of, lines_of_pieces, ended_line, line_text, text_of, is_word_byte, is_word, is_row}
use Rattle.hy_text.proofs.Bools.{and_both}
use Rattle.hy_text.proofs.Pieces.{lines_of-cut, lines_of-none}

-- ---- a row is read again

-- no byte of these is the separator
abbrev pub Lacks : ℕ → List ℕ → Type 0
Lacks c bytes = AllByRecursion (λ b. eqb b c ≡ false) bytes

lacks_feed : (word : List ℕ) → is_word word ≡ true → Lacks 10 word
lacks_feed [] is = tt
lacks_feed (b ∷ word) is =
    let parts = and_both (is_word_byte b) (is_word word) is in
    (not-true _ (and_both (not (eqb b 10)) (not (eqb b 32)) parts.0).0, lacks_feed word parts.1)

lacks_space : (word : List ℕ) → is_word word ≡ true → Lacks 32 word
lacks_space [] is = tt
lacks_space (b ∷ word) is =
    let parts = and_both (is_word_byte b) (is_word word) is in
    (not-true _ (and_both (not (eqb b 10)) (not (eqb b 32)) parts.0).1, lacks_space word parts.1)

lacks-append : (c : ℕ) (xs ys : List ℕ) → Lacks c xs → Lacks c ys → Lacks c (xs ++ ys)
lacks-append c [] ys l m = m
lacks-append c (x ∷ xs) ys l m = (l.0, lacks-append c xs ys l.1 m)

lacks-join : (row : List (List ℕ)) → list_all is_word row ≡ true → Lacks 10 (join_with_byte 32 row)
lacks-join [] is = tt
lacks-join (word ∷ []) is = lacks_feed word (and_both (is_word word) true is).0
lacks-join (word ∷ next ∷ row) is =
    let parts = and_both (is_word word) (list_all is_word (next ∷ row)) is in
    lacks-append 10 word (32 ∷ join_with_byte 32 (next ∷ row)) (lacks_feed word parts.0) (refl, lacks-join (next ∷ row) parts.1)

-- words that lack the separator are the pieces between separators
pub pieces_at-join : (c : ℕ) (word : List ℕ) (words : List (List ℕ)) → AllByRecursion (Lacks c) (word ∷ words) → pieces_at c (join_with_byte c (word ∷ words)) ≡ word ∷ words
pieces_at-join c word [] lack = slice_split_none (λ b. eqb b c) word (All-from_recursion _ word lack.0)
pieces_at-join c word (next ∷ words) lack =
    slice_split_at (λ b. eqb b c) word c (join_with_byte c (next ∷ words)) (All-from_recursion _ word lack.0) (eq-eqb c c refl)
    ∙ ap (λ (ws : List (List ℕ)). word ∷ ws) (pieces_at-join c next words lack.1)

words_lack_space : (row : List (List ℕ)) → list_all is_word row ≡ true → AllByRecursion (Lacks 32) row
words_lack_space [] is = tt
words_lack_space (word ∷ row) is = let parts = and_both (is_word word) (list_all is_word row) is in (lacks_space word parts.0, words_lack_space row parts.1)

-- the words of a row that is written are the words of the row
pub words_of-row : (row : List (List ℕ)) → is_row row ≡ true → words_of (join_with_byte 32 row) ≡ row
words_of-row [] is = absurd cc
words_of-row (word ∷ row) is = pieces_at-join 32 word row (words_lack_space (word ∷ row) is)

all_words : (row : List (List ℕ)) → is_row row ≡ true → list_all is_word row ≡ true
all_words [] is = refl
all_words (word ∷ row) is = is

-- the first line of a text of rows is the first row
pub lines_of-row : (row : List (List ℕ)) (rest : List ℕ) → is_row row ≡ true → lines_of (line_text row ++ rest) ≡ ended_line row ∷ lines_of rest
lines_of-row row rest is =
    let words = join_with_byte 32 row in
    let regrouped : line_text row ++ rest ≡ words ++ (10 ∷ rest) = append_assoc words (10 ∷ []) rest in
    let cut : pieces_at 10 (line_text row ++ rest) ≡ words ∷ pieces_at 10 rest =
    ap (pieces_at 10) regrouped ∙ slice_split_at (λ b. eqb b 10) words 10 rest (All-from_recursion _ words (lacks-join row (all_words row is))) refl in
    lines_of-cut (line_text row ++ rest) words rest cut ∙ ap (λ (ws : List (List ℕ)). ended_line ws ∷ lines_of rest) (words_of-row row is)

-- the lines of a text of rows are the rows, each with its end
pub lines_of-text_of : (rows : List (List (List ℕ))) → list_all is_row rows ≡ true → lines_of (text_of rows) ≡ map ended_line rows
lines_of-text_of [] are = lines_of-none [] refl
lines_of-text_of (row ∷ rows) are =
    let parts = and_both (is_row row) (list_all is_row rows) are in
    lines_of-row row (text_of rows) parts.0 ∙ ap (λ (ls : List Line). ended_line row ∷ ls) (lines_of-text_of rows parts.1)

-- ---- a text is the text of its words

abbrev words_in : List Line → List (List (List ℕ))
words_in lines = map (λ line. line.words) lines

last_piece : (last : List ℕ) (t : Bool) → eqb (length last) 0 ≡ t → list_all (λ (line : Line). line.ended) (cond t [] (record { words = words_of last; ended = false } ∷ [])) ≡ true
    → text_of (words_in (cond t [] (record { words = words_of last; ended = false } ∷ []))) ≡ last
last_piece last true e ended = sym (nil_from_length last (eqb-true _ _ e))
last_piece last false e ended = absurd cc

text_of-pieces : (pieces : List (List ℕ)) → list_all (λ (line : Line). line.ended) (lines_of_pieces pieces) ≡ true → text_of (words_in (lines_of_pieces pieces)) ≡ join_with_byte 10 pieces
text_of-pieces [] ended = refl
text_of-pieces (last ∷ []) ended = last_piece last (eqb (length last) 0) refl ended
text_of-pieces (piece ∷ next ∷ more) ended =
    let joined : join_with_byte 32 (words_of piece) ≡ piece = join_with_byte-slice_split 32 piece in
    let later = text_of-pieces (next ∷ more) ended in
    rw (joined, later) (append_assoc piece (10 ∷ []) (join_with_byte 10 (next ∷ more)))

-- a text whose lines all end is the text of the words of its lines
pub text_of-lines_of : (text : List ℕ) → list_all (λ (line : Line). line.ended) (lines_of text) ≡ true → text_of (map (λ (line : Line). line.words) (lines_of text)) ≡ text
unfolding lines_of
text_of-lines_of text ended = text_of-pieces (pieces_at 10 text) ended ∙ join_with_byte-slice_split 10 text
