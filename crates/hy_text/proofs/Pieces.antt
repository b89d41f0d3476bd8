-- How one cut at a separator takes the first piece, and what that is to lines.
use Rattle.std.proofs.Common.{◌≡◌, ℕ, suc, ◌+◌, ◌<◌, ◌≤◌, Bool, true, false, cond, eqb, ltb, List, [], ◌∷◌, length, take, drop, Option, Some, None, Err, refl, sym, ap, subst, ◌∙◌, arith}
use Rattle.std.proofs.lemmas.Bool.{eqb-true, ltb-true, ltb-false}
use Rattle.std.specs.List.{onto_first, position, position_or_len}
use Rattle.std.proofs.lemmas.List.Splits.{slice_split_first, slice_split-cons_yes, slice_split-cons_no}
use Rattle.hy_base.specs.declared.fault.Cause.TheVariants.{Extra}
use Rattle.hy_text.specs.Line.{pieces_at, words_of, lines_of, lines_of_pieces, ended_line}
use Rattle.hy_text.specs.Slot.{end_of}

onto_is : (b : ℕ) (parts : List (List ℕ)) → (first : List ℕ) × (others : List (List ℕ)) × (onto_first b parts ≡ first ∷ others)
onto_is b [] = (b ∷ [], [], refl)
onto_is b (part ∷ parts) = (b ∷ part, parts, refl)

-- there is always a first piece
pub pieces_at-some : (separator : ℕ) (bytes : List ℕ) → (first : List ℕ) × (others : List (List ℕ)) × (pieces_at separator bytes ≡ first ∷ others)
pieces_at-some separator [] = ([], [], refl)
pieces_at-some separator (b ∷ bytes) = by (eqb b separator) refl
  where
    by : (t : Bool) → eqb b separator ≡ t → (first : List ℕ) × (others : List (List ℕ)) × (pieces_at separator (b ∷ bytes) ≡ first ∷ others)
    by true e = ([], pieces_at separator bytes, slice_split-cons_yes (λ x. eqb x separator) b bytes e)
    by false e = let o = onto_is b (pieces_at separator bytes) in (o.0, o.1, slice_split-cons_no (λ x. eqb x separator) b bytes e ∙ o.2)

-- an end is missed wherever bytes are left
pub end_of-pieces_at : (separator : ℕ) (bytes : List ℕ) → end_of (pieces_at separator bytes) ≡ Err Extra
end_of-pieces_at separator bytes = let p = pieces_at-some separator bytes in ap end_of p.2

-- how far the front without a separator reaches in a longer list
front-yes : (separator b : ℕ) (bytes : List ℕ) → eqb b separator ≡ true → position_or_len (λ x. eqb x separator) (b ∷ bytes) ≡ 0
front-yes separator b bytes e = rw e refl

front-no : (separator b : ℕ) (bytes : List ℕ) → eqb b separator ≡ false → position_or_len (λ x. eqb x separator) (b ∷ bytes) ≡ suc (position_or_len (λ x. eqb x separator) bytes)
front-no separator b bytes e = rw e (omega arith)

-- bytes without a separator are one piece
pub pieces_at-whole : (separator : ℕ) (bytes : List ℕ) → length bytes ≤ position_or_len (λ x. eqb x separator) bytes → pieces_at separator bytes ≡ bytes ∷ []
pieces_at-whole separator [] far = refl
pieces_at-whole separator (b ∷ bytes) far = by (eqb b separator) refl (λ le. pieces_at-whole separator bytes le)
  where
    by : (t : Bool) → eqb b separator ≡ t → (length bytes ≤ position_or_len (λ x. eqb x separator) bytes → pieces_at separator bytes ≡ bytes ∷ []) → pieces_at separator (b ∷ bytes) ≡ (b ∷ bytes) ∷ []
    by true e whole = absurd (omega (arith, front-yes separator b bytes e, far))
    by false e whole = slice_split-cons_no (λ x. eqb x separator) b bytes e ∙ ap (onto_first b) (whole (omega (arith, front-no separator b bytes e, far)))

abbrev found : (separator : ℕ) (bytes : List ℕ) → Bool → Option ℕ
found separator bytes t = cond t (Some (position_or_len (λ x. eqb x separator) bytes)) None

-- what the place of the first separator says of the pieces
pub pieces_at-none : (separator : ℕ) (bytes : List ℕ) → position (λ x. eqb x separator) bytes ≡ None → pieces_at separator bytes ≡ bytes ∷ []
pieces_at-none separator bytes e = by (ltb (position_or_len (λ x. eqb x separator) bytes) (length bytes)) refl e
  where
    by : (t : Bool) → ltb (position_or_len (λ x. eqb x separator) bytes) (length bytes) ≡ t → found separator bytes t ≡ None → pieces_at separator bytes ≡ bytes ∷ []
    by true lt e = absurd cc
    by false lt e = pieces_at-whole separator bytes (ltb-false _ _ lt)

pub pieces_at-place : (separator : ℕ) (bytes : List ℕ) (end : ℕ) → position (λ x. eqb x separator) bytes ≡ Some end → (end < length bytes) × (pieces_at separator bytes ≡ take end bytes ∷ pieces_at separator (drop (end + 1) bytes))
pieces_at-place separator bytes end e = by (ltb (position_or_len (λ x. eqb x separator) bytes) (length bytes)) refl e
  where
    by : (t : Bool) → ltb (position_or_len (λ x. eqb x separator) bytes) (length bytes) ≡ t → found separator bytes t ≡ Some end → (end < length bytes) × (pieces_at separator bytes ≡ take end bytes ∷ pieces_at separator (drop (end + 1) bytes))
    by true lt e =
        let same : position_or_len (λ x. eqb x separator) bytes ≡ end = cc in
        rw (← same) (ltb-true _ _ lt, slice_split_first (λ x. eqb x separator) bytes 0 (ltb-true _ _ lt))
    by false lt e = absurd cc

-- ---- lines

-- a cut at a line feed takes the first line, which ends there
pub lines_of-cut : (text line rest : List ℕ) → pieces_at 10 text ≡ line ∷ pieces_at 10 rest → lines_of text ≡ ended_line (words_of line) ∷ lines_of rest
unfolding lines_of
lines_of-cut text line rest e =
    let p = pieces_at-some 10 rest in
    let more : lines_of_pieces (line ∷ pieces_at 10 rest) ≡ ended_line (words_of line) ∷ lines_of_pieces (pieces_at 10 rest) = subst (λ (ps : List (List ℕ)). lines_of_pieces (line ∷ ps) ≡ ended_line (words_of line) ∷ lines_of_pieces ps) (sym p.2) refl in
    ap lines_of_pieces e ∙ more

-- what stands after the last line feed is a line without end
pub lines_of-last : (text : List ℕ) → pieces_at 10 text ≡ text ∷ [] → eqb (length text) 0 ≡ false → lines_of text ≡ record { words = words_of text; ended = false } ∷ []
unfolding lines_of
lines_of-last text e some = ap lines_of_pieces e ∙ rw some refl

-- nothing is no line
pub lines_of-none : (text : List ℕ) → eqb (length text) 0 ≡ true → lines_of text ≡ []
unfolding lines_of
lines_of-none [] none = refl
lines_of-none (b ∷ text) none = absurd (omega (arith, eqb-true _ _ none))
