-- Words after the first of a line, joined.
use Rattle.std.proofs.Common.{◌≡◌, ℕ, List, [], ◌∷◌, ◌++◌, refl, ap, sym, ◌∙◌, append_assoc, append-nil}
use Rattle.std.specs.List.{join_with_byte}
use Rattle.hy_text.specs.Line.{led_by, line_text, spaced}

pub led_by-append : (separator : ℕ) (xs ys : List (List ℕ)) → led_by separator (xs ++ ys) ≡ led_by separator xs ++ led_by separator ys
led_by-append separator [] ys = refl
led_by-append separator (x ∷ xs) ys =
    ap (λ rest. separator ∷ (x ++ rest)) (led_by-append separator xs ys) ∙ ap (λ rest. separator ∷ rest) (sym (append_assoc x (led_by separator xs) (led_by separator ys)))

pub join_with_byte-cons : (separator : ℕ) (word : List ℕ) (words : List (List ℕ)) → join_with_byte separator (word ∷ words) ≡ word ++ led_by separator words
join_with_byte-cons separator word [] = sym (append-nil word)
join_with_byte-cons separator word (next ∷ words) = ap (λ rest. word ++ separator ∷ rest) (join_with_byte-cons separator next words)

pub line_text-cons : (word : List ℕ) (words : List (List ℕ)) → line_text (word ∷ words) ≡ word ++ (spaced words ++ 10 ∷ [])
line_text-cons word words = rw (join_with_byte-cons 32 word words) (append_assoc word (spaced words) (10 ∷ []))

-- one word more at the end
pub led_by-more : (separator : ℕ) (old front : List ℕ) (words : List (List ℕ)) (word : List ℕ) → front ≡ old ++ led_by separator words → front ++ separator ∷ word ≡ old ++ led_by separator (words ++ word ∷ [])
led_by-more separator old front words word before =
    ap (λ bytes. bytes ++ separator ∷ word) before
    ∙ append_assoc old (led_by separator words) (separator ∷ word)
    ∙ ap (λ rest. old ++ rest) (ap (λ rest. led_by separator words ++ separator ∷ rest) (sym (append-nil word)) ∙ sym (led_by-append separator words (word ∷ [])))
