-- Lines of a kind one by one: what was read before, in front of what is still read.
use Rattle.std.proofs.Common.{◌≡◌, ℕ, false, true, List, [], ◌∷◌, ◌++◌, Result, Ok, refl, sym, ap, subst, ◌∙◌, append-nil}
use Rattle.hy_base.specs.Results.{◌>>=◌, Fails}
use Rattle.hy_base.proofs.Results.{bind_fails, with_items, with_items-more}
use Rattle.hy_base.specs.declared.fault.TextError.{TextError}
use Rattle.hy_base.specs.declared.fault.TextFault.{TextFault}
use Rattle.hy_text.specs.Gives.{text_fault_of, at_line, next_number}
use Rattle.hy_text.specs.Kind.{Kind, item_in, is_next_due, items_from}
use Rattle.hy_text.specs.OpenLine.{OpenLine, Rest}

items_from-due : {S A : Type 0} (kind : Kind S A) (before : S) (number : ℕ) (line : OpenLine) (lines : List OpenLine) → kind.is_due before line.keyword ≡ true
    → items_from kind before number (line ∷ lines)
    ≡ (at_line number (item_in kind before line) >>= λ item. items_from kind (kind.next before item) (next_number number) lines >>= λ more. Ok (item ∷ more.0, more.1))
unfolding items_from
items_from-due kind before number line lines due = rw due refl

pub items_go_on : {S A : Type 0} (kind : Kind S A) (front : List A) (before : S) (number : ℕ) (line : OpenLine) (lines : List OpenLine) (item : A) (total : Result (List A × Rest) TextFault)
    → kind.is_due before line.keyword ≡ true → at_line number (item_in kind before line) ≡ Ok item
    → with_items front (items_from kind before number (line ∷ lines)) ≡ total
    → with_items (front ++ item ∷ []) (items_from kind (kind.next before item) (next_number number) lines) ≡ total
items_go_on {A = A} kind front before number line lines item total due read so_far =
    sym (with_items-more front item (items_from kind (kind.next before item) (next_number number) lines))
    ∙ ap (λ (first : Result A TextFault). with_items front (first >>= λ item. items_from kind (kind.next before item) (next_number number) lines >>= λ more. Ok (item ∷ more.0, more.1))) (sym read)
    ∙ ap (with_items front) (sym (items_from-due kind before number line lines due)) ∙ so_far

pub items_fail : {S A : Type 0} (kind : Kind S A) (error : TextError) (front : List A) (before : S) (number : ℕ) (line : OpenLine) (lines : List OpenLine) (total : Result (List A × Rest) TextFault)
    → kind.is_due before line.keyword ≡ true → Fails text_fault_of error (at_line number (item_in kind before line))
    → with_items front (items_from kind before number (line ∷ lines)) ≡ total
    → Fails text_fault_of error total
items_fail {A = A} kind error front before number line lines total due fails so_far =
    subst (Fails text_fault_of error) (sym (ap (with_items front) (items_from-due kind before number line lines due)) ∙ so_far)
    (bind_fails text_fault_of error _ (λ (more : List A × Rest). Ok (front ++ more.0, more.1))
    (bind_fails text_fault_of error (at_line number (item_in kind before line)) (λ item. items_from kind (kind.next before item) (next_number number) lines >>= λ more. Ok (item ∷ more.0, more.1)) fails))

items_from-other : {S A : Type 0} (kind : Kind S A) (before : S) (number : ℕ) (lines : List OpenLine) → is_next_due kind before lines ≡ false
    → items_from kind before number lines ≡ Ok ([], record { number = number; lines = lines })
unfolding items_from
items_from-other kind before number [] other = refl
items_from-other kind before number (line ∷ lines) other = rw other refl

pub items_end : {S A : Type 0} (kind : Kind S A) (front : List A) (before : S) (number : ℕ) (lines : List OpenLine) (total : Result (List A × Rest) TextFault)
    → is_next_due kind before lines ≡ false → with_items front (items_from kind before number lines) ≡ total
    → total ≡ Ok (front, record { number = number; lines = lines })
items_end {A = A} kind front before number lines total other so_far =
    sym so_far ∙ ap (with_items front) (items_from-other kind before number lines other)
    ∙ ap (λ (all : List A). Ok (all, record { number = number; lines = lines })) (append-nil front)
