-- What files of blocks stand for.
use Rattle.std.proofs.Common.{◌≡◌, inl, inr, ℕ, ◌+◌, List, [], ◌∷◌, ◌++◌, length, refl, sym, ◌∙◌, ap, arith, append_assoc, length-append}
use Rattle.hy_journal.specs.declared.entry.Entry.{Entry}
use Rattle.hy_journal.specs.Entry.{entry_bytes}
use Rattle.hy_journal.specs.File.{blocks, IsNew, IsJournal, Recovers}

pub blocks-append : (a b : List Entry) → blocks (a ++ b) ≡ blocks a ++ blocks b
unfolding blocks
blocks-append [] b = refl
blocks-append (e ∷ a) b = ap (λ (l : List ℕ). 1 ∷ entry_bytes e ++ l) (blocks-append a b)
    ∙ ap (λ (l : List ℕ). 1 ∷ l) (sym (append_assoc (entry_bytes e) (blocks a) (blocks b)))

-- one block more, and what stands behind it
pub blocks-push : (entries : List Entry) (entry : Entry) (rest : List ℕ)
    → blocks (entries ++ entry ∷ []) ++ rest ≡ blocks entries ++ (1 ∷ entry_bytes entry ++ rest)
unfolding blocks
blocks-push [] entry rest = ap (λ (l : List ℕ). 1 ∷ l) (append_assoc (entry_bytes entry) [] rest)
blocks-push (e ∷ entries) entry rest =
    ap (λ (l : List ℕ). 1 ∷ l) (append_assoc (entry_bytes e) (blocks (entries ++ entry ∷ [])) rest
    ∙ ap (λ (l : List ℕ). entry_bytes e ++ l) (blocks-push entries entry rest)
    ∙ sym (append_assoc (entry_bytes e) (blocks entries) (1 ∷ entry_bytes entry ++ rest)))

pub length-push : (entries : List Entry) (entry : Entry) → length (blocks (entries ++ entry ∷ [])) ≡ length (blocks entries) + length (entry_bytes entry) + 1
length-push entries entry =
    let whole = blocks-push entries entry [] in
    let a = length-append (blocks (entries ++ entry ∷ [])) [] in
    let b = length-append (blocks entries) (1 ∷ entry_bytes entry ++ []) in
    let d = length-append (entry_bytes entry) [] in
    omega (arith, ap (length {A = ℕ}) whole, a, b, d)

pub recovers_new : (file : List ℕ) → IsNew file → Recovers [] file
unfolding Recovers
recovers_new file new = inl (new, refl)

pub recovers_journal : (entries : List Entry) (file : List ℕ) → IsJournal entries file → Recovers entries file
unfolding Recovers
recovers_journal entries file is = inr is

-- a new file has no entry
pub journal_new : (entries : List Entry) (file : List ℕ) → IsNew file → IsJournal entries file → entries ≡ []
unfolding blocks
journal_new [] file new is = refl
journal_new (e ∷ entries) file new is =
    let a = length-append (entry_bytes e ++ blocks entries) (is.gate ∷ is.rest) in
    absurd (omega (arith, ap (length {A = ℕ}) is.shape, a))

pub recovers_empty : (entries : List Entry) (file : List ℕ) → IsNew file → Recovers entries file → entries ≡ []
unfolding Recovers
recovers_empty entries file new (inl is) = is.1
recovers_empty entries file new (inr is) = journal_new entries file new is
