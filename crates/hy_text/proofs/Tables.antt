-- Words of a table: what is found is the value whose word it is.
use Rattle.std.proofs.Common.{◌≡◌, ℕ, ◌+◌, ◌<◌, ◌≤◌, true, false, List, [], ◌∷◌, length, get_or, drop, Ok, Err, refl, sym, ap, ◌∙◌, inl, inr}
use Rattle.std.specs.Str.{bytes_eq}
use Rattle.std.proofs.lemmas.List.{drop_more, drop_all}
use Rattle.std.proofs.lemmas.Slice.Eq.{bytes_eq-Decides}
use Rattle.hy_base.proofs.Results.{ok_is}
use Rattle.hy_base.specs.declared.fault.Cause.TheVariants.{BadWord}
use Rattle.hy_text.proofs.Slots.{chosen}
use Rattle.hy_text.specs.Table.{value_named}

-- the word that is taken is that of the value
pub named_takes : {A : Type 0} (word_of : A → List ℕ) (values : List A) (word : List ℕ) (value : A) → value_named word_of values word ≡ Ok value → word ≡ word_of value
unfolding value_named
named_takes word_of [] word value e = absurd cc
named_takes word_of (first ∷ values) word value e =
    elim (chosen (bytes_eq word (word_of first)) (Ok first) (value_named word_of values word) value e) [
      | inl here ↦ (bytes_eq-Decides word (word_of first)).0 here.0 ∙ ap word_of (ok_is first value here.1)
      | inr later ↦ named_takes word_of values word value later
    ]

-- ---- the values one by one

pub named_here : {A : Type 0} (word_of : A → List ℕ) (values : List A) (word : List ℕ) (place : ℕ) (value : A) → place < length values → value ≡ get_or values place value
    → bytes_eq word (word_of value) ≡ true → value_named word_of (drop place values) word ≡ Ok value
unfolding value_named
named_here word_of values word place value within is same =
    ap (λ rest. value_named word_of rest word) (drop_more values place value within ∙ ap (λ first. first ∷ drop (place + 1) values) (sym is)) ∙ rw same refl

pub named_later : {A : Type 0} (word_of : A → List ℕ) (values : List A) (word : List ℕ) (place : ℕ) (value : A) → place < length values → value ≡ get_or values place value
    → bytes_eq word (word_of value) ≡ false → value_named word_of (drop place values) word ≡ value_named word_of (drop (place + 1) values) word
unfolding value_named
named_later word_of values word place value within is other =
    ap (λ rest. value_named word_of rest word) (drop_more values place value within ∙ ap (λ first. first ∷ drop (place + 1) values) (sym is)) ∙ rw other refl

pub named_none : {A : Type 0} (word_of : A → List ℕ) (values : List A) (word : List ℕ) (place : ℕ) → length values ≤ place → value_named word_of (drop place values) word ≡ Err BadWord
unfolding value_named
named_none word_of values word place past = ap (λ rest. value_named word_of rest word) (drop_all place values past)
