-- Keys: what the slot of a key says of a word.
use Rattle.std.proofs.Common.{◌≡◌, ℕ, Bool, true, false, cond, not, IsTrue, List, [], ◌∷◌, length, None, Result, Ok, Err, refl, subst, arith}
use Rattle.std.proofs.lemmas.Bool.Decides.{nat_tests}
use Rattle.std.specs.List.{list_all, prefix_len}
use Rattle.hy_base.specs.declared.fault.Cause.{Cause}
use Rattle.hy_base.specs.declared.fault.Cause.TheVariants.{BadKey}
use Rattle.hy_record.specs.Key.{is_key, is_key_byte, first_bad_byte, key_of}
use Rattle.hy_record.specs.declared.key.KeyFault.{KeyFault}
use Rattle.hy_text.specs.Slot.{key_word}

-- where each byte may stand in a key, none is the first that may not
prefix_len-all : (p : ℕ → Bool) (xs : List ℕ) → list_all p xs ≡ true → prefix_len (λ x. not (not (p x))) xs ≡ length xs
prefix_len-all p [] all = refl
prefix_len-all p (x ∷ xs) all = grind (arith, prefix_len-all p xs)

first_bad_byte-key : (word : List ℕ) → list_all is_key_byte word ≡ true → first_bad_byte word ≡ None
first_bad_byte-key word all = let whole = prefix_len-all is_key_byte word all in grind (arith, nat_tests, whole)

key_of-key : (word : List ℕ) → is_key word ≡ true → key_of word ≡ Ok word
key_of-key word is =
    let all : list_all is_key_byte word ≡ true = grind (arith, nat_tests) in
    let none = first_bad_byte-key word all in
    grind (arith, nat_tests, none)

-- a word that spells no key is refused
pub key_word-refused : (word : List ℕ) (fault : KeyFault) → key_of word ≡ Err fault → key_word word ≡ Err BadKey
key_word-refused word fault e = by (is_key word) refl
  where
    by : (t : Bool) → is_key word ≡ t → key_word word ≡ Err BadKey
    by true is = let ok = key_of-key word is in absurd cc
    by false is = rw is refl

abbrev taken : List ℕ → Bool → Result (List ℕ) Cause
taken word t = cond t (Ok word) (Err BadKey)

-- what the slot of a key takes is the key, as it is
pub key_takes : (word key : List ℕ) → key_word word ≡ Ok key → (word ≡ key) × IsTrue (is_key key)
key_takes word key e = by (is_key word) refl e
  where
    by : (t : Bool) → is_key word ≡ t → taken word t ≡ Ok key → (word ≡ key) × IsTrue (is_key key)
    by true is e = let same : word ≡ key = cc in (same, subst (λ (k : List ℕ). is_key k ≡ true) same is)
    by false is e = absurd cc

-- a key is taken
pub key_again : (key : List ℕ) → IsTrue (is_key key) → key_word key ≡ Ok key
key_again key is = rw is refl
