-- A text without a bad byte, and of a key's length, is held as a key.
use Rattle.std.proofs.Common.{◌≡◌, ℕ, ◌<◌, ◌≤◌, Bool, true, not, List, [], ◌∷◌, length, None, arith, refl}
use Rattle.std.proofs.lemmas.Bool.Decides.{nat_tests}
use Rattle.std.proofs.lemmas.List.{length-append, length-replicate}
use Rattle.std.proofs.Math.Seq.{drop-append_seam, take-append_seam}
use Rattle.std.specs.List.{list_all, prefix_len, position, position_or_len}
use Rattle.hy_record.specs.Key.{is_key, is_key_byte, first_bad_byte}
use Rattle.hy_record.specs.HeldKey.{IsHeld, held_of}

list_all-no_place : {X : Type 0} (p : X → Bool) (xs : List X) → length xs ≤ prefix_len (λ x. not (not (p x))) xs → list_all p xs ≡ true
list_all-no_place p [] whole = refl
list_all-no_place p (x ∷ xs) whole = grind (arith, list_all-no_place p xs)

no_place : {X : Type 0} (p : X → Bool) (xs : List X) → position p xs ≡ None → length xs ≤ position_or_len p xs
no_place p xs none = grind (arith, nat_tests)

list_all-no_bad_byte : (text : List ℕ) → first_bad_byte text ≡ None → list_all is_key_byte text ≡ true
list_all-no_bad_byte text none = list_all-no_place is_key_byte text (no_place (λ b. not (is_key_byte b)) text none)

is_key-no_bad_byte : (text : List ℕ) → 0 < length text → length text ≤ 64 → first_bad_byte text ≡ None → is_key text ≡ true
is_key-no_bad_byte text some short none = let all : list_all is_key_byte text ≡ true = list_all-no_bad_byte text none in grind (arith, nat_tests)

pub IsHeld-held_of : (text : List ℕ) → 0 < length text → length text ≤ 64 → first_bad_byte text ≡ None → IsHeld (held_of text)
IsHeld-held_of text some short none = record {
  spelled = rw take-append_seam (is_key-no_bad_byte text some short none);
  short = short;
  size = simp (length-append, length-replicate) (omega arith);
  padded = drop-append_seam text _;
}
