-- Keys that are put among sorted keys.
use Rattle.std.proofs.Common.{◌≡◌, ℕ, Bool, true, false, List, [], ◌∷◌, Ordering, refl, ap}
use Rattle.std.proofs.lemmas.Map.Lookups.{exact_bytes}
use Rattle.std.proofs.lemmas.Slice.Eq.{bytes_eq-Decides}
use Rattle.std.specs.declared.cmp.Ordering.TheVariants.{Less, Equal, Greater}
use Rattle.std.specs.Cmp.Lexicographic.{slice_cmp}
use Rattle.std.specs.List.{list_any}
use Rattle.std.specs.Ordering.{nat_cmp, match_ordering}
use Rattle.std.specs.Prelude.{◌||◌}
use Rattle.std.specs.Str.{bytes_eq}
use Rattle.hy_order.specs.Keys.{insert_key}

-- the key is among the keys
abbrev pub has_key : List (List ℕ) → List ℕ → Bool
has_key keys key = list_any (λ other. bytes_eq other key) keys

bytes_eq-refl : (bytes : List ℕ) → bytes_eq bytes bytes ≡ true
bytes_eq-refl bytes = (bytes_eq-Decides bytes bytes).1 refl

or_left : (a b : Bool) → a ≡ true → (a || b) ≡ true
or_left a b h = ap (λ x. x || b) h

or_right : (a b : Bool) → b ≡ true → (a || b) ≡ true
or_right true b h = refl
or_right false b h = h

not_first : (a b : Bool) → a ≡ false → (a || b) ≡ true → b ≡ true
not_first a b other both = rw other at both

either : (a b : Bool) → (a ≡ false → b ≡ true) → (a || b) ≡ true
either true b h = refl
either false b h = h refl

-- an insertion by an order, case by case
placed : (o : Ordering) (P : List (List ℕ) → Type 0) (less equal greater : List (List ℕ)) → (o ≡ Less → P less) → (o ≡ Equal → P equal) → (o ≡ Greater → P greater) → P (match_ordering o less equal greater)
placed Less P less equal greater a b c = a refl
placed Equal P less equal greater a b c = b refl
placed Greater P less equal greater a b c = c refl

same_bytes : (key other : List ℕ) → slice_cmp nat_cmp key other ≡ Equal → bytes_eq other key ≡ true
same_bytes key other same = rw (exact_bytes key other same) (bytes_eq-refl other)

-- a key that is put among sorted keys is there
pub has_key-insert_key : (key : List ℕ) (keys : List (List ℕ)) → has_key (insert_key key keys) key ≡ true
has_key-insert_key key [] = or_left _ _ (bytes_eq-refl key)
has_key-insert_key key (first ∷ keys) =
    placed (slice_cmp nat_cmp key first) (λ keys. has_key keys key ≡ true) _ _ _
    (λ _. or_left _ _ (bytes_eq-refl key))
    (λ same. or_left _ _ (same_bytes key first same))
    (λ _. or_right _ _ (has_key-insert_key key keys))

-- and the others stay
pub has_key-after_insert : (key q : List ℕ) (keys : List (List ℕ)) → has_key keys q ≡ true → has_key (insert_key key keys) q ≡ true
has_key-after_insert key q [] there = or_right _ _ there
has_key-after_insert key q (first ∷ keys) there =
    let later : bytes_eq first q ≡ false → has_key (insert_key key keys) q ≡ true = λ other. has_key-after_insert key q keys (not_first (bytes_eq first q) _ other there) in
    placed (slice_cmp nat_cmp key first) (λ keys. has_key keys q ≡ true) _ _ _
    (λ _. or_right _ _ there) (λ _. there) (λ _. either (bytes_eq first q) _ later)
