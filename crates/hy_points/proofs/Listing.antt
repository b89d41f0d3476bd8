-- What is listed: elements that are picked, sorted and mapped.
use Rattle.std.proofs.Common.{◌≡◌, ℕ, zero, suc, ◌<◌, Bool, true, false, cond, List, [], ◌∷◌, map, Option, Some, None, refl, sym, ap, subst, ◌∙◌, inl, inr, arith}
use Rattle.std.specs.Prelude.{◌⊎◌, nat_eq, Contains}
use Rattle.std.specs.List.{AllByRecursion, IsDistinct, filter_map, cons_option, slice_get}
use Rattle.std.specs.Ordering.{is_lt}
use Rattle.std.specs.declared.cmp.Ordering.{Ordering}
use Rattle.std.proofs.lemmas.Bool.{ne_eqb}
use Rattle.std.proofs.lemmas.Option.{none-some, same_Some}
use Rattle.hy_points.specs.Marks.{insert_by, sorted_by}
use Rattle.hy_points.proofs.Sorting.{cases_bool, all-each}

-- the element is one of these
abbrev pub IsIn : {A : Type 0} → List A → A → Type 0
IsIn [] x = ⊥
IsIn (first ∷ others) x = (first ≡ x) ⊎ IsIn others x

pub in-contains : {A : Type 0} (xs : List A) (x : A) → IsIn xs x → Contains xs x
in-contains [] x is = absurd is
in-contains (first ∷ others) x (inl is) = (0, omega arith, is)
in-contains (first ∷ others) x (inr later) = let c = in-contains others x later in let less = c.1 in (suc c.0, omega (arith, less), c.2)

pub in-map : {A B : Type 0} (f : A → B) (xs : List A) (x : A) → IsIn xs x → IsIn (map f xs) (f x)
in-map f [] x is = absurd is
in-map f (first ∷ others) x (inl is) = inl (ap f is)
in-map f (first ∷ others) x (inr later) = inr (in-map f others x later)

pub all-map : {A B : Type 0} (P : B → Type 0) (f : A → B) (xs : List A) → AllByRecursion (λ x. P (f x)) xs → AllByRecursion P (map f xs)
all-map P f [] all = tt
all-map P f (x ∷ xs) all = (all.0, all-map P f xs all.1)

-- what is picked

pub in-picked : {A B : Type 0} (f : A → Option B) (xs : List A) (place : ℕ) (x : A) (m : B) → slice_get xs place ≡ Some x → f x ≡ Some m → IsIn (filter_map f xs) m
in-picked f [] place x m there is = absurd (none-some x there)
in-picked f (first ∷ others) zero x m there is = subst (λ o. IsIn (cons_option o (filter_map f others)) m) (sym (ap f (same_Some first x there) ∙ is)) (inl refl)
in-picked f (first ∷ others) (suc place) x m there is = behind (f first) (in-picked f others place x m there is)
  where
    behind : (o : Option _) → IsIn (filter_map f others) m → IsIn (cons_option o (filter_map f others)) m
    behind None later = later
    behind (Some n) later = inr later

pub all-picked : {A B : Type 0} (P : B → Type 0) (f : A → Option B) (xs : List A) → ((place : ℕ) (x : A) (m : B) → slice_get xs place ≡ Some x → f x ≡ Some m → P m) → AllByRecursion P (filter_map f xs)
all-picked P f [] each = tt
all-picked P f (first ∷ others) each = by_first (f first) refl (all-picked P f others (λ place x m there is. each (suc place) x m there is))
  where
    by_first : (o : Option _) → f first ≡ o → AllByRecursion P (filter_map f others) → AllByRecursion P (cons_option o (filter_map f others))
    by_first None is rest = rest
    by_first (Some m) is rest = (each 0 first m refl is, rest)

-- it holds of each two, in both orders
abbrev pub AllPairs : {A : Type 0} → (A → A → Type 0) → List A → Type 0
AllPairs R [] = Unit {0}
AllPairs R (x ∷ xs) = AllByRecursion (R x) xs × AllPairs R xs

pub pairs-picked : {A B : Type 0} (R : B → B → Type 0) (f : A → Option B) (xs : List A)
    → ((i j : ℕ) (x y : A) (m n : B) → i < j → slice_get xs i ≡ Some x → slice_get xs j ≡ Some y → f x ≡ Some m → f y ≡ Some n → R m n) → AllPairs R (filter_map f xs)
pairs-picked R f [] each = tt
pairs-picked R f (first ∷ others) each = by_first (f first) refl (pairs-picked R f others (λ i j x y m n less. each (suc i) (suc j) x y m n (omega (arith, less))))
  where
    by_first : (o : Option _) → f first ≡ o → AllPairs R (filter_map f others) → AllPairs R (cons_option o (filter_map f others))
    by_first None is rest = rest
    by_first (Some m) is rest = (all-picked (R m) f others (λ place y n there found. each 0 (suc place) first y m n (omega arith) refl there is found), rest)

-- what is sorted

module _ {A : Type 0} (cmp : A → A → Ordering) where
  in-inserted : (x y : A) (xs : List A) → (x ≡ y) ⊎ IsIn xs y → IsIn (insert_by cmp x xs) y
  in-inserted x y [] (inl is) = inl is
  in-inserted x y [] (inr is) = absurd is
  in-inserted x y (first ∷ others) is = by_test (is_lt (cmp first x)) is (in-inserted x y others)
    where
      by_test : (b : Bool) → (x ≡ y) ⊎ IsIn (first ∷ others) y → ((x ≡ y) ⊎ IsIn others y → IsIn (insert_by cmp x others) y) → IsIn (cond b (first ∷ insert_by cmp x others) (x ∷ first ∷ others)) y
      by_test false e rest = e
      by_test true (inl e) rest = inr (rest (inl e))
      by_test true (inr (inl e)) rest = inl e
      by_test true (inr (inr e)) rest = inr (rest (inr e))

  pub in-sorted : (xs : List A) (x : A) → IsIn xs x → IsIn (sorted_by cmp xs) x
  in-sorted [] x is = absurd is
  in-sorted (first ∷ others) x (inl is) = in-inserted first x (sorted_by cmp others) (inl is)
  in-sorted (first ∷ others) x (inr later) = in-inserted first x (sorted_by cmp others) (inr (in-sorted others x later))

  all-insert : (P : A → Type 0) (x : A) (xs : List A) → P x → AllByRecursion P xs → AllByRecursion P (insert_by cmp x xs)
  all-insert P x [] one all = (one, tt)
  all-insert P x (first ∷ others) one all =
      elim (cases_bool (is_lt (cmp first x))) [
        | inl less ↦ rw less (all.0, all-insert P x others one all.1)
        | inr upto ↦ rw upto (one, all)
      ]

  pairs-insert : (R : A → A → Type 0) → ((x y : A) → R x y → R y x) → (x : A) (xs : List A) → AllByRecursion (R x) xs → AllPairs R xs → AllPairs R (insert_by cmp x xs)
  pairs-insert R flip x [] one all = (tt, tt)
  pairs-insert R flip x (first ∷ others) one all =
      elim (cases_bool (is_lt (cmp first x))) [
        | inl less ↦ rw less (all-insert (R first) x others (flip x first one.0) all.0, pairs-insert R flip x others one.1 all.1)
        | inr upto ↦ rw upto (one, all)
      ]

  pub all-sort : (P : A → Type 0) (xs : List A) → AllByRecursion P xs → AllByRecursion P (sorted_by cmp xs)
  all-sort P [] all = tt
  all-sort P (x ∷ xs) all = all-insert P x (sorted_by cmp xs) all.0 (all-sort P xs all.1)

  pub pairs-sorted : (R : A → A → Type 0) → ((x y : A) → R x y → R y x) → (xs : List A) → AllPairs R xs → AllPairs R (sorted_by cmp xs)
  pairs-sorted R flip [] all = tt
  pairs-sorted R flip (x ∷ xs) all = pairs-insert R flip x (sorted_by cmp xs) (all-sort (R x) xs all.0) (pairs-sorted R flip xs all.1)

-- numbers that differ are distinct
pub distinct-map : {A : Type 0} (number : A → ℕ) (xs : List A) → AllPairs (λ x y. number x ≡ number y → ⊥) xs → IsDistinct nat_eq (map number xs)
unfolding IsDistinct
distinct-map number [] pairs = tt
distinct-map number (x ∷ xs) pairs =
    (all-map (λ n. nat_eq (number x) n ≡ false) number xs (all-each (λ y. number x ≡ number y → ⊥) (λ y. nat_eq (number x) (number y) ≡ false) xs (λ y other. ne_eqb (number x) (number y) other) pairs.0), distinct-map number xs pairs.1)
