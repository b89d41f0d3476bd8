-- Sorting by an order: a stable sort gives the list that insertion gives.
use Rattle.std.proofs.Common.{◌≡◌, ℕ, suc, ◌≤◌, ◌<◌, Bool, true, false, cond, List, [], ◌∷◌, length, get_or, refl, sym, ap, subst, ◌∙◌, inl, inr, arith}
use Rattle.std.specs.Prelude.{not, ◌&&◌, ◌⊎◌}
use Rattle.std.specs.Cmp.{IsTotalOrder, IsStrictWeakOrder}
use Rattle.std.specs.List.{AllByRecursion, filter}
use Rattle.std.specs.List.Sorted.{IsSorted, IsStable, ties}
use Rattle.std.specs.Ordering.{is_lt}
use Rattle.std.specs.declared.cmp.Ordering.{Ordering}
use Rattle.std.proofs.lemmas.Bool.{both_ways}
use Rattle.std.proofs.lemmas.List.Sorted.{ranks_by, sorted_far}
use Rattle.hy_points.specs.Marks.{insert_by, sorted_by}

pub cases_bool : (b : Bool) → (b ≡ true) ⊎ (b ≡ false)
cases_bool true = inl refl
cases_bool false = inr refl

-- none stands behind one that it is below
abbrev pub AreInOrder : {A : Type 0} → (A → A → Ordering) → List A → Type 0
AreInOrder cmp [] = Unit {0}
AreInOrder cmp (x ∷ xs) = AllByRecursion (λ y. is_lt (cmp y x) ≡ false) xs × AreInOrder cmp xs

-- what holds at each place holds of each
all-at : {A : Type 0} (P : A → Type 0) (xs : List A) → ((i : ℕ) (d : A) → i < length xs → P (get_or xs i d)) → AllByRecursion P xs
all-at P [] at = tt
all-at P (x ∷ xs) at = (at 0 x (omega arith), all-at P xs (λ i d within. at (suc i) d (omega (arith, within))))

pub all-each : {A : Type 0} (P Q : A → Type 0) (xs : List A) → ((x : A) → P x → Q x) → AllByRecursion P xs → AllByRecursion Q xs
all-each P Q [] each all = tt
all-each P Q (x ∷ xs) each all = (each x all.0, all-each P Q xs each all.1)

all-in-order : {A : Type 0} (cmp : A → A → Ordering) (xs : List A)
    → ((i j : ℕ) (d : A) → i ≤ j → j < length xs → is_lt (cmp (get_or xs j d) (get_or xs i d)) ≡ false) → AreInOrder cmp xs
all-in-order cmp [] far = tt
all-in-order cmp (x ∷ xs) far = (
  all-at (λ y. is_lt (cmp y x) ≡ false) xs (λ i d within. far 0 (suc i) d (omega arith) (omega (arith, within))),
  all-in-order cmp xs (λ i j d le within. far (suc i) (suc j) d (omega (arith, le)) (omega (arith, within))),
)

-- the first that passes a test has what all have
first-has : {A : Type 0} (P : A → Type 0) (test : A → Bool) (xs : List A) (y : A) (rest : List A) → filter test xs ≡ y ∷ rest → AllByRecursion P xs → P y
first-has P test [] y rest is all = cc
first-has P test (x ∷ xs) y rest is all = by_test (test x) is (λ e. first-has P test xs y rest e all.1)
  where
    by_test : (b : Bool) → cond b (x ∷ filter test xs) (filter test xs) ≡ y ∷ rest → (filter test xs ≡ y ∷ rest → P y) → P y
    by_test true e later = (let same : x ≡ y = cc in subst P same all.0)
    by_test false e later = later e

not-both : (a b : Bool) → a ≡ false → b ≡ false → (not a && not b) ≡ true
not-both a b first second = rw (first, second) refl

neither-is : (a b : Bool) → (not a && not b) ≡ true → (a ≡ false) × (b ≡ false)
neither-is false false is = (refl, refl)
neither-is true b is = (cc, cc)
neither-is false true is = (refl, cc)

module _ {A : Type 0} (cmp : A → A → Ordering) (total : IsTotalOrder cmp) where
  weak : IsStrictWeakOrder (λ x y. is_lt (cmp x y))
  weak = ranks_by total (λ (x : A). x)

  -- a is not below b
  abbrev Upto : A → A → Type 0
  Upto b a = is_lt (cmp a b) ≡ false

  abbrev tied : A → A → Bool
  tied = ties (λ (x y : A). is_lt (cmp x y))

  itself : (x : A) → is_lt (cmp x x) ≡ false
  itself x = elim (cases_bool (is_lt (cmp x x))) [ inl less ↦ weak.one_way x x less | inr is ↦ is ]

  all-inserted : (P : A → Type 0) (x : A) (xs : List A) → P x → AllByRecursion P xs → AllByRecursion P (insert_by cmp x xs)
  all-inserted P x [] one all = (one, tt)
  all-inserted P x (first ∷ others) one all =
      elim (cases_bool (is_lt (cmp first x))) [
        | inl less ↦ rw less (all.0, all-inserted P x others one all.1)
        | inr upto ↦ rw upto (one, all)
      ]

  insert-ordered : (x : A) (xs : List A) → AreInOrder cmp xs → AreInOrder cmp (insert_by cmp x xs)
  insert-ordered x [] ordered = (tt, tt)
  insert-ordered x (first ∷ others) ordered =
      elim (cases_bool (is_lt (cmp first x))) [
        | inl less ↦ rw less (all-inserted (Upto first) x others (weak.one_way first x less) ordered.0, insert-ordered x others ordered.1)
        | inr upto ↦ rw upto ((upto, all-each (Upto first) (Upto x) others (λ y after. weak.chain y first x after upto) ordered.0), ordered)
      ]

  pub sorted-ordered : (xs : List A) → AreInOrder cmp (sorted_by cmp xs)
  sorted-ordered [] = tt
  sorted-ordered (x ∷ xs) = insert-ordered x (sorted_by cmp xs) (sorted-ordered xs)

  pub all-sorted : (P : A → Type 0) (xs : List A) → AllByRecursion P xs → AllByRecursion P (sorted_by cmp xs)
  all-sorted P [] all = tt
  all-sorted P (x ∷ xs) all = all-inserted P x (sorted_by cmp xs) all.0 (all-sorted P xs all.1)

  -- an insertion keeps the order of those that tie
  insert-stable : (z x : A) (xs : List A) → filter (tied z) (insert_by cmp x xs) ≡ filter (tied z) (x ∷ xs)
  insert-stable z x [] = refl
  insert-stable z x (first ∷ others) =
      elim (cases_bool (is_lt (cmp first x))) [
        | inr upto ↦ rw upto refl
        | inl less ↦ rw less (by_tests (tied z x) (tied z first) refl refl (insert-stable z x others) less)
      ]
    where
      by_tests : (b c : Bool) → tied z x ≡ b → tied z first ≡ c → filter (tied z) (insert_by cmp x others) ≡ cond (tied z x) (x ∷ filter (tied z) others) (filter (tied z) others)
          → is_lt (cmp first x) ≡ true
          → cond (tied z first) (first ∷ filter (tied z) (insert_by cmp x others)) (filter (tied z) (insert_by cmp x others))
          ≡ cond (tied z x) (x ∷ cond (tied z first) (first ∷ filter (tied z) others) (filter (tied z) others)) (cond (tied z first) (first ∷ filter (tied z) others) (filter (tied z) others))
      by_tests false c x_is first_is same less = rw (x_is, same, x_is) refl
      by_tests true false x_is first_is same less = rw (first_is, x_is, same, x_is) refl
      by_tests true true x_is first_is same less =
          absurd (both_ways (is_lt (cmp first x)) (weak.chain first z x (neither-is _ _ first_is).1 (neither-is _ _ x_is).0) less)

  sorted-stable : (z : A) (xs : List A) → filter (tied z) (sorted_by cmp xs) ≡ filter (tied z) xs
  sorted-stable z [] = refl
  sorted-stable z (x ∷ xs) = insert-stable z x (sorted_by cmp xs) ∙ ap (λ rest. cond (tied z x) (x ∷ rest) rest) (sorted-stable z xs)

  with-first : (y : A) (ys : List A) → filter (tied y) (y ∷ ys) ≡ y ∷ filter (tied y) ys
  with-first y ys = ap (λ b. cond b (y ∷ filter (tied y) ys) (filter (tied y) ys)) (not-both _ _ (itself y) (itself y))

  upto-first : (y z : A) (ys zs : List A) → AreInOrder cmp (z ∷ zs) → filter (tied y) (y ∷ ys) ≡ filter (tied y) (z ∷ zs) → Upto z y
  upto-first y z ys zs ordered same = first-has (Upto z) (tied y) (z ∷ zs) y (filter (tied y) ys) (sym same ∙ with-first y ys) (itself z, ordered.0)

  -- two lists in order in which the same stand among those that tie are one
  unique : (ys zs : List A) → AreInOrder cmp ys → AreInOrder cmp zs → ((x : A) → filter (tied x) ys ≡ filter (tied x) zs) → ys ≡ zs
  unique [] [] first second same = refl
  unique [] (z ∷ zs) first second same = (let e : [] ≡ z ∷ filter (tied z) zs = same z ∙ with-first z zs in cc)
  unique (y ∷ ys) [] first second same = (let e : [] ≡ y ∷ filter (tied y) ys = sym (same y) ∙ with-first y ys in cc)
  unique (y ∷ ys) (z ∷ zs) first second same = joined one (unique ys zs first.1 second.1 (λ x. rest x (tied x y) refl))
    where
      tie : tied y z ≡ true
      tie = not-both _ _ (upto-first y z ys zs second (same y)) (upto-first z y zs ys first (sym (same z)))

      one : y ≡ z
      one = (let e : y ∷ filter (tied y) ys ≡ z ∷ filter (tied y) zs = sym (with-first y ys) ∙ same y ∙ ap (λ b. cond b (z ∷ filter (tied y) zs) (filter (tied y) zs)) tie in cc)

      rest : (x : A) (b : Bool) → tied x y ≡ b → filter (tied x) ys ≡ filter (tied x) zs
      rest x true is =
          (let e : cond (tied x y) (y ∷ filter (tied x) ys) (filter (tied x) ys) ≡ cond (tied x z) (z ∷ filter (tied x) zs) (filter (tied x) zs) = same x in
          let f : y ∷ filter (tied x) ys ≡ z ∷ filter (tied x) zs = rw (is, sym (ap (tied x) one) ∙ is) at e in cc)
      rest x false is =
          (let e : cond (tied x y) (y ∷ filter (tied x) ys) (filter (tied x) ys) ≡ cond (tied x z) (z ∷ filter (tied x) zs) (filter (tied x) zs) = same x in
          rw (is, sym (ap (tied x) one) ∙ is) at e)

      joined : y ≡ z → ys ≡ zs → y ∷ ys ≡ z ∷ zs
      joined e f = cc

  -- what a stable sort gives
  pub sort-inserts : (xs ys : List A) → IsSorted cmp ys → IsStable cmp xs ys → ys ≡ sorted_by cmp xs
  sort-inserts xs ys sorted stable =
      unique ys (sorted_by cmp xs) (all-in-order cmp ys (sorted_far (λ x y. is_lt (cmp x y)) weak ys sorted)) (sorted-ordered xs) (λ x. stable x ∙ sym (sorted-stable x xs))
