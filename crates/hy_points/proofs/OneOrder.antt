-- Two lists of the same elements are one, where each two stand in them as an order has it.
use Rattle.std.proofs.Common.{◌≡◌, List, [], ◌∷◌, refl, sym, ap, subst, ◌∙◌, inl, inr}
use Rattle.std.specs.List.{AllByRecursion}
use Rattle.hy_points.proofs.Listing.{IsIn, AllPairs}

-- what holds of all holds of each, and the other way
pub all-of : {A : Type 0} (P : A → Type 0) (xs : List A) (x : A) → AllByRecursion P xs → IsIn xs x → P x
all-of P [] x all is = absurd is
all-of P (first ∷ others) x all (inl is) = subst P is all.0
all-of P (first ∷ others) x all (inr later) = all-of P others x all.1 later

pub all-in : {A : Type 0} (P : A → Type 0) (xs : List A) → ((x : A) → IsIn xs x → P x) → AllByRecursion P xs
all-in P [] each = tt
all-in P (x ∷ xs) each = (each x (inl refl), all-in P xs (λ y is. each y (inr is)))

-- each element of the one list is an element of the other
abbrev pub AreAmong : {A : Type 0} → List A → List A → Type 0
AreAmong {A} xs ys = (x : A) → IsIn xs x → IsIn ys x

module _ {A : Type 0} (R : A → A → Type 0) (one_way : (x y : A) → R x y → R y x → ⊥) where
  same-first : (x y : A) (xs ys : List A) → AllByRecursion (R x) xs → AllByRecursion (R y) ys → IsIn (y ∷ ys) x → IsIn (x ∷ xs) y → x ≡ y
  same-first x y xs ys first second (inl is) there = sym is
  same-first x y xs ys first second (inr behind) (inl is) = is
  same-first x y xs ys first second (inr behind) (inr there) = absurd (one_way x y (all-of (R x) xs y first there) (all-of (R y) ys x second behind))

  -- what stands behind the first in the one list stands behind it in the other
  behind-first : (x : A) (xs ys : List A) → AllByRecursion (R x) xs → AreAmong (x ∷ xs) (x ∷ ys) → AreAmong xs ys
  behind-first x xs ys first among z there = elim (among z (inr there)) [
    | inl is ↦ (let own : R x x = subst (R x) (sym is) (all-of (R x) xs z first there) in absurd (one_way x x own own))
    | inr later ↦ later
  ]

  pub one-order : (xs ys : List A) → AllPairs R xs → AllPairs R ys → AreAmong xs ys → AreAmong ys xs → xs ≡ ys
  one-order [] [] first second there back = refl
  one-order [] (y ∷ ys) first second there back = absurd (back y (inl refl))
  one-order (x ∷ xs) [] first second there back = absurd (there x (inl refl))
  one-order (x ∷ xs) (y ∷ ys) first second there back =
      let same : x ≡ y = same-first x y xs ys first.0 second.0 (there x (inl refl)) (back y (inl refl)) in
      let second_ : AllByRecursion (R x) ys = subst (λ (z : A). AllByRecursion (R z) ys) (sym same) second.0 in
      let there_ : AreAmong (x ∷ xs) (x ∷ ys) = subst (λ (z : A). AreAmong (x ∷ xs) (z ∷ ys)) (sym same) there in
      let back_ : AreAmong (x ∷ ys) (x ∷ xs) = subst (λ (z : A). AreAmong (z ∷ ys) (x ∷ xs)) (sym same) back in
      ap (λ (zs : List A). x ∷ zs) (one-order xs ys first.1 second.1 (behind-first x xs ys first.0 there_) (behind-first x ys xs second_ back_))
      ∙ ap (λ (z : A). z ∷ ys) same
