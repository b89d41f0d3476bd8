-- Polynomials over a field, as lists of coefficients, the constant one first.
use Rattle.std.specs.Prelude.{◌≡◌, ◌≢◌, List, [], ◌∷◌, length, map}
use Rattle.hy_gf.specs.Field.{Operations}

-- the value of a polynomial at x
abbrev pub value_at : {T : Type 0} → Operations T → List T → T → T
value_at F [] x = F.zero
value_at F (a ∷ p) x = F.sum a (F.product x (value_at F p x))

-- each of the list is an element
abbrev pub AreElements : {T : Type 0} → (T → Type 0) → List T → Type 0
AreElements is_element [] = Unit {0}
AreElements is_element (x ∷ xs) = is_element x × AreElements is_element xs

-- no place of the list is x
abbrev pub Differs : {T : Type 0} → T → List T → Type 0
Differs x [] = Unit {0}
Differs x (m ∷ places) = (m ≢ x) × Differs x places

-- no two places are equal
abbrev pub AreDifferent : {T : Type 0} → List T → Type 0
AreDifferent [] = Unit {0}
AreDifferent (x ∷ places) = Differs x places × AreDifferent places

-- a polynomial of degree below the number of places that has these values there
pub record Interpolates {T : Type 0} (F : Operations T) (p places values : List T) : Type 0 where
  pub degree : length p ≡ length places
  pub takes : map (value_at F p) places ≡ values

-- y + (X - x) q, the polynomial with value y at x and the quotient q
abbrev pub with_value : {T : Type 0} → Operations T → List T → T → T → List T
with_value F [] x y = y ∷ []
with_value F (c ∷ q) x y = F.sum y (F.product x c) ∷ with_value F q x c

-- the slopes of the lines from the point (x, y) to the points of other places
abbrev pub slopes : {T : Type 0} → Operations T → T → T → List T → List T → List T
slopes F x y [] values = []
slopes F x y (m ∷ places) [] = []
slopes F x y (m ∷ places) (v ∷ values) = F.product (F.sum v y) (F.inverse (F.sum m x)) ∷ slopes F x y places values

-- the polynomial with these values at different places, by Newton's differences
abbrev pub polynomial_through : {T : Type 0} → Operations T → List T → List T → List T
polynomial_through F [] values = []
polynomial_through F (x ∷ places) [] = []
polynomial_through F (x ∷ places) (y ∷ values) = with_value F (polynomial_through F places (slopes F x y places values)) x y

-- the polynomial interpolates the values, and no other one over the field does
pub record IsOnlyPolynomial {T : Type 0} (is_element : T → Type 0) (F : Operations T) (p places values : List T) : Type 0 where
  pub elements : AreElements is_element p
  pub interpolates : Interpolates F p places values
  pub only : (q : List T) → AreElements is_element q → Interpolates F q places values → q ≡ p

-- through given elements at different places there is exactly one polynomial over the field
abbrev pub OnePolynomial : {T : Type 0} → (T → Type 0) → Operations T → Type 0
OnePolynomial {T} is_element F =
    (places values : List T) →
    AreElements is_element places → AreElements is_element values → length places ≡ length values → AreDifferent places →
    IsOnlyPolynomial is_element F (polynomial_through F places values) places values
