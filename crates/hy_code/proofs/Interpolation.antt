-- Interpolation over a field whose values are all elements.
use Rattle.std.proofs.Common.{◌≡◌, ◌≢◌, suc, List, [], ◌∷◌, length, map, refl, sym, ap, ◌∙◌, arith, Bool, true, false, cond}
use Rattle.std.proofs.lemmas.Bool.{cond-true, cond-false}
use Rattle.std.specs.List.{fold}
use Rattle.hy_gf.specs.Field.{Operations, IsField}
use Rattle.hy_code.specs.Weights.{weight, weight_step}
use Rattle.hy_code.specs.Polynomial.{Differs, AreDifferent, value_at, Interpolates, with_value, slopes, polynomial_through}

-- the sum of the values, each times its weight
abbrev pub weighted_sum : {T : Type 0} → Operations T → List T → List T → T
weighted_sum F [] values = F.zero
weighted_sum F (w ∷ weights) [] = F.zero
weighted_sum F (w ∷ weights) (y ∷ values) = F.sum (F.product w y) (weighted_sum F weights values)

module _ (T : Type 0) (F : Operations T) (field : IsField (λ (x : T). Unit {0}) F) where
  infixl 60 ◌⊕◌
  infixl 70 ◌⊗◌
  abbrev ◌⊕◌ : T → T → T
  a ⊕ b = F.sum a b

  abbrev ◌⊗◌ : T → T → T
  a ⊗ b = F.product a b

  sum_comm : (a b : T) → a ⊕ b ≡ b ⊕ a
  sum_comm a b = field.sum_comm a b tt tt

  sum_assoc : (a b c : T) → a ⊕ b ⊕ c ≡ a ⊕ (b ⊕ c)
  sum_assoc a b c = field.sum_assoc a b c tt tt tt

  sum_zero : (a : T) → a ⊕ F.zero ≡ a
  sum_zero a = field.sum_zero a tt

  zero_sum : (a : T) → F.zero ⊕ a ≡ a
  zero_sum a = sum_comm F.zero a ∙ sum_zero a

  sum_self : (a : T) → a ⊕ a ≡ F.zero
  sum_self a = field.sum_self a tt

  product_comm : (a b : T) → a ⊗ b ≡ b ⊗ a
  product_comm a b = field.product_comm a b tt tt

  product_assoc : (a b c : T) → a ⊗ b ⊗ c ≡ a ⊗ (b ⊗ c)
  product_assoc a b c = field.product_assoc a b c tt tt tt

  product_one : (a : T) → a ⊗ F.one ≡ a
  product_one a = field.product_one a tt

  product_sum : (a b c : T) → a ⊗ (b ⊕ c) ≡ a ⊗ b ⊕ a ⊗ c
  product_sum a b c = field.product_sum a b c tt tt tt

  product_inverse : (a : T) → a ≢ F.zero → a ⊗ F.inverse a ≡ F.one
  product_inverse a nonzero = field.product_inverse a tt nonzero

  one_product : (a : T) → F.one ⊗ a ≡ a
  one_product a = product_comm F.one a ∙ product_one a

  sum_product : (a b c : T) → (a ⊕ b) ⊗ c ≡ a ⊗ c ⊕ b ⊗ c
  sum_product a b c =
      product_comm (a ⊕ b) c ∙ product_sum c a b ∙ ap (λ x. x ⊕ c ⊗ b) (product_comm c a) ∙ ap (λ x. a ⊗ c ⊕ x) (product_comm c b)

  product_zero : (a : T) → a ⊗ F.zero ≡ F.zero
  product_zero a =
      ap (λ x. a ⊗ x) (sym (sum_self F.zero)) ∙ product_sum a F.zero F.zero ∙ sum_self (a ⊗ F.zero)

  zero_product : (a : T) → F.zero ⊗ a ≡ F.zero
  zero_product a = product_comm F.zero a ∙ product_zero a

  -- an element that is added twice is gone
  sum_twice : (a b : T) → a ⊕ (a ⊕ b) ≡ b
  sum_twice a b = sym (sum_assoc a a b) ∙ ap (λ x. x ⊕ b) (sum_self a) ∙ zero_sum b

  sum_cancel : (a b c : T) → a ⊕ b ≡ a ⊕ c → b ≡ c
  sum_cancel a b c e = sym (sum_twice a b) ∙ ap (λ x. a ⊕ x) e ∙ sum_twice a c

  sum_pairs : (a b c d : T) → (a ⊕ b) ⊕ (c ⊕ d) ≡ (a ⊕ c) ⊕ (b ⊕ d)
  sum_pairs a b c d =
      sum_assoc a b (c ⊕ d)
      ∙ ap (λ x. a ⊕ x) (sym (sum_assoc b c d) ∙ ap (λ x. x ⊕ d) (sum_comm b c) ∙ sum_assoc c b d)
      ∙ sym (sum_assoc a c (b ⊕ d))

  -- a common part of two sums is gone from their difference
  sum_common : (a b c : T) → (a ⊕ b) ⊕ (a ⊕ c) ≡ b ⊕ c
  sum_common a b c = sum_pairs a b a c ∙ ap (λ x. x ⊕ (b ⊕ c)) (sum_self a) ∙ zero_sum (b ⊕ c)

  product_swap : (a b c : T) → a ⊗ (b ⊗ c) ≡ b ⊗ (a ⊗ c)
  product_swap a b c = sym (product_assoc a b c) ∙ ap (λ x. x ⊗ c) (product_comm a b) ∙ product_assoc b a c

  -- a product with an element and its inverse
  product_undone : (a b : T) → a ≢ F.zero → a ⊗ (b ⊗ F.inverse a) ≡ b
  product_undone a b nonzero = product_swap a b (F.inverse a) ∙ ap (λ x. b ⊗ x) (product_inverse a nonzero) ∙ product_one b

  product_cancel : (a b c : T) → a ≢ F.zero → a ⊗ b ≡ a ⊗ c → b ≡ c
  product_cancel a b c nonzero e = sym (undo b) ∙ ap (λ x. F.inverse a ⊗ x) e ∙ undo c
    where
      undo : (x : T) → F.inverse a ⊗ (a ⊗ x) ≡ x
      undo x =
          sym (product_assoc (F.inverse a) a x)
          ∙ ap (λ y. y ⊗ x) (product_comm (F.inverse a) a ∙ product_inverse a nonzero)
          ∙ one_product x

  -- the difference of different elements is not zero
  differ : (x y : T) → x ≢ y → x ⊕ y ≢ F.zero
  differ x y different e = different (sym (sum_zero x) ∙ ap (λ z. x ⊕ z) (sym e) ∙ sum_twice x y)

  -- ---- the quotient by a linear factor

  -- the quotient of a polynomial with the higher coefficients p by X - x
  abbrev quotient : List T → T → List T
  quotient [] x = []
  quotient (b ∷ p) x = value_at F (b ∷ p) x ∷ quotient p x

  length-quotient : (p : List T) (x : T) → length (quotient p x) ≡ length p
  length-quotient [] x = refl
  length-quotient (b ∷ p) x = ap suc (length-quotient p x)

  -- the difference of two values, of a polynomial with the constant coefficient 0
  quotient-shifted : (p : List T) (x y : T) → y ⊗ value_at F p y ⊕ x ⊗ value_at F p x ≡ (y ⊕ x) ⊗ value_at F (quotient p x) y
  quotient-shifted [] x y =
      ap (λ z. z ⊕ x ⊗ F.zero) (product_zero y) ∙ ap (λ z. F.zero ⊕ z) (product_zero x) ∙ sum_self F.zero ∙ sym (product_zero (y ⊕ x))
  quotient-shifted (b ∷ p) x y =
      let v = value_at F (b ∷ p) x in
      let u = value_at F (b ∷ p) y in
      let q = value_at F (quotient p x) y in
      sym (product_sum (y ⊕ x) v (y ⊗ q)
      ∙ ap (λ z. z ⊕ (y ⊕ x) ⊗ (y ⊗ q)) (sum_product y x v)
      ∙ ap (λ z. (y ⊗ v ⊕ x ⊗ v) ⊕ z)
      (product_swap (y ⊕ x) y q
      ∙ ap (λ z. y ⊗ z) (sym (quotient-shifted p x y) ∙ sym (sum_common b (y ⊗ value_at F p y) (x ⊗ value_at F p x)))
      ∙ product_sum y u v
      ∙ sum_comm (y ⊗ u) (y ⊗ v))
      ∙ sum_common (y ⊗ v) (x ⊗ v) (y ⊗ u)
      ∙ sum_comm (x ⊗ v) (y ⊗ u))

  -- the difference of two values of a polynomial is a multiple of the difference of the places
  quotient-difference : (a : T) (p : List T) (x y : T) → value_at F (a ∷ p) y ⊕ value_at F (a ∷ p) x ≡ (y ⊕ x) ⊗ value_at F (quotient p x) y
  quotient-difference a p x y =
      sum_common a (y ⊗ value_at F p y) (x ⊗ value_at F p x) ∙ quotient-shifted p x y

  -- ---- one polynomial

  same_from_quotient : (p q : List T) (x : T) → quotient p x ≡ quotient q x → p ≡ q
  same_from_quotient [] [] x e = refl
  same_from_quotient [] (b ∷ q) x e = cc
  same_from_quotient (a ∷ p) [] x e = cc
  same_from_quotient (a ∷ p) (b ∷ q) x e =
      let rest : p ≡ q = same_from_quotient p q x (tails e) in
      let heads : value_at F (a ∷ p) x ≡ value_at F (b ∷ q) x = cc in
      same_head a b p q x rest heads
    where
      tails : {c d : T} {r s : List T} → c ∷ r ≡ d ∷ s → r ≡ s
      tails e = cc

      same_head : (a b : T) (p q : List T) (x : T) → p ≡ q → value_at F (a ∷ p) x ≡ value_at F (b ∷ q) x → a ∷ p ≡ b ∷ q
      same_head a b p q x rest heads =
          let tail = x ⊗ value_at F q x in
          let same : a ≡ b =
          sum_cancel tail a b (sum_comm tail a ∙ ap (λ r. a ⊕ x ⊗ value_at F r x) (sym rest) ∙ heads ∙ sum_comm b tail) in
          cc

  -- where two polynomials agree, so do their quotients
  quotients_agree : (a b : T) (p q : List T) (x : T) → value_at F (a ∷ p) x ≡ value_at F (b ∷ q) x → (places : List T) → Differs x places → map (value_at F (a ∷ p)) places ≡ map (value_at F (b ∷ q)) places → map (value_at F (quotient p x)) places ≡ map (value_at F (quotient q x)) places
  quotients_agree a b p q x here [] different same = refl
  quotients_agree a b p q x here (m ∷ places) different same =
      let at_m : value_at F (a ∷ p) m ≡ value_at F (b ∷ q) m = cc in
      let rest : map (value_at F (a ∷ p)) places ≡ map (value_at F (b ∷ q)) places = cc in
      let first : value_at F (quotient p x) m ≡ value_at F (quotient q x) m =
      product_cancel (m ⊕ x) (value_at F (quotient p x) m) (value_at F (quotient q x) m) (differ m x different.0)
      (sym (quotient-difference a p x m)
      ∙ ap (λ z. z ⊕ value_at F (a ∷ p) x) at_m
      ∙ ap (λ z. value_at F (b ∷ q) m ⊕ z) here
      ∙ quotient-difference b q x m) in
      let others = quotients_agree a b p q x here places different.1 rest in
      ap (λ z. z ∷ map (value_at F (quotient p x)) places) first
      ∙ ap (λ z. value_at F (quotient q x) m ∷ z) others

  -- polynomials that agree at as many different places as they have coefficients are one
  pub agree : (places p q : List T) → AreDifferent places → length p ≡ length places → length q ≡ length places → map (value_at F p) places ≡ map (value_at F q) places → p ≡ q
  agree [] [] [] different lp lq same = refl
  agree [] (a ∷ p) q different lp lq same = absurd (omega arith)
  agree [] [] (b ∷ q) different lp lq same = absurd (omega arith)
  agree (x ∷ places) [] q different lp lq same = absurd (omega arith)
  agree (x ∷ places) (a ∷ p) [] different lp lq same = absurd (omega arith)
  agree (x ∷ places) (a ∷ p) (b ∷ q) different lp lq same =
      let here : value_at F (a ∷ p) x ≡ value_at F (b ∷ q) x = cc in
      let rest : map (value_at F (a ∷ p)) places ≡ map (value_at F (b ∷ q)) places = cc in
      let quotients = agree places (quotient p x) (quotient q x) different.1
      (length-quotient p x ∙ omega arith) (length-quotient q x ∙ omega arith)
      (quotients_agree a b p q x here places different.0 rest) in
      let tails : p ≡ q = same_from_quotient p q x quotients in
      let tail = x ⊗ value_at F q x in
      let same : a ≡ b =
      sum_cancel tail a b (sum_comm tail a ∙ ap (λ r. a ⊕ x ⊗ value_at F r x) (sym tails) ∙ here ∙ sum_comm b tail) in
      cc

  -- ---- a polynomial through given points

  length-with_value : (q : List T) (x y : T) → length (with_value F q x y) ≡ suc (length q)
  length-with_value [] x y = refl
  length-with_value (c ∷ q) x y = ap suc (length-with_value q x c)

  value_at-with_value : (q : List T) (x y t : T) → value_at F (with_value F q x y) t ≡ y ⊕ (t ⊕ x) ⊗ value_at F q t
  value_at-with_value [] x y t = ap (λ z. y ⊕ z) (product_zero t ∙ sym (product_zero (t ⊕ x)))
  value_at-with_value (c ∷ q) x y t =
      let v = value_at F q t in
      ap (λ z. (y ⊕ x ⊗ c) ⊕ t ⊗ z) (value_at-with_value q x c t)
      ∙ ap (λ z. (y ⊕ x ⊗ c) ⊕ z) (product_sum t c ((t ⊕ x) ⊗ v))
      ∙ sum_assoc y (x ⊗ c) (t ⊗ c ⊕ t ⊗ ((t ⊕ x) ⊗ v))
      ∙ ap (λ z. y ⊕ z)
      (sym (sum_assoc (x ⊗ c) (t ⊗ c) (t ⊗ ((t ⊕ x) ⊗ v)))
      ∙ ap (λ z. z ⊕ t ⊗ ((t ⊕ x) ⊗ v)) (sum_comm (x ⊗ c) (t ⊗ c) ∙ sym (sum_product t x c))
      ∙ ap (λ z. (t ⊕ x) ⊗ c ⊕ z) (product_swap t (t ⊕ x) v)
      ∙ sym (product_sum (t ⊕ x) c (t ⊗ v)))

  length-slopes : (x y : T) (places values : List T) → length places ≡ length values → length (slopes F x y places values) ≡ length places
  length-slopes x y [] values e = refl
  length-slopes x y (m ∷ places) [] e = absurd (omega arith)
  length-slopes x y (m ∷ places) (v ∷ values) e = ap suc (length-slopes x y places values (omega arith))

  length-polynomial_through : (places values : List T) → length places ≡ length values → length (polynomial_through F places values) ≡ length places
  length-polynomial_through [] values e = refl
  length-polynomial_through (x ∷ places) [] e = absurd (omega arith)
  length-polynomial_through (x ∷ places) (y ∷ values) e =
      length-with_value (polynomial_through F places (slopes F x y places values)) x y
      ∙ ap suc (length-polynomial_through places (slopes F x y places values) (sym (length-slopes x y places values (omega arith))))

  -- with the slopes as values of the quotient, the polynomial has the values
  values_from_slopes : (q : List T) (x y : T) (places values : List T) → length places ≡ length values → Differs x places → map (value_at F q) places ≡ slopes F x y places values → map (value_at F (with_value F q x y)) places ≡ values
  values_from_slopes q x y [] [] e different same = refl
  values_from_slopes q x y [] (v ∷ values) e different same = absurd (omega arith)
  values_from_slopes q x y (m ∷ places) [] e different same = absurd (omega arith)
  values_from_slopes q x y (m ∷ places) (v ∷ values) e different same =
      let slope : value_at F q m ≡ (v ⊕ y) ⊗ F.inverse (m ⊕ x) = cc in
      let rest : map (value_at F q) places ≡ slopes F x y places values = cc in
      let first : value_at F (with_value F q x y) m ≡ v =
      value_at-with_value q x y m
      ∙ ap (λ z. y ⊕ (m ⊕ x) ⊗ z) slope
      ∙ ap (λ z. y ⊕ z) (product_undone (m ⊕ x) (v ⊕ y) (differ m x different.0) ∙ sum_comm v y)
      ∙ sum_twice y v in
      let others = values_from_slopes q x y places values (omega arith) different.1 rest in
      ap (λ z. z ∷ map (value_at F (with_value F q x y)) places) first ∙ ap (λ z. v ∷ z) others

  values-polynomial_through : (places values : List T) → length places ≡ length values → AreDifferent places → map (value_at F (polynomial_through F places values)) places ≡ values
  values-polynomial_through [] [] e different = refl
  values-polynomial_through [] (y ∷ values) e different = absurd (omega arith)
  values-polynomial_through (x ∷ places) [] e different = absurd (omega arith)
  values-polynomial_through (x ∷ places) (y ∷ values) e different =
      let q = polynomial_through F places (slopes F x y places values) in
      let here : value_at F (with_value F q x y) x ≡ y =
      value_at-with_value q x y x
      ∙ ap (λ z. y ⊕ z ⊗ value_at F q x) (sum_self x)
      ∙ ap (λ z. y ⊕ z) (zero_product (value_at F q x))
      ∙ sum_zero y in
      let others = values_from_slopes q x y places values (omega arith) different.0
      (values-polynomial_through places (slopes F x y places values) (sym (length-slopes x y places values (omega arith))) different.1) in
      ap (λ z. z ∷ map (value_at F (with_value F q x y)) places) here ∙ ap (λ z. y ∷ z) others

  pub interpolates : (places values : List T) → length places ≡ length values → AreDifferent places → Interpolates F (polynomial_through F places values) places values
  interpolates places values e different =
      record { degree = length-polynomial_through places values e; takes = values-polynomial_through places values e different }

  pub interpolates_only : (places values p q : List T) → AreDifferent places → Interpolates F p places values → Interpolates F q places values → p ≡ q
  interpolates_only places values p q different r s =
      agree places p q different r.degree s.degree (r.takes ∙ sym s.takes)

  -- ---- the value at t as a sum of the given values, each with its weight

  -- the factor that the place m brings to the weight of the place x
  abbrev step : T → T → T → T
  step m x t = (t ⊕ m) ⊗ F.inverse (x ⊕ m)

  abbrev steps : List T → T → T → T
  steps [] x t = F.one
  steps (m ∷ places) x t = step m x t ⊗ steps places x t

  abbrev with_step : T → T → List T → List T → List T
  with_step x t [] places = []
  with_step x t (w ∷ weights) [] = []
  with_step x t (w ∷ weights) (m ∷ places) = step x m t ⊗ w ∷ with_step x t weights places

  abbrev weights_of : List T → T → List T
  weights_of [] t = []
  weights_of (x ∷ places) t = steps places x t ∷ with_step x t (weights_of places t) places

  abbrev total : List T → T
  total [] = F.zero
  total (a ∷ xs) = a ⊕ total xs

  abbrev zeros : List T → List T
  zeros places = map (λ x. F.zero) places

  -- a polynomial with one more coefficient than it has roots, by its value at another place
  from_roots : (places p : List T) (x t : T) → length p ≡ suc (length places) → AreDifferent places → Differs x places → map (value_at F p) places ≡ zeros places → value_at F p t ≡ steps places x t ⊗ value_at F p x
  from_roots places [] x t e different new roots = absurd (omega arith)
  from_roots [] (a ∷ []) x t e different new roots =
      sym (one_product (a ⊕ x ⊗ F.zero) ∙ ap (λ z. a ⊕ z) (product_zero x ∙ sym (product_zero t)))
  from_roots [] (a ∷ b ∷ p) x t e different new roots = absurd (omega arith)
  from_roots (m ∷ places) (a ∷ p) x t e different new roots =
      let root : value_at F (a ∷ p) m ≡ F.zero = cc in
      let others : map (value_at F (a ∷ p)) places ≡ zeros places = cc in
      let q = quotient p m in
      let at : (z : T) → value_at F (a ∷ p) z ≡ (z ⊕ m) ⊗ value_at F q z =
      λ z. sym (sum_zero (value_at F (a ∷ p) z)) ∙ ap (λ r. value_at F (a ∷ p) z ⊕ r) (sym root) ∙ quotient-difference a p m z in
      let ratio = from_roots places q x t (length-quotient p m ∙ omega arith) different.1 new.1 (roots_of_quotient m (a ∷ p) q at places different.0 others) in
      let s = steps places x t in
      let u = value_at F q x in
      let nonzero = differ x m (λ same. new.0 (sym same)) in
      at t
      ∙ ap (λ z. (t ⊕ m) ⊗ z) ratio
      ∙ sym (undo (t ⊕ m) (x ⊕ m) s u nonzero)
      ∙ ap (λ z. ((t ⊕ m) ⊗ F.inverse (x ⊕ m)) ⊗ s ⊗ z) (sym (at x))
    where
      undo : (d c s u : T) → c ≢ F.zero → ((d ⊗ F.inverse c) ⊗ s) ⊗ (c ⊗ u) ≡ d ⊗ (s ⊗ u)
      undo d c s u nonzero =
          product_assoc (d ⊗ F.inverse c) s (c ⊗ u)
          ∙ product_assoc d (F.inverse c) (s ⊗ (c ⊗ u))
          ∙ ap (λ z. d ⊗ z)
          (ap (λ z. F.inverse c ⊗ z) (product_swap s c u)
          ∙ product_swap (F.inverse c) c (s ⊗ u)
          ∙ ap (λ z. c ⊗ z) (product_comm (F.inverse c) (s ⊗ u))
          ∙ product_undone c (s ⊗ u) nonzero)

      roots_of_quotient : (m : T) (p q : List T) → ((z : T) → value_at F p z ≡ (z ⊕ m) ⊗ value_at F q z) → (places : List T) → Differs m places → map (value_at F p) places ≡ zeros places → map (value_at F q) places ≡ zeros places
      roots_of_quotient m p q at [] different roots = refl
      roots_of_quotient m p q at (l ∷ places) different roots =
          let root : value_at F p l ≡ F.zero = cc in
          let others : map (value_at F p) places ≡ zeros places = cc in
          let first : value_at F q l ≡ F.zero =
          product_cancel (l ⊕ m) (value_at F q l) F.zero (differ l m different.0) (sym (at l) ∙ root ∙ sym (product_zero (l ⊕ m))) in
          ap (λ z. z ∷ map (value_at F q) places) first ∙ ap (λ z. F.zero ∷ z) (roots_of_quotient m p q at places different.1 others)

  abbrev dot : List T → List T → T
  dot ws ys = weighted_sum F ws ys

  length-weights_of : (places : List T) (t : T) → length (weights_of places t) ≡ length places
  length-weights_of [] t = refl
  length-weights_of (x ∷ places) t =
      ap suc (length-with_step x t (weights_of places t) places (length-weights_of places t))
    where
      length-with_step : (x t : T) (ws places : List T) → length ws ≡ length places → length (with_step x t ws places) ≡ length places
      length-with_step x t [] places e = e
      length-with_step x t (w ∷ ws) [] e = refl
      length-with_step x t (w ∷ ws) (m ∷ places) e = ap suc (length-with_step x t ws places (omega arith))

  dot-zeros : (ws places : List T) → dot ws (zeros places) ≡ F.zero
  dot-zeros [] places = refl
  dot-zeros (w ∷ ws) [] = refl
  dot-zeros (w ∷ ws) (m ∷ places) =
      ap (λ z. z ⊕ dot ws (zeros places)) (product_zero w) ∙ zero_sum (dot ws (zeros places)) ∙ dot-zeros ws places

  -- the weighted sum of slopes
  dot-slopes : (x y t : T) (ws places values : List T) → length ws ≡ length places → length places ≡ length values → (t ⊕ x) ⊗ dot ws (slopes F x y places values) ≡ dot (with_step x t ws places) values ⊕ total (with_step x t ws places) ⊗ y
  dot-slopes x y t [] [] values lw lv =
      product_zero (t ⊕ x) ∙ sym (ap (λ z. F.zero ⊕ z) (zero_product y) ∙ sum_self F.zero)
  dot-slopes x y t [] (m ∷ places) values lw lv = absurd (omega arith)
  dot-slopes x y t (w ∷ ws) [] values lw lv = absurd (omega arith)
  dot-slopes x y t (w ∷ ws) (m ∷ places) [] lw lv = absurd (omega arith)
  dot-slopes x y t (w ∷ ws) (m ∷ places) (v ∷ values) lw lv =
      let s = step x m t ⊗ w in
      let rest = dot ws (slopes F x y places values) in
      let sums = with_step x t ws places in
      product_sum (t ⊕ x) (w ⊗ ((v ⊕ y) ⊗ F.inverse (m ⊕ x))) rest
      ∙ ap (λ z. z ⊕ (t ⊕ x) ⊗ rest) (shuffle (t ⊕ x) w (v ⊕ y) (F.inverse (m ⊕ x)) ∙ product_sum s v y)
      ∙ ap (λ z. (s ⊗ v ⊕ s ⊗ y) ⊕ z) (dot-slopes x y t ws places values (omega arith) (omega arith))
      ∙ sum_pairs (s ⊗ v) (s ⊗ y) (dot sums values) (total sums ⊗ y)
      ∙ ap (λ z. (s ⊗ v ⊕ dot sums values) ⊕ z) (sym (sum_product s (total sums) y))
    where
      shuffle : (d w u i : T) → d ⊗ (w ⊗ (u ⊗ i)) ≡ ((d ⊗ i) ⊗ w) ⊗ u
      shuffle d w u i =
          ap (λ z. d ⊗ z) (ap (λ z. w ⊗ z) (product_comm u i) ∙ product_swap w i u)
          ∙ sym (product_assoc d i (w ⊗ u))
          ∙ sym (product_assoc (d ⊗ i) w u)

  -- one more place in front, where its weight is what the others leave of one
  one_more_place : (x y t : T) (places values : List T) → length places ≡ length values → ((ys : List T) → length places ≡ length ys → value_at F (polynomial_through F places ys) t ≡ dot (weights_of places t) ys) → value_at F (polynomial_through F (x ∷ places) (y ∷ values)) t ≡ (F.one ⊕ total (with_step x t (weights_of places t) places)) ⊗ y ⊕ dot (with_step x t (weights_of places t) places) values
  one_more_place x y t places values e known =
      let ws = with_step x t (weights_of places t) places in
      value_at-with_value (polynomial_through F places (slopes F x y places values)) x y t
      ∙ ap (λ z. y ⊕ (t ⊕ x) ⊗ z) (known (slopes F x y places values) (sym (length-slopes x y places values e)))
      ∙ ap (λ z. y ⊕ z) (dot-slopes x y t (weights_of places t) places values (length-weights_of places t) e ∙ sum_comm (dot ws values) (total ws ⊗ y))
      ∙ sym (sum_assoc y (total ws ⊗ y) (dot ws values))
      ∙ ap (λ z. z ⊕ dot ws values) (ap (λ z. z ⊕ total ws ⊗ y) (sym (one_product y)) ∙ sym (sum_product F.one (total ws) y))

  length-zeros : (places : List T) → length places ≡ length (zeros places)
  length-zeros [] = refl
  length-zeros (x ∷ places) = ap suc (length-zeros places)

  value_at-weights_of : (places values : List T) (t : T) → length places ≡ length values → AreDifferent places → value_at F (polynomial_through F places values) t ≡ dot (weights_of places t) values
  value_at-weights_of [] values t e different = refl
  value_at-weights_of (x ∷ places) [] t e different = absurd (omega arith)
  value_at-weights_of (x ∷ places) (y ∷ values) t e different =
      let known : (ys : List T) → length places ≡ length ys → value_at F (polynomial_through F places ys) t ≡ dot (weights_of places t) ys =
      λ ys h. value_at-weights_of places ys t h different.1 in
      let ws = with_step x t (weights_of places t) places in
      let p = polynomial_through F (x ∷ places) (F.one ∷ zeros places) in
      let through = interpolates (x ∷ places) (F.one ∷ zeros places) (ap suc (length-zeros places)) different in
      let at_x : value_at F p x ≡ F.one = heads through.takes in
      let roots : map (value_at F p) places ≡ zeros places = tails through.takes in
      let head : F.one ⊕ total ws ≡ steps places x t =
      sym (one_more_place x F.one t places (zeros places) (length-zeros places) known
      ∙ ap (λ z. (F.one ⊕ total ws) ⊗ F.one ⊕ z) (dot-zeros ws places)
      ∙ sum_zero ((F.one ⊕ total ws) ⊗ F.one)
      ∙ product_one (F.one ⊕ total ws))
      ∙ from_roots places p x t through.degree different.1 different.0 roots
      ∙ ap (λ z. steps places x t ⊗ z) at_x
      ∙ product_one (steps places x t) in
      one_more_place x y t places values (omega arith) known ∙ ap (λ z. z ⊗ y ⊕ dot ws values) head
    where
      heads : {a b : T} {r s : List T} → a ∷ r ≡ b ∷ s → a ≡ b
      heads e = cc

      tails : {a b : T} {r s : List T} → a ∷ r ≡ b ∷ s → r ≡ s
      tails e = cc

  -- ---- the same weights, by a test of equality

  module _ (same : T → T → Bool) (same_false : (a b : T) → a ≢ b → same a b ≡ false) (same_true : (a : T) → same a a ≡ true) where
    -- the weight, by recursion over the places
    abbrev lagrange : List T → T → T → T
    lagrange [] x t = F.one
    lagrange (m ∷ places) x t = cond (same m x) (lagrange places x t) (step m x t ⊗ lagrange places x t)

    fold-weight_step : (places : List T) (x t w : T) → fold (weight_step F same x t) w places ≡ w ⊗ lagrange places x t
    fold-weight_step [] x t w = sym (product_one w)
    fold-weight_step (m ∷ places) x t w =
        fold-weight_step places x t (weight_step F same x t w m) ∙ one_step (same m x) w (t ⊕ m) (F.inverse (x ⊕ m)) (lagrange places x t)
      where
        one_step : (b : Bool) (w d i l : T) → cond b w ((w ⊗ d) ⊗ i) ⊗ l ≡ w ⊗ cond b l ((d ⊗ i) ⊗ l)
        one_step true w d i l = refl
        one_step false w d i l =
            product_assoc (w ⊗ d) i l ∙ product_assoc w d (i ⊗ l) ∙ ap (λ z. w ⊗ z) (sym (product_assoc d i l))

    weight-lagrange : (places : List T) (x t : T) → weight F same places x t ≡ lagrange places x t
    weight-lagrange places x t = fold-weight_step places x t F.one ∙ one_product (lagrange places x t)

    lagrange-new : (places : List T) (x t : T) → Differs x places → lagrange places x t ≡ steps places x t
    lagrange-new [] x t different = refl
    lagrange-new (m ∷ places) x t different =
        cond-false (same m x) (lagrange places x t) (step m x t ⊗ lagrange places x t) (same_false m x different.0)
        ∙ ap (λ z. step m x t ⊗ z) (lagrange-new places x t different.1)

    lagrange-with_step : (x t : T) (places some : List T) → Differs x some → map (λ m. lagrange (x ∷ places) m t) some ≡ with_step x t (map (λ m. lagrange places m t) some) some
    lagrange-with_step x t places [] different = refl
    lagrange-with_step x t places (m ∷ some) different =
        ap (λ z. z ∷ map (λ m. lagrange (x ∷ places) m t) some)
        (cond-false (same x m) (lagrange places m t) (step x m t ⊗ lagrange places m t) (same_false x m (λ e. different.0 (sym e))))
        ∙ ap (λ z. step x m t ⊗ lagrange places m t ∷ z) (lagrange-with_step x t places some different.1)

    lagrange_are : (places : List T) (t : T) → AreDifferent places → map (λ m. lagrange places m t) places ≡ weights_of places t
    lagrange_are [] t different = refl
    lagrange_are (x ∷ places) t different =
        ap (λ z. z ∷ map (λ m. lagrange (x ∷ places) m t) places)
        (cond-true (same x x) (lagrange places x t) (step x x t ⊗ lagrange places x t) (same_true x) ∙ lagrange-new places x t different.0)
        ∙ ap (λ z. steps places x t ∷ z)
        (lagrange-with_step x t places places different.0 ∙ ap (λ ws. with_step x t ws places) (lagrange_are places t different.1))

    weights_are : (all places : List T) (t : T) → map (λ m. weight F same all m t) places ≡ map (λ m. lagrange all m t) places
    weights_are all [] t = refl
    weights_are all (x ∷ places) t =
        ap (λ z. z ∷ map (λ m. weight F same all m t) places) (weight-lagrange all x t)
        ∙ ap (λ z. lagrange all x t ∷ z) (weights_are all places t)

    pub value_at-weights : (places values : List T) (t : T) → length places ≡ length values → AreDifferent places → value_at F (polynomial_through F places values) t ≡ weighted_sum F (map (λ m. weight F same places m t) places) values
    value_at-weights places values t e different =
        value_at-weights_of places values t e different
        ∙ ap (λ ws. weighted_sum F ws values) (sym (lagrange_are places t different) ∙ sym (weights_are places places t))
