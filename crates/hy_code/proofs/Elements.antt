-- Interpolation over a field some of whose values are elements: the elements alone are a field of which all values are elements.
use Rattle.std.proofs.Common.{◌≡◌, ◌≢◌, suc, List, [], ◌∷◌, length, map, refl, sym, ap, ◌∙◌, subst, Bool, true, false, cond}
use mathlib.Core.HLevel.{Σ_prop_path}
use Rattle.std.specs.List.{fold}
use Rattle.hy_gf.specs.Field.{Operations, IsField}
use Rattle.hy_code.specs.Weights.{weight, weight_step}
use Rattle.hy_code.proofs.Interpolation.{weighted_sum}
use Rattle.hy_code.specs.Polynomial.{AreElements, Differs, AreDifferent, IsOnlyPolynomial, value_at, Interpolates, with_value, slopes, polynomial_through}
use Rattle.hy_code.proofs.Interpolation as whole

module _ (T : Type 0) (is_element : T → Type 0) (F : Operations T) (field : IsField is_element F) (unique : (x : T) → IsProp (is_element x)) where
  abbrev Element : Type 0
  Element = (x : T) × is_element x

  same_element : (x y : Element) → x.0 ≡ y.0 → x ≡ y
  same_element x y e = Σ_prop_path unique e

  abbrev elements : Operations Element
  elements = record {
    zero = (F.zero, field.zero_element);
    one = (F.one, field.one_element);
    sum = λ x y. (F.sum x.0 y.0, field.sum_element x.0 y.0 x.1 y.1);
    product = λ x y. (F.product x.0 y.0, field.product_element x.0 y.0 x.1 y.1);
    inverse = λ x. (F.inverse x.0, field.inverse_element x.0 x.1);
  }

  whole_field : IsField (λ (x : Element). Unit {0}) elements
  whole_field = record {
    zero_element = tt;
    one_element = tt;
    sum_element = λ x y p q. tt;
    product_element = λ x y p q. tt;
    inverse_element = λ x p. tt;
    one_zero = λ e. field.one_zero (ap (λ x. x.0) e);
    sum_comm = λ x y p q. same_element _ _ (field.sum_comm x.0 y.0 x.1 y.1);
    sum_assoc = λ x y z p q r. same_element _ _ (field.sum_assoc x.0 y.0 z.0 x.1 y.1 z.1);
    sum_zero = λ x p. same_element _ _ (field.sum_zero x.0 x.1);
    sum_self = λ x p. same_element _ _ (field.sum_self x.0 x.1);
    product_comm = λ x y p q. same_element _ _ (field.product_comm x.0 y.0 x.1 y.1);
    product_assoc = λ x y z p q r. same_element _ _ (field.product_assoc x.0 y.0 z.0 x.1 y.1 z.1);
    product_one = λ x p. same_element _ _ (field.product_one x.0 x.1);
    product_sum = λ x y z p q r. same_element _ _ (field.product_sum x.0 y.0 z.0 x.1 y.1 z.1);
    product_inverse = λ x p nonzero. same_element _ _ (field.product_inverse x.0 x.1 (λ e. nonzero (same_element _ _ e)));
  }

  -- ---- the values of elements

  abbrev value : Element → T
  value x = x.0

  abbrev values : List Element → List T
  values xs = map value xs

  values-elements : (xs : List Element) → AreElements is_element (values xs)
  values-elements [] = tt
  values-elements (x ∷ xs) = (x.1, values-elements xs)

  abbrev lift : (xs : List T) → AreElements is_element xs → List Element
  lift [] all = []
  lift (x ∷ xs) all = (x, all.0) ∷ lift xs all.1

  values-lift : (xs : List T) (all : AreElements is_element xs) → values (lift xs all) ≡ xs
  values-lift [] all = refl
  values-lift (x ∷ xs) all = ap (λ r. x ∷ r) (values-lift xs all.1)

  length-values : (xs : List Element) → length (values xs) ≡ length xs
  length-values [] = refl
  length-values (x ∷ xs) = ap suc (length-values xs)

  same_values : (xs ys : List Element) → values xs ≡ values ys → xs ≡ ys
  same_values [] [] e = refl
  same_values [] (y ∷ ys) e = cc
  same_values (x ∷ xs) [] e = cc
  same_values (x ∷ xs) (y ∷ ys) e =
      let first : x.0 ≡ y.0 = cc in
      let rest : values xs ≡ values ys = cc in
      ap (λ z. z ∷ xs) (same_element x y first) ∙ ap (λ z. y ∷ z) (same_values xs ys rest)

  differs : (x : Element) (places : List Element) → Differs x.0 (values places) → Differs x places
  differs x [] different = tt
  differs x (m ∷ places) different = ((λ e. different.0 (ap value e)), differs x places different.1)

  are_different : (places : List Element) → AreDifferent (values places) → AreDifferent places
  are_different [] different = tt
  are_different (x ∷ places) different = (differs x places different.0, are_different places different.1)

  value-value_at : (p : List Element) (x : Element) → value (value_at elements p x) ≡ value_at F (values p) (value x)
  value-value_at [] x = refl
  value-value_at (a ∷ p) x = ap (λ z. F.sum a.0 (F.product x.0 z)) (value-value_at p x)

  values-with_value : (q : List Element) (x y : Element) → values (with_value elements q x y) ≡ with_value F (values q) (value x) (value y)
  values-with_value [] x y = refl
  values-with_value (c ∷ q) x y = ap (λ z. F.sum y.0 (F.product x.0 c.0) ∷ z) (values-with_value q x c)

  values-slopes : (x y : Element) (places ys : List Element) → values (slopes elements x y places ys) ≡ slopes F (value x) (value y) (values places) (values ys)
  values-slopes x y [] ys = refl
  values-slopes x y (m ∷ places) [] = refl
  values-slopes x y (m ∷ places) (v ∷ ys) =
      ap (λ z. F.product (F.sum v.0 y.0) (F.inverse (F.sum m.0 x.0)) ∷ z) (values-slopes x y places ys)

  values-polynomial_through : (places ys : List Element) → values (polynomial_through elements places ys) ≡ polynomial_through F (values places) (values ys)
  values-polynomial_through [] ys = refl
  values-polynomial_through (x ∷ places) [] = refl
  values-polynomial_through (x ∷ places) (y ∷ ys) =
      values-with_value (polynomial_through elements places (slopes elements x y places ys)) x y
      ∙ ap (λ z. with_value F z x.0 y.0)
      (values-polynomial_through places (slopes elements x y places ys)
      ∙ ap (λ z. polynomial_through F (values places) z) (values-slopes x y places ys))

  values-map_value_at : (p places : List Element) → values (map (value_at elements p) places) ≡ map (value_at F (values p)) (values places)
  values-map_value_at p [] = refl
  values-map_value_at p (x ∷ places) =
      ap (λ z. z ∷ values (map (value_at elements p) places)) (value-value_at p x)
      ∙ ap (λ z. value_at F (values p) x.0 ∷ z) (values-map_value_at p places)

  interpolates-values : (p places ys : List Element) → Interpolates elements p places ys → Interpolates F (values p) (values places) (values ys)
  interpolates-values p places ys h =
      record {
        degree = length-values p ∙ h.degree ∙ sym (length-values places);
        takes = sym (values-map_value_at p places) ∙ ap values h.takes;
      }

  interpolates-lift : (p places ys : List Element) → Interpolates F (values p) (values places) (values ys) → Interpolates elements p places ys
  interpolates-lift p places ys h =
      record {
        degree = sym (length-values p) ∙ h.degree ∙ length-values places;
        takes = same_values _ _ (values-map_value_at p places ∙ h.takes);
      }

  -- ---- the laws

  only_of_elements : (places ys : List Element) → length places ≡ length ys → AreDifferent (values places) → IsOnlyPolynomial is_element F (polynomial_through F (values places) (values ys)) (values places) (values ys)
  only_of_elements places ys e different =
      let p = polynomial_through elements places ys in
      let here = are_different places different in
      let interpolates = whole.interpolates Element elements whole_field places ys e here in
      let P : List T → Type 0 = λ r. IsOnlyPolynomial is_element F r (values places) (values ys) in
      subst P (values-polynomial_through places ys)
      (record {
        elements = values-elements p;
        interpolates = interpolates-values p places ys interpolates;
        only = λ q all h.
            let lifted = lift q all in
            let Q : List T → Type 0 = λ r. Interpolates F r (values places) (values ys) in
            sym (values-lift q all)
            ∙ ap values (whole.interpolates_only Element elements whole_field places ys lifted p here
            (interpolates-lift lifted places ys (subst Q (sym (values-lift q all)) h)) interpolates);
      })

  -- the polynomial through given points is the only one
  pub only_polynomial : (places ys : List T) → AreElements is_element places → AreElements is_element ys → length places ≡ length ys → AreDifferent places → IsOnlyPolynomial is_element F (polynomial_through F places ys) places ys
  only_polynomial places ys all_places all_ys e different =
      let P : List T → List T → Type 0 = λ ps vs. IsOnlyPolynomial is_element F (polynomial_through F ps vs) ps vs in
      let D : List T → Type 0 = AreDifferent in
      let lifted = lift places all_places in
      let lifted_ys = lift ys all_ys in
      let h : P (values lifted) (values lifted_ys) =
      only_of_elements lifted lifted_ys
      (sym (length-values lifted) ∙ ap length (values-lift places all_places) ∙ e ∙ sym (ap length (values-lift ys all_ys)) ∙ length-values lifted_ys)
      (subst D (sym (values-lift places all_places)) different) in
      let one : P places (values lifted_ys) = subst (λ ps. P ps (values lifted_ys)) (values-lift places all_places) h in
      subst (λ vs. P places vs) (values-lift ys all_ys) one

  -- ---- weights

  module _ (same : T → T → Bool) (same_false : (a b : T) → a ≢ b → same a b ≡ false) (same_true : (a : T) → same a a ≡ true) where
    abbrev same_values_test : Element → Element → Bool
    same_values_test x y = same x.0 y.0

    value-if : (b : Bool) (x y : Element) → value (cond b x y) ≡ cond b (value x) (value y)
    value-if true x y = refl
    value-if false x y = refl

    value-fold : (places : List Element) (x t w : Element) → value (fold (weight_step elements same_values_test x t) w places) ≡ fold (weight_step F same (value x) (value t)) (value w) (values places)
    value-fold [] x t w = refl
    value-fold (m ∷ places) x t w =
        let next = elements.product (elements.product w (elements.sum t m)) (elements.inverse (elements.sum x m)) in
        value-fold places x t (cond (same m.0 x.0) w next)
        ∙ ap (λ z. fold (weight_step F same (value x) (value t)) z (values places)) (value-if (same m.0 x.0) w next)

    value-weight : (places : List Element) (x t : Element) → value (weight elements same_values_test places x t) ≡ weight F same (values places) (value x) (value t)
    value-weight places x t = value-fold places x t elements.one

    value-weighted_sum : (ws ys : List Element) → value (weighted_sum elements ws ys) ≡ weighted_sum F (values ws) (values ys)
    value-weighted_sum [] ys = refl
    value-weighted_sum (w ∷ ws) [] = refl
    value-weighted_sum (w ∷ ws) (y ∷ ys) = ap (λ z. F.sum (F.product w.0 y.0) z) (value-weighted_sum ws ys)

    values-weights : (all some : List Element) (t : Element) → values (map (λ m. weight elements same_values_test all m t) some) ≡ map (λ m. weight F same (values all) m (value t)) (values some)
    values-weights all [] t = refl
    values-weights all (x ∷ some) t =
        ap (λ z. z ∷ values (map (λ m. weight elements same_values_test all m t) some)) (value-weight all x t)
        ∙ ap (λ z. weight F same (values all) x.0 t.0 ∷ z) (values-weights all some t)

    sum_of_elements : (places ys : List Element) (t : Element) → length places ≡ length ys → AreDifferent (values places) → value_at F (polynomial_through F (values places) (values ys)) (value t) ≡ weighted_sum F (map (λ m. weight F same (values places) m (value t)) (values places)) (values ys)
    sum_of_elements places ys t e different =
        let p = polynomial_through elements places ys in
        ap (λ r. value_at F r t.0) (sym (values-polynomial_through places ys))
        ∙ sym (value-value_at p t)
        ∙ ap value (whole.value_at-weights Element elements whole_field same_values_test
        (λ x y h. same_false x.0 y.0 (λ same_value. h (same_element x y same_value))) (λ x. same_true x.0)
        places ys t e (are_different places different))
        ∙ value-weighted_sum (map (λ m. weight elements same_values_test places m t) places) ys
        ∙ ap (λ ws. weighted_sum F ws (values ys)) (values-weights places places t)

    -- the value of the polynomial through given points, as the weighted sum of their values
    pub value_at-weights : (places ys : List T) (t : T) → AreElements is_element places → AreElements is_element ys → is_element t → length places ≡ length ys → AreDifferent places → value_at F (polynomial_through F places ys) t ≡ weighted_sum F (map (λ m. weight F same places m t) places) ys
    value_at-weights places ys t all_places all_ys here e different =
        let P : List T → List T → Type 0 = λ ps vs. value_at F (polynomial_through F ps vs) t ≡ weighted_sum F (map (λ m. weight F same ps m t) ps) vs in
        let D : List T → Type 0 = AreDifferent in
        let lifted = lift places all_places in
        let lifted_ys = lift ys all_ys in
        let h : P (values lifted) (values lifted_ys) =
        sum_of_elements lifted lifted_ys (t, here)
        (sym (length-values lifted) ∙ ap length (values-lift places all_places) ∙ e ∙ sym (ap length (values-lift ys all_ys)) ∙ length-values lifted_ys)
        (subst D (sym (values-lift places all_places)) different) in
        let one : P places (values lifted_ys) = subst (λ ps. P ps (values lifted_ys)) (values-lift places all_places) h in
        subst (λ vs. P places vs) (values-lift ys all_ys) one
