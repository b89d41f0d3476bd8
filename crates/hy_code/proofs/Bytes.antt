-- Interpolation over bytes.
use Rattle.std.proofs.Common.{◌≡◌, ◌<◌, ℕ, List, [], ◌∷◌, length, map, eqb}
use Rattle.std.proofs.lemmas.Bool.{ne_eqb, eq-eqb}
use Rattle.std.proofs.Common.{refl}
use Rattle.std.specs.Coded.{le_prop}
use Rattle.hy_gf.specs.Gf.{gf, IsElement}
use Rattle.hy_gf.specs.GfLaws.{gf_is_field}
use Rattle.hy_code.specs.Weights.{weight}
use Rattle.hy_code.proofs.Interpolation.{weighted_sum}
use Rattle.hy_code.specs.Polynomial.{AreElements, AreDifferent, IsOnlyPolynomial, value_at, polynomial_through}
use Rattle.hy_code.proofs.Elements as field

pub only_polynomial : (places values : List ℕ) → AreElements IsElement places → AreElements IsElement values → length places ≡ length values → AreDifferent places → IsOnlyPolynomial IsElement gf (polynomial_through gf places values) places values
only_polynomial = field.only_polynomial ℕ IsElement gf gf_is_field (λ x. le_prop)

pub value_at-weights : (places values : List ℕ) (t : ℕ) → AreElements IsElement places → AreElements IsElement values → t < 256 → length places ≡ length values → AreDifferent places → value_at gf (polynomial_through gf places values) t ≡ weighted_sum gf (map (λ m. weight gf eqb places m t) places) values
value_at-weights =
    field.value_at-weights ℕ IsElement gf gf_is_field (λ x. le_prop) eqb (λ a b. ne_eqb a b) (λ a. eq-eqb a a refl)

pub value_at-element : (p : List ℕ) (x : ℕ) → AreElements IsElement p → x < 256 → value_at gf p x < 256
value_at-element [] x all here = gf_is_field.zero_element
value_at-element (a ∷ p) x all here =
    gf_is_field.sum_element a (gf.product x (value_at gf p x)) all.0
    (gf_is_field.product_element x (value_at gf p x) here (value_at-element p x all.1 here))
