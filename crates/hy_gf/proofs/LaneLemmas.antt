-- What operations on vectors hold at each lane.
use Rattle.std.proofs.Common.{◌≡◌, ℕ, ◌+◌, ◌*◌, ◌/◌, ◌%◌, ◌<◌, List, Bool, true, false, cond, eqb, leb, length, get_or, replicate, map, refl, sym, ap, ◌∙◌, arith, w8, subst}
use Rattle.std.specs.Int.Bits.{bit_xor}
use Rattle.std.specs.Simd.Lanes.{zip2, sel_l, top}
use Rattle.std.proofs.lemmas.Bool.{eqb-true}
use Rattle.std.proofs.lemmas.Simd.{length-zip2, get_or-zip2, get_or-replicate, length-sel_l, get_or-sel_l, tops_compared, swz_l, SwzOk, length-swz_l, get_or-swz_l_below, SwzOk-from_below, Each1-from_get_or}
use Rattle.hy_gf.specs.Gf.{gf_product, polynomial_product, remainder}
use Rattle.hy_gf.specs.GfLaws.{all_below, at_below}
use Rattle.hy_gf.specs.Lanes.{HasLanes}

pub lanes_of : (v : List ℕ) → length v ≡ 32 → HasLanes v (λ k. get_or v k 0)
lanes_of v long = record { long = long; each = λ k l. refl }

pub lanes_same : (v : List ℕ) (f g : ℕ → ℕ) → HasLanes v f → ((k : ℕ) → k < 32 → f k ≡ g k) → HasLanes v g
lanes_same v f g h same = record { long = h.long; each = λ k l. h.each k l ∙ same k l }

pub splat : (x : ℕ) → HasLanes (replicate 32 x) (λ k. x)
splat x = record { long = refl; each = λ k l. get_or-replicate 32 k x 0 l }

-- an operator on the lanes of two vectors
pub zipped : (f : ℕ → ℕ → ℕ) (a b : List ℕ) (g h : ℕ → ℕ) → HasLanes a g → HasLanes b h → HasLanes (zip2 f a b) (λ k. f (g k) (h k))
zipped f a b g h p q = record {
  long = length-zip2 f a b (p.long ∙ sym q.long) ∙ p.long;
  each = λ k l.
      get_or-zip2 f a b k 0 0 0 (omega (arith, p.long)) (omega (arith, q.long))
      ∙ ap (λ x. f x (get_or b k 0)) (p.each k l)
      ∙ ap (f (g k)) (q.each k l);
}

-- a choice by the comparison of two vectors
pub chosen : (t : ℕ → ℕ → Bool) (a b x y : List ℕ) (f g p q : ℕ → ℕ) → HasLanes a f → HasLanes b g → HasLanes x p → HasLanes y q → HasLanes (sel_l (zip2 t a b) x y) (λ k. cond (t (f k) (g k)) (p k) (q k))
chosen t a b x y f g p q is_a is_b is_x is_y =
    let long : length (zip2 t a b) ≡ 32 = length-zip2 t a b (is_a.long ∙ sym is_b.long) ∙ is_a.long in
    record {
      long = length-sel_l (zip2 t a b) x y (long ∙ sym is_x.long) (long ∙ sym is_y.long) ∙ long;
      each = λ k l.
          let tested : get_or (zip2 t a b) k false ≡ t (f k) (g k) =
          get_or-zip2 t a b k 0 0 false (omega (arith, is_a.long)) (omega (arith, is_b.long))
          ∙ ap (λ z. t z (get_or b k 0)) (is_a.each k l) ∙ ap (t (f k)) (is_b.each k l) in
          get_or-sel_l (zip2 t a b) x y k 0 (omega (arith, long)) (omega (arith, is_x.long)) (omega (arith, is_y.long))
          ∙ ap (λ z. cond z (get_or x k 0) (get_or y k 0)) tested
          ∙ ap (λ z. cond (t (f k) (g k)) z (get_or y k 0)) (is_x.each k l)
          ∙ ap (λ z. cond (t (f k) (g k)) (p k) z) (is_y.each k l);
    }

-- ---- products with x

abbrev doubled_lane : ℕ → ℕ
doubled_lane b = bit_xor ((b + b) % 256) (cond (leb 128 b) 29 0)

abbrev is_doubled_lane : ℕ → Bool
is_doubled_lane b = eqb (doubled_lane b) (gf_product 2 b)

all_lanes_are_doubled : all_below 256 is_doubled_lane ≡ true
unfolding gf_product polynomial_product remainder
all_lanes_are_doubled = refl

pub lanes_doubled : (v : List ℕ) → length v ≡ 32 → ((k : ℕ) → k < 32 → get_or v k 0 < 256) → HasLanes (zip2 bit_xor (zip2 (λ a b. (a + b) % 256) v v) (sel_l (map (top 7) (zip2 (λ a b. cond (leb a b) 255 0) (replicate 32 128) v)) (replicate 32 29) (replicate 32 0))) (λ k. gf_product 2 (get_or v k 0))
lanes_doubled v long small =
    let own = lanes_of v long in
    let H : List Bool → Type 0 = λ ms. HasLanes (sel_l ms (replicate 32 29) (replicate 32 0)) (λ k. cond (leb 128 (get_or v k 0)) 29 0) in
    let reduction : H (map (top 7) (zip2 (λ a b. cond (leb a b) 255 0) (replicate 32 128) v)) =
    subst H (sym (tops_compared w8 leb (replicate 32 128) v))
    (chosen leb (replicate 32 128) v (replicate 32 29) (replicate 32 0) (λ k. 128) (λ k. get_or v k 0) (λ k. 29) (λ k. 0) (splat 128) own (splat 29) (splat 0)) in
    lanes_same _ _ _
    (zipped bit_xor _ _ (λ k. (get_or v k 0 + get_or v k 0) % 256) (λ k. cond (leb 128 (get_or v k 0)) 29 0)
    (zipped (λ a b. (a + b) % 256) v v (λ k. get_or v k 0) (λ k. get_or v k 0) own own) reduction)
    (λ k l. eqb-true (doubled_lane (get_or v k 0)) (gf_product 2 (get_or v k 0)) (at_below 256 is_doubled_lane all_lanes_are_doubled (get_or v k 0) (small k l)))

-- ---- look-ups

-- each lane's place stands within its block of 16 lanes
module _ (places : List ℕ) (f : ℕ → ℕ) (has : HasLanes places f) (small : (k : ℕ) → k < 32 → f k < 16) where
  place_below : (k : ℕ) → k < 32 → get_or places k 0 < 16
  place_below k l = omega (arith, has.each k l, small k l)

  pub places_are_right : SwzOk w8 16 32 0 places
  places_are_right =
      SwzOk-from_below w8 16 2 32 0 places refl (omega (arith, has.long))
      (Each1-from_get_or (λ j. j < 16) places 0 (λ k l. place_below k (omega (arith, has.long))))

  pub lanes_looked_up : (table : List ℕ) → HasLanes (swz_l w8 16 table 0 places) (λ k. get_or table (16 * (k / 16) + f k) 0)
  lanes_looked_up table = record {
    long = length-swz_l w8 16 table 0 places ∙ has.long;
    each = λ k l.
        get_or-swz_l_below w8 16 table 0 places k (omega (arith, has.long)) (place_below k l)
        ∙ ap (λ j. get_or table j 0) (omega (arith, has.each k l));
  }
