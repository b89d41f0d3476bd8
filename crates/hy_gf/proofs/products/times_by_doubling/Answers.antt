use Rattle.std.proofs.Common.{◌≡◌, ℕ, ◌-◌, ◌/◌, ◌^◌, ◌<◌, List, length, get_or, rules, sym, ap, ◌∙◌, arith, w8, Fits}
use Rattle.std.specs.Simd.Lanes.{Each1}
use Rattle.std.proofs.lemmas.Simd.{Each1-get_or}
use Rattle.hy_gf.specs.Gf.{gf_sum, gf_product}
use Rattle.hy_gf.specs.GfLaws.{zero-product}
use Rattle.hy_gf.specs.Lanes.{HasLanes}
use Rattle.hy_gf.proofs.Doubling.{bit_clear, bit_set}
use Rattle.hy_gf.proofs.LaneLemmas.{lanes_same, splat}
use Rattle.hy_gf.proofs.products.times_by_doubling.Goals as goal

byte_at : (lanes : List ℕ) → length lanes ≡ 32 → Each1 (Fits w8) lanes → (k : ℕ) → k < 32 → get_or lanes k 0 < 256
byte_at lanes long fits k within = (Each1-get_or (Fits w8) lanes k 0 (omega (arith, long)) fits).fits

pub loop-power-init : goal.loop-power-init
loop-power-init c =
    let none : c.args.factor / 2 ^ 8 ≡ 0 = omega (arith, factor_small) in
    lanes_same _ _ _ (splat 0) (λ k l. sym (ap (λ x. gf_product x (get_or c.args.lanes k 0)) none ∙ zero-product (get_or c.args.lanes k 0)))
  where
    factor_small : c.args.factor < 256
    factor_small = search rules

pub loop-power-preserved-then-byte-power-eq1 : goal.loop-power-preserved-then-byte-power-eq1
loop-power-preserved-then-byte-power-eq1 c =
    lanes_same _ _ _ c.sums-products.ensures
    (λ k l.
    let lane = get_or c.args.lanes k 0 in
    ap (λ x. gf_sum x lane) (c.doubled_lanes-products.ensures.each k l)
    ∙ bit_set c.args.factor c.loop-power.power lane (get_or c.loop-power.products k 0) c.loop-power-test.true
    (search rules) (byte_at c.args.lanes c.fits-lanes.0 c.fits-lanes.1 k l) (c.loop-power.invariant.each k l) (search rules))

pub loop-power-preserved : goal.loop-power-preserved
loop-power-preserved c =
    lanes_same _ _ _ c.doubled_lanes-products.ensures
    (λ k l.
    bit_clear c.args.factor c.loop-power.power (get_or c.args.lanes k 0) (get_or c.loop-power.products k 0) c.loop-power-test.true
    (search rules) (byte_at c.args.lanes c.fits-lanes.0 c.fits-lanes.1 k l) (c.loop-power.invariant.each k l) (search rules))
