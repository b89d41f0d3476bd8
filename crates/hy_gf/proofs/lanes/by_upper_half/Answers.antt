use Rattle.std.proofs.Common.{◌≡◌, ℕ, ◌/◌, ◌^◌, ◌<◌, List, length, get_or, replicate, arith, w8, Fits}
use Rattle.std.proofs.lemmas.Simd.{Each1-get_or}
use Rattle.std.specs.Simd.Lanes.{zip2, Each1}
use Rattle.hy_gf.specs.Lanes.{HasLanes}
use Rattle.hy_gf.proofs.LaneLemmas.{lanes_of, splat, zipped, places_are_right, lanes_looked_up}
use Rattle.hy_gf.proofs.lanes.by_upper_half.Goals as goal

upper : (v : List ℕ) → length v ≡ 32 → HasLanes (zip2 (λ a b. a / 2 ^ b) v (replicate 32 4)) (λ k. get_or v k 0 / 16)
upper v long = zipped (λ a b. a / 2 ^ b) v (replicate 32 4) (λ k. get_or v k 0) (λ k. 4) (lanes_of v long) (splat 4)

small : (v : List ℕ) → length v ≡ 32 → Each1 (Fits w8) v → (k : ℕ) → k < 32 → get_or v k 0 / 16 < 16
small v long fits k l = omega (arith, (Each1-get_or (Fits w8) v k 0 (omega (arith, long)) fits).fits)

pub swizzle : goal.swizzle
swizzle c = places_are_right _ _ (upper c.args.lanes c.fits-lanes.0) (small c.args.lanes c.fits-lanes.0 c.fits-lanes.1)

pub returns : goal.returns
returns c =
    lanes_looked_up _ _ (upper c.args.lanes c.fits-lanes.0) (small c.args.lanes c.fits-lanes.0 c.fits-lanes.1) c.args.table
