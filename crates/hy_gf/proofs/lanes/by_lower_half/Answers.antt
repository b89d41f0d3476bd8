use Rattle.std.proofs.Common.{◌≡◌, ℕ, ◌%◌, List, length, get_or, replicate, arith, bit_and}
use Rattle.std.proofs.lemmas.Nat.{and_mask}
use Rattle.std.specs.Simd.Lanes.{zip2}
use Rattle.hy_gf.specs.Lanes.{HasLanes}
use Rattle.hy_gf.proofs.LaneLemmas.{lanes_of, lanes_same, splat, zipped, places_are_right, lanes_looked_up}
use Rattle.hy_gf.proofs.lanes.by_lower_half.Goals as goal

lower : (v : List ℕ) → length v ≡ 32 → HasLanes (zip2 bit_and v (replicate 32 15)) (λ k. get_or v k 0 % 16)
lower v long =
    lanes_same _ _ _ (zipped bit_and v (replicate 32 15) (λ k. get_or v k 0) (λ k. 15) (lanes_of v long) (splat 15))
    (λ k l. and_mask (get_or v k 0) 4)

pub swizzle : goal.swizzle
swizzle c = places_are_right _ _ (lower c.args.lanes c.fits-lanes.0) (λ k l. omega arith)

pub returns : goal.returns
returns c = lanes_looked_up _ _ (lower c.args.lanes c.fits-lanes.0) (λ k l. omega arith) c.args.table
