use Rattle.std.proofs.Common.{◌/◌, ◌^◌, get_or}
use Rattle.hy_gf.specs.Gf.{gf_product}
use Rattle.hy_gf.specs.Lanes.{HasLanes}
use Rattle.hy_gf.proofs.products.times_by_doubling.Given as goal

abbrev pub invariant-loop-power : goal.invariant-loop-power
invariant-loop-power l = HasLanes l.products (λ k. gf_product (l.factor / 2 ^ l.power) (get_or l.lanes k 0))
