use Rattle.std.proofs.Common.{◌≡◌, ◌/◌, ◌^◌}
use Rattle.hy_gf.specs.Gf.{gf_product}
use Rattle.hy_gf.proofs.gf.Gf.times.Given as goal

abbrev pub invariant-loop-power : goal.invariant-loop-power
invariant-loop-power l = l.product ≡ gf_product (l.other-inside.0 / 2 ^ l.power) l.self-inside.0
