use Rattle.std.proofs.Common.{◌≡◌, take, map, eqb}
use Rattle.hy_gf.specs.Gf.{gf}
use Rattle.hy_code.specs.Fragments.{clouds}
use Rattle.hy_code.specs.Points.{AreInRange}
use Rattle.hy_code.specs.Weights.{scale}
use Rattle.hy_code.proofs.polynomials.Polynomials.through.Given as goal

abbrev pub invariant-loop-pick : goal.invariant-loop-pick
invariant-loop-pick l = record {
  scales : l.scales.items ≡ map (scale gf eqb (clouds l.picks)) (clouds (take l.pick-index l.picks));
  in_range : AreInRange (take l.pick-index l.picks);
}
