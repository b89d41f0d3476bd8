use Rattle.std.proofs.Common.{◌≡◌, take, eqb}
use Rattle.hy_gf.specs.Gf.{gf}
use Rattle.hy_code.specs.Fragments.{clouds}
use Rattle.hy_code.specs.Weights.{raised}
use Rattle.hy_code.proofs.polynomials.raised.Given as goal

abbrev pub invariant-loop-pick : goal.invariant-loop-pick
invariant-loop-pick l = l.raised ≡ raised gf eqb (clouds (take l.pick-index l.picks)) l.cloud l.target
