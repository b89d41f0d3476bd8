use Rattle.std.proofs.Common.{◌<◌, rules, subst, List, ℕ, get_or, eqb}
use Rattle.hy_gf.specs.Gf.{gf}
use Rattle.hy_code.specs.Fragments.{clouds}
use Rattle.hy_code.specs.Weights.{scale}
use Rattle.hy_code.proofs.Points.{map-more}
use Rattle.hy_code.proofs.Rows.{in_range-more}
use Rattle.hy_code.proofs.polynomials.Polynomials.through.Goals as goal

pub loop-pick-preserved : goal.loop-pick-preserved
loop-pick-preserved c =
    let picks = c.args.picks.now in
    let pick = c.pick-item.result in
    let small : pick.cloud < 256 = search rules in
    let B : List ℕ → Type 0 = λ bytes. (place : ℕ) → get_or bytes place 0 < 256 in
    record {
      scales = map-more (scale gf eqb (clouds picks)) picks c.loop-pick.pick-index c.scale.result pick c.loop-pick.scales.items c.push.new.self.items
          c.loop-pick-test.true c.pick-item.is c.loop-pick.invariant.scales c.in_ok-push.ensures.items c.scale.ensures;
      in_range = in_range-more picks c.loop-pick.pick-index pick c.loop-pick-test.true c.pick-item.is c.loop-pick.invariant.in_range small (subst B c.bytes.ensures c.known.ensures);
    }
