use Rattle.std.proofs.Common.{◌≡◌, ◌+◌, ◌≤◌, ℕ, List, ap, ◌∙◌, subst, sym, set, get_or, length, arith}
use Rattle.hy_gf.specs.Gf.{gf_sum}
use Rattle.hy_gf.specs.Row.{IsAdded}
use Rattle.hy_gf.proofs.Added.{byte_added}
use Rattle.hy_gf.proofs.terms.add_terms.Goals as goal

pub loop-place-preserved : goal.loop-place-preserved
loop-place-preserved g c =
    let term = g.R.Terms.term c.args.terms.now in
    let P : ℕ → Type 0 = λ byte. IsAdded term (c.loop-place.place + 1) c.args.out.now (set c.loop-place.out c.loop-place.place byte) in
    let sum : c.byte-in-loop-place.result ≡ gf_sum (get_or c.loop-place.out c.loop-place.place 0) (term c.loop-place.place) = cc in
    subst P (sym sum) (byte_added term c.loop-place.place c.args.out.now c.loop-place.out c.loop-place.invariant (omega arith))

pub returns : goal.returns
returns g c =
    let P : ℕ → Type 0 = λ count. IsAdded (g.R.Terms.term c.args.terms.now) count c.args.out.now c.loop-place.out in
    subst P (omega (arith, c.add_blocks.ensures.length_same, c.loop-place.auto.place-end)) c.loop-place.invariant
