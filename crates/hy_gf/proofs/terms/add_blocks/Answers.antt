use Rattle.std.proofs.Common.{◌*◌, ◌+◌, ◌≤◌, ◌≡◌, ℕ, List, ap, subst, arith, sym}
use Rattle.std.specs.Simd.Lanes.{chunk, put_chunk, zip2}
use Rattle.hy_gf.specs.Gf.{gf_sum}
use Rattle.hy_gf.specs.Row.{IsAdded}
use Rattle.hy_gf.proofs.Added.{none_added, lanes_added}
use Rattle.hy_gf.proofs.terms.add_blocks.Goals as goal

pub loop-block-init : goal.loop-block-init
loop-block-init g c = none_added (g.R.Terms.term c.args.terms.now) c.args.out.now

pub loop-block-preserved : goal.loop-block-preserved
loop-block-preserved g c =
    let term = g.R.Terms.term c.args.terms.now in
    let P : ℕ → List ℕ → Type 0 = λ n row. IsAdded term n c.args.out.now row in
    let added = lanes_added term (32 * c.loop-block.block) c.args.out.now c.loop-block.out c.lanes.result
    c.loop-block.invariant c.lanes.ensures (omega arith) in
    let more : 32 * c.loop-block.block + 32 ≡ 32 * (c.loop-block.block + 1) = omega arith in
    subst (P (32 * (c.loop-block.block + 1))) (sym c.add_lanes.ensures)
    (subst (λ n. P n (put_chunk (32 * c.loop-block.block) c.loop-block.out (zip2 gf_sum (chunk (32 * c.loop-block.block) 32 c.loop-block.out) c.lanes.result))) more added)

pub returns : goal.returns
returns g c =
    let P : ℕ → Type 0 = λ blocks. IsAdded (g.R.Terms.term c.args.terms.now) (32 * blocks) c.args.out.now c.loop-block.out in
    subst P (same c.loop-block.block c.args.blocks c.loop-block.auto.block-end c.loop-block-test.false) c.loop-block.invariant
  where
    same : (a b : ℕ) → a ≤ b → b ≤ a → a ≡ b
    same a b low high = omega arith
