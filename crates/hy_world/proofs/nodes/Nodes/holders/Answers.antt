use Rattle.std.proofs.Common.{◌≡◌, ℕ, ◌∙◌, ◌&&◌, nat_lt, ap, arith}
use Rattle.hy_world.specs.Holders.{is_holder}
use Rattle.hy_world.proofs.Holding.{marked-more, holders-marked}
use Rattle.hy_world.proofs.nodes.Nodes.holders.Goals as goal

pub loop-cloud-preserved : goal.loop-cloud-preserved
loop-cloud-preserved c = λ p t r i below.
    marked-more (is_holder p t c.args.key.now c.args.rec.now) c.loop-cloud.cloud i _ _ c.is_holder-holds.result (c.loop-cloud.invariant p t r i below) (c.mark_if.ensures i below) (c.is_holder-holds.ensures p t r)

pub returns : goal.returns
returns c =
    let last : c.loop-cloud.cloud ≡ 16 = omega arith in
    λ p t r. c.set_below.ensures
    ∙ holders-marked p t c.args.key.now c.args.rec.now c.loop-cloud.marks (λ i below. c.loop-cloud.invariant p t r i below ∙ ap (λ (n : ℕ). nat_lt i n && is_holder p t c.args.key.now c.args.rec.now i) last)
