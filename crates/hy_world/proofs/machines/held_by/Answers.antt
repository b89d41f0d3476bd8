use Rattle.std.proofs.Common.{◌∙◌, sym}
use Rattle.hy_world.proofs.Holding.{held-tomb, held-value}
use Rattle.hy_world.proofs.machines.held_by.Goals as goal

pub returns-then-is_tomb : goal.returns-then-is_tomb
returns-then-is_tomb c = λ p t r. held-tomb p t c.args.key.now c.args.rec.now (sym c.is_tomb.ensures ∙ c.if-is_tomb.true)

pub returns : goal.returns
returns c = λ p t r. held-value p t c.args.key.now c.args.rec.now c.stamp.result c.holders.result (sym c.is_tomb.ensures ∙ c.if-is_tomb.false) c.stamp.ensures (c.holders.ensures p t r)
