use Rattle.std.proofs.Common.{refl, sym, ◌∙◌}
use Rattle.hy_put.proofs.Acknowledged.{refused-calm}
use Rattle.hy_put.proofs.ByState.{idle-goes}
use Rattle.hy_put.proofs.put.PutOp.answered.Goals as goal

pub returns-else-is_stored : goal.returns-else-is_stored
returns-else-is_stored c = λ plan own h. idle-goes plan c.args.self.now _ own _ _ h refl h.carries refl refl refl (refused-calm c.args.reply.now (sym c.is_stored.ensures ∙ c.if-is_stored.false)) c.quiet.ensures
