use Rattle.std.proofs.Common.{sym, ◌∙◌}
use Rattle.hy_put.proofs.Outcomes.{own-turn, own-ok, own-err, foreign-turn, foreign-ok}
use Rattle.hy_put.proofs.put.PutOp.step.Goals as goal

pub returns-then-is_for-clause-turn : goal.returns-then-is_for-clause-turn
returns-then-is_for-clause-turn c = own-turn c.args.self.now c.take.new.self c.args.cue.now c.take.result (sym c.is_for.ensures ∙ c.if-is_for.true) c.take.ensures

pub returns-then-is_for-clause-ok : goal.returns-then-is_for-clause-ok
returns-then-is_for-clause-ok c = own-ok c.args.self.now c.take.new.self c.args.cue.now c.take.result (sym c.is_for.ensures ∙ c.if-is_for.true) c.take.ensures

pub returns-then-is_for-clause-err : goal.returns-then-is_for-clause-err
returns-then-is_for-clause-err c = own-err c.args.self.now c.take.new.self c.args.cue.now c.take.result c.take.ensures

pub returns-else-is_for-clause-turn : goal.returns-else-is_for-clause-turn
returns-else-is_for-clause-turn c = foreign-turn c.args.self.now c.args.cue.now _ (sym c.is_for.ensures ∙ c.if-is_for.false) c.quiet.ensures

pub returns-else-is_for-clause-ok : goal.returns-else-is_for-clause-ok
returns-else-is_for-clause-ok c = foreign-ok c.args.self.now c.args.cue.now (sym c.is_for.ensures ∙ c.if-is_for.false)
