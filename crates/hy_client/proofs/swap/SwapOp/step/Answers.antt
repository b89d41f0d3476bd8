use Rattle.std.proofs.Common.{◌∙◌, sym}
use Rattle.hy_client.proofs.SwapSteps.{step-turn, step-ok, step-err, foreign-turn, foreign-stands}
use Rattle.hy_client.proofs.swap.SwapOp.step.Goals as goal

pub returns-then-is_for-clause-turn : goal.returns-then-is_for-clause-turn
returns-then-is_for-clause-turn c = step-turn c.args.self.now c.take.new.self c.args.cue.now (sym c.is_for.ensures ∙ c.if-is_for.true) c.take.result c.take.ensures

pub returns-then-is_for-clause-ok : goal.returns-then-is_for-clause-ok
returns-then-is_for-clause-ok c = step-ok c.args.self.now c.take.new.self c.args.cue.now (sym c.is_for.ensures ∙ c.if-is_for.true) c.take.result c.take.ensures

pub returns-then-is_for-clause-err : goal.returns-then-is_for-clause-err
returns-then-is_for-clause-err c = step-err c.args.self.now c.take.new.self c.args.cue.now (sym c.is_for.ensures ∙ c.if-is_for.true) c.take.result c.take.ensures

pub returns-else-is_for-clause-turn : goal.returns-else-is_for-clause-turn
returns-else-is_for-clause-turn c = λ plan expected inputs h. c.quiet.ensures ∙ sym (foreign-turn c.args.self.now c.args.cue.now (sym c.is_for.ensures ∙ c.if-is_for.false) plan expected inputs h)

pub returns-else-is_for-clause-ok : goal.returns-else-is_for-clause-ok
returns-else-is_for-clause-ok c = λ plan expected inputs h. foreign-stands c.args.self.now c.args.cue.now (sym c.is_for.ensures ∙ c.if-is_for.false) plan expected inputs h
