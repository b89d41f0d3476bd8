use Rattle.std.proofs.Common.{◌∙◌, sym, ap}
use Rattle.hy_protocol.specs.declared.plan.GetPlan.{GetPlan}
use Rattle.hy_protocol.specs.Inputs.{addresses}
use Rattle.hy_get.proofs.Outcomes.{step-turn, step-ok, step-err, foreign-turn, foreign-stands}
use Rattle.hy_get.proofs.get.GetOp.step.Goals as goal

pub returns-then-is_for-clause-turn : goal.returns-then-is_for-clause-turn
returns-then-is_for-clause-turn c = step-turn c.args.self.now c.take.new.self c.args.cue.now (sym c.is_for.ensures ∙ c.if-is_for.true) c.take.ensures.issuer c.take.result c.take.ensures.takes

pub returns-then-is_for-clause-ok : goal.returns-then-is_for-clause-ok
returns-then-is_for-clause-ok c = step-ok c.args.self.now c.take.new.self c.args.cue.now (sym c.is_for.ensures ∙ c.if-is_for.true) c.take.ensures.issuer c.take.result c.take.ensures.takes

pub returns-then-is_for-clause-err : goal.returns-then-is_for-clause-err
returns-then-is_for-clause-err c = step-err c.args.self.now c.take.new.self c.args.cue.now (sym c.is_for.ensures ∙ c.if-is_for.true) c.take.ensures.issuer c.take.result c.take.ensures.takes

pub returns-else-is_for-clause-turn : goal.returns-else-is_for-clause-turn
returns-else-is_for-clause-turn c =
    λ plan inputs h. c.quiet.ensures ∙ sym (foreign-turn plan inputs c.args.cue.now (ap (λ (p : GetPlan). addresses p.client p.op p.key c.args.cue.now) (sym h.issuer) ∙ sym c.is_for.ensures ∙ c.if-is_for.false))

pub returns-else-is_for-clause-ok : goal.returns-else-is_for-clause-ok
returns-else-is_for-clause-ok c = λ plan inputs h. foreign-stands plan c.args.self.now inputs c.args.cue.now (sym c.is_for.ensures ∙ c.if-is_for.false) h
