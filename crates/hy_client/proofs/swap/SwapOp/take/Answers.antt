use Rattle.std.proofs.Common.{◌∙◌, refl, sym}
use Rattle.hy_client.proofs.SwapSteps.{unreplied, late, answered, judged}
use Rattle.hy_client.proofs.swap.SwapOp.take.Goals as goal

pub returns-then-is_some : goal.returns-then-is_some
returns-then-is_some c = late c.args.self.now c.args.cue.now c.quiet.result (sym c.is_some.ensures ∙ c.if-is_some.true) c.quiet.ensures

pub returns-then-is_update_answer : goal.returns-then-is_update_answer
returns-then-is_update_answer c = answered c.args.self.now c.args.cue.now c.quiet-then-is_update_answer.result (unreplied c.args.self.now.replied (sym c.is_some.ensures ∙ c.if-is_some.false))
    (sym c.is_update_answer.ensures ∙ c.if-is_update_answer.true) c.quiet-then-is_update_answer.ensures

pub returns-in-Some : goal.returns-in-Some
returns-in-Some c = judged c.args.self.now _ c.args.cue.now c.in-Some.reply c.progress_at_verdict-progress.result c.replying.result (unreplied c.args.self.now.replied (sym c.is_some.ensures ∙ c.if-is_some.false))
    (record { issuer = refl; seeks = refl; quorum = refl }) refl c.in-Some.ensures c.progress_at_verdict-progress.ensures c.replying.ensures
