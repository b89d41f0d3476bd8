use Rattle.std.proofs.Common.{sym, ◌∙◌}
use Rattle.hy_record.specs.declared.turn.Cue.TheVariants as cues
use Rattle.hy_trace.specs.Deeds.{Nothing}
use Rattle.hy_trace.specs.declared.step.Step.TheVariants as steps
use Rattle.hy_trace.specs.Schedule.{deed_of, hand}
use Rattle.hy_world.proofs.Standing.{does-other, lie-in, lie-out}
use Rattle.hy_world.proofs.nodes.Nodes.lie.Goals as goal

pub returns-then-not-is_liar : goal.returns-then-not-is_liar
returns-then-not-is_liar c =
    let w = c.args.self.now in
    does-other (λ p t. Nothing) (λ p t. deed_of p (steps.Lie c.args.reply) t) w w c.rest.result
    (λ p t few r. lie-out c.args.reply p t w (sym c.is_liar.ensures ∙ c.if-not-is_liar.true) r)
    c.rest.ensures

pub returns : goal.returns
returns c =
    does-other (λ p t. hand p c.args.reply.client 0 (cues.Cloud c.args.reply) t) (λ p t. deed_of p (steps.Lie c.args.reply) t) c.args.self.now c.hand.new.self c.hand.result
    (λ p t few r. lie-in c.args.reply p t c.args.self.now (sym c.is_liar.ensures ∙ c.if-not-is_liar.false) r)
    c.hand.ensures
