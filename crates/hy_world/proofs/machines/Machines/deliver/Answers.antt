use Rattle.std.proofs.Common.{ℕ, Some, ap, sym, ◌∙◌}
use Rattle.hy_record.specs.declared.cloud.CloudAsk.{CloudAsk}
use Rattle.hy_record.specs.declared.message.MetaAsk.{MetaAsk}
use Rattle.hy_record.specs.declared.turn.Cue.{Cue}
use Rattle.hy_trace.specs.Deeds.{Served}
use Rattle.hy_trace.specs.Messages.{Message, Request}
use Rattle.hy_trace.specs.Schedule.{delivery, hand}
use Rattle.hy_log.specs.declared.post.Post.TheVariants as posts
use Rattle.hy_log.specs.Kept.{post_in}
use Rattle.hy_world.specs.Nodes.{addressee}
use Rattle.hy_world.proofs.Standing.{does-other}
use Rattle.hy_world.proofs.Serving.{lift, machines-other, delivery-answer, delivery-ask, delivery-request}
use Rattle.hy_world.proofs.machines.Machines.deliver.Goals as goal

pub returns-in-Answer : goal.returns-in-Answer
returns-in-Answer g c = λ message is.
    lift g.row.M.Denot g.M.Meta.served g.M.Meta.given (λ p t. delivery p t c.args.made (Some message)) c.args.self.now.service c.args.self.now.nodes c.hand.new.self c.hand.result
    (does-other (λ p t. hand p c.client_of.result c.args.made c.deref-in-Answer-2.result.now t) (λ p t. delivery p t c.args.made (Some message)) c.args.self.now.nodes c.hand.new.self c.hand.result
    (λ p t few r. delivery-answer message c.in-Answer.cue.value (is ∙ ap post_in c.in-Answer.is) p t c.args.made
    ∙ ap (λ (n : ℕ). hand p n c.args.made c.in-Answer.cue.value t) (sym (c.client_of.ensures ∙ ap addressee c.deref-in-Answer.ensures))
    ∙ ap (λ (x : Cue). hand p c.client_of.result c.args.made x t) (sym c.deref-in-Answer-2.ensures))
    c.hand.ensures)

pub returns-in_ok-ask-in-Request : goal.returns-in_ok-ask-in-Request
returns-in_ok-ask-in-Request g c = λ message is.
    lift g.row.M.Denot g.M.Meta.served g.M.Meta.given (λ p t. delivery p t c.args.made (Some message)) c.args.self.now.service c.args.self.now.nodes c.grant.new.self c.grant.result
    (does-other (λ p t. delivery p t c.args.made (Some (Request c.in_ok-ask-in-Request.ask))) (λ p t. delivery p t c.args.made (Some message)) c.args.self.now.nodes c.grant.new.self c.grant.result
    (λ p t few r. ap (λ (m : Message). delivery p t c.args.made (Some m)) (delivery-request message c.in_ok-ask-in-Request.ask (is ∙ ap post_in c.in-Request.is ∙ ap (λ (ask : CloudAsk). posts.Request ask) (sym c.in_ok-ask-in-Request.ensures))))
    (c.grant.ensures c.args.made))

pub returns-in-Ask : goal.returns-in-Ask
returns-in-Ask g c = λ message is.
    machines-other g.row.M.Denot g.M.Meta.served g.M.Meta.given (λ p t. Served c.deref.result.now) (λ p t. delivery p t c.args.made (Some message)) c.args.self.now c.serve.new.self c.serve.result
    (λ p t. ap (λ (m : Message). delivery p t c.args.made (Some m)) (delivery-ask message c.in-Ask.ask.value (is ∙ ap post_in c.in-Ask.is)) ∙ ap (λ (ask : MetaAsk). Served ask) (sym c.deref.ensures))
    c.serve.ensures
