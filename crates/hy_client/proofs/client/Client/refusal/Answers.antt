use Rattle.std.proofs.Common.{◌∙◌, sym}
use Rattle.hy_client.proofs.Sessions.{refuses-stopped, refuses-busy, refuses-key, refuses-size}
use Rattle.hy_client.proofs.client.Client.refusal.Goals as goal

pub returns-then-self : goal.returns-then-self
returns-then-self c = λ s h. refuses-stopped c.args.self.now s c.args.action.now h c.if-self.true

pub returns-then-awaits_reply : goal.returns-then-awaits_reply
returns-then-awaits_reply c = λ s h. refuses-busy c.args.self.now s c.args.action.now h c.if-self.false (sym (c.awaits_reply.ensures s h) ∙ c.if-awaits_reply.true)

pub returns-then-not-suits : goal.returns-then-not-suits
returns-then-not-suits c = λ s h. refuses-key c.args.self.now s c.args.action.now h c.if-self.false
    (sym (c.awaits_reply.ensures s h) ∙ c.if-awaits_reply.false) (sym c.suits.ensures ∙ c.if-not-suits.true)

pub returns : goal.returns
returns c = λ s h. c.size_refusal.ensures ∙ refuses-size c.args.self.now s c.args.action.now h c.if-self.false
    (sym (c.awaits_reply.ensures s h) ∙ c.if-awaits_reply.false) (sym c.suits.ensures ∙ c.if-not-suits.false)
