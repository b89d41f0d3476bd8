use Rattle.std.proofs.Common.{◌∙◌, sym, refl}
use Rattle.hy_client.proofs.Sessions.{stopped-turn, stopped-stands, fresh-turn, fresh-stands, last-turn, last-stands, last-same, same-stands}
use Rattle.hy_client.proofs.Tasks.{if-ok, on-ok, on-err}
use Rattle.hy_client.proofs.client.Client.step.Goals as goal

pub returns-then-self-clause-turn : goal.returns-then-self-clause-turn
returns-then-self-clause-turn c = λ s h. c.quiet.ensures ∙ sym (stopped-turn c.args.self.now s c.args.cue.now h c.if-self.true)

pub returns-then-self-clause-ok : goal.returns-then-self-clause-ok
returns-then-self-clause-ok c = λ s h. stopped-stands c.args.self.now s c.args.cue.now h c.if-self.true

pub returns-in-None-clause-turn : goal.returns-in-None-clause-turn
returns-in-None-clause-turn c = λ s h. c.quiet-in-None.ensures ∙ sym (fresh-turn c.args.self.now s c.args.cue.now h c.in-None.is)

pub returns-in-None-clause-ok : goal.returns-in-None-clause-ok
returns-in-None-clause-ok c = λ s h. same-stands c.args.self.now _ _ refl refl refl refl refl refl (fresh-stands c.args.self.now s c.args.cue.now h c.in-None.is)

pub returns-in-Some-clause-turn : goal.returns-in-Some-clause-turn
returns-in-Some-clause-turn c = if-ok c.step.result _ _ (λ turn does s h. last-turn c.args.self.now s c.in-Some.last c.args.cue.now turn h c.if-self.false c.in-Some.is does) c.step.ensures.turn

pub returns-in-Some-clause-ok : goal.returns-in-Some-clause-ok
returns-in-Some-clause-ok c = on-ok c.step.result _ _ (λ goes s h. last-stands c.args.self.now _ s c.in-Some.last c.step.new.self c.args.cue.now h c.if-self.false c.in-Some.is refl refl refl refl refl refl goes) c.step.ensures.ok

pub returns-in-Some-clause-err : goal.returns-in-Some-clause-err
returns-in-Some-clause-err c = on-err c.step.result _ _ (λ goes s h. last-same c.args.self.now _ s c.in-Some.last c.step.new.self h c.in-Some.is refl refl refl refl refl refl goes) c.step.ensures.err
