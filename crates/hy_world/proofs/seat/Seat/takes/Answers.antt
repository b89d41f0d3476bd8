use Rattle.std.proofs.Common.{◌∙◌, sym}
use Rattle.hy_world.proofs.Seated.{takes-stopped, takes-idle, takes-own, takes-unasked}
use Rattle.hy_world.proofs.seat.Seat.takes.Goals as goal

pub returns-then-self : goal.returns-then-self
returns-then-self c = λ s is. takes-stopped s c.args.cue.now (is.stopped ∙ c.if-self.true)

pub returns-then-not-is_running : goal.returns-then-not-is_running
returns-then-not-is_running c = λ s is. takes-idle s c.args.cue.now is.asked (sym (c.is_running.ensures s is) ∙ c.if-not-is_running.true)

pub returns-in-Some : goal.returns-in-Some
returns-in-Some c = λ s is. c.is_for.ensures ∙ takes-own s c.args.cue.now c.args.self.now.number c.begun.result c.in-Some.key is.number (is.stopped ∙ c.if-self.false) (sym (c.is_running.ensures s is) ∙ c.if-not-is_running.false) (is.key ∙ c.in-Some.is) (c.begun.ensures.session s is.client)

pub returns-in-None : goal.returns-in-None
returns-in-None c = λ s is. takes-unasked s c.args.cue.now (is.key ∙ c.in-None.is)
