use Rattle.std.proofs.Common.{Some, refl, ap, ◌∙◌, is_some, Option}
use Rattle.hy_client.specs.declared.client.Client.{Client}
use Rattle.hy_drive.proofs.Following.{hands-reply, hands-sends, hands-nobody}
use Rattle.hy_drive.proofs.driver.Driver.hand.Goals as goal

pub returns-in-Some-reply : goal.returns-in-Some-reply
returns-in-Some-reply c = λ job shape.
    hands-reply job c.args.self.now c.in-Some.client c.args.input.now c.in-Some-reply.reply c.in_ok-sends-in-Some.field-0 c.in-Some.is c.in_ok-sends-in-Some.ensures.turn c.in-Some-reply.is

pub returns-in-None-reply : goal.returns-in-None-reply
returns-in-None-reply c = λ job shape.
    hands-sends job c.args.self.now (record c.args.self.now { client = Some c.step.new.self; sends = c.from.result }) c.in-Some.client c.step.new.self c.args.input.now
    c.in_ok-sends-in-Some.field-0 shape c.in-Some.is c.in_ok-sends-in-Some.ensures.turn c.in_ok-sends-in-Some.ensures.ok c.in-None-reply.is
    (record { service = refl; lines = refl }) refl refl (c.from.ensures.0 ∙ c.into_items.ensures)

pub returns-in-None : goal.returns-in-None
returns-in-None c = λ job shape.
    hands-nobody job c.args.self.now c.args.input.now (ap (λ (client : Option Client). is_some client) c.in-None.is)
