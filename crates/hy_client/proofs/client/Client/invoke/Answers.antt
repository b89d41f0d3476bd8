use Rattle.std.proofs.Common.{◌∙◌, refl}
use Rattle.hy_client.proofs.Sessions.{invoked-stands, invoked-sends}
use Rattle.hy_client.proofs.client.Client.invoke.Goals as goal

pub returns-clause-sends : goal.returns-clause-sends
returns-clause-sends c = λ s h. c.in_ok-machine.ensures.sends ∙ invoked-sends c.args.self.now s c.args.action.now h

pub returns-clause-ok : goal.returns-clause-ok
returns-clause-ok c = λ s h. invoked-stands c.args.self.now _ s c.args.action.now _ h refl refl refl refl refl refl c.key_of.ensures refl c.in_ok-machine.ensures.stands
