use Rattle.std.proofs.Common.{◌∙◌, sym, ap}
use Rattle.std.specs.Prelude.{not}
use Rattle.hy_client.proofs.Sessions.{running-some, running-none, none-running, running-told}
use Rattle.hy_client.proofs.client.Client.running.Goals as goal

pub returns-then-last : goal.returns-then-last
returns-then-last c = λ s h. sym (none-running s (running-some c.args.self.now s c.in-Some.last h c.in-Some.is ∙ ap not c.if-last.true))

pub returns-else-last : goal.returns-else-last
returns-else-last c = λ s h. running-told c.args.self.now s c.in-Some.last c.progress-progress.result h c.in-Some.is c.if-last.false c.progress-progress.ensures

pub returns-in-None : goal.returns-in-None
returns-in-None c = λ s h. sym (none-running s (running-none c.args.self.now s h c.in-None.is))
