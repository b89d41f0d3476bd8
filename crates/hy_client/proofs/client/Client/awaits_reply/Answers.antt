use Rattle.std.proofs.Common.{sym}
use Rattle.hy_client.proofs.Sessions.{running-some, running-none}
use Rattle.hy_client.proofs.client.Client.awaits_reply.Goals as goal

pub returns-in-Some : goal.returns-in-Some
returns-in-Some c = λ s h. sym (running-some c.args.self.now s c.in-Some.last h c.in-Some.is)

pub returns-in-None : goal.returns-in-None
returns-in-None c = λ s h. sym (running-none c.args.self.now s h c.in-None.is)
