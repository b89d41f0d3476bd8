use Rattle.std.proofs.Common.{refl}
use Rattle.hy_client.proofs.Sessions.{stop-stands}
use Rattle.hy_client.proofs.client.Client.stop.Goals as goal

pub returns-clause-stopped : goal.returns-clause-stopped
returns-clause-stopped c = λ s h. stop-stands c.args.self.now _ s h refl refl refl refl refl refl
