use Rattle.std.proofs.Common.{◌∙◌, ap, Option}
use Rattle.std.specs.Prelude.{is_some}
use Rattle.hy_client.specs.declared.client.Running.{Running}
use Rattle.hy_world.proofs.Seated.{running-is}
use Rattle.hy_world.proofs.seat.Seat.is_running.Goals as goal

pub returns-in-Some : goal.returns-in-Some
returns-in-Some c = λ s is. ap (λ (o : Option Running). is_some o) (c.in-Some.ensures s is.client) ∙ running-is s is.asked

pub returns-in-None : goal.returns-in-None
returns-in-None c = λ s is. ap (λ (o : Option Running). is_some o) (c.in-None.ensures s is.client) ∙ running-is s is.asked
