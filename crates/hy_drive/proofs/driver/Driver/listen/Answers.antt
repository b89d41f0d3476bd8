use Rattle.std.proofs.Common.{Option, refl, subst}
use Rattle.hy_mwire.specs.declared.message.Message.{Message}
use Rattle.hy_drive.specs.Held.{Hears}
use Rattle.hy_drive.proofs.Telling.{rests-now}
use Rattle.hy_drive.proofs.driver.Driver.listen.Goals as goal

pub hear-requires-clause-known : goal.hear-requires-clause-known
hear-requires-clause-known c =
    let heard = subst (λ (m : Option Message). Hears c.args.self.now.service c.next_message.new.line m) c.in-Some.is c.in_ok-message.ensures in
    (heard c.requires.held.service c.requires.held.holds).gives.known

pub returns-in-None : goal.returns-in-None
returns-in-None c =
    rests-now c.args.job.now c.args.self.now (record c.args.self.now { service = c.next_message.new.line })
    (subst (λ (m : Option Message). Hears c.args.self.now.service c.next_message.new.line m) c.in-None.is c.in_ok-message.ensures) refl refl refl refl
