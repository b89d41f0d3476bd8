use Rattle.std.proofs.Common.{Ok, Err, refl, sym, subst}
use Rattle.hy_mwire.specs.declared.message.Message.{Message}
use Rattle.hy_mwire.specs.declared.message.Message.TheVariants.{Join, Ask, Say}
use Rattle.hy_drive.specs.declared.driver.Next.TheVariants.{Again}
use Rattle.hy_drive.specs.declared.fault.DriveFault.TheVariants.{SessionsFull}
use Rattle.hy_drive.specs.Stepping.{HearsSession}
use Rattle.hy_drive.proofs.Telling.{joined-heard, full-heard, other-heard}
use Rattle.hy_drive.proofs.driver.Driver.hear_session.Goals as goal

pub returns-in-Joined : goal.returns-in-Joined
returns-in-Joined c =
    subst (λ (said : Message). HearsSession c.args.job.now c.args.self.now c.begin.new.self said c.begin.result) (sym c.in-Joined.is)
    (joined-heard c.args.job.now c.args.self.now c.begin.new.self c.in-Joined.client c.begin.result c.begin.ensures)

pub returns-in-Full : goal.returns-in-Full
returns-in-Full c =
    subst (λ (said : Message). HearsSession c.args.job.now c.args.self.now c.args.self.now said (Err SessionsFull)) (sym c.in-Full.is) (full-heard c.args.job.now c.args.self.now)

pub returns-in-Join : goal.returns-in-Join
returns-in-Join c =
    subst (λ (said : Message). HearsSession c.args.job.now c.args.self.now c.args.self.now said (Ok Again)) (sym c.in-Join.is) (other-heard c.args.job.now c.args.self.now Join (λ mid. refl))

pub returns-in-Ask : goal.returns-in-Ask
returns-in-Ask c =
    subst (λ (said : Message). HearsSession c.args.job.now c.args.self.now c.args.self.now said (Ok Again)) (sym c.in-Ask.is) (other-heard c.args.job.now c.args.self.now (Ask c.in-Ask._ask) (λ mid. refl))

pub returns-in-Say : goal.returns-in-Say
returns-in-Say c =
    subst (λ (said : Message). HearsSession c.args.job.now c.args.self.now c.args.self.now said (Ok Again)) (sym c.in-Say.is) (other-heard c.args.job.now c.args.self.now (Say c.in-Say._say) (λ mid. refl))
