use Rattle.std.proofs.Common.{Ok, refl, sym, subst}
use Rattle.hy_mwire.specs.declared.message.Message.{Message}
use Rattle.hy_mwire.specs.declared.message.Message.TheVariants.{Join, Joined, Full, Ask}
use Rattle.hy_drive.specs.declared.driver.Next.TheVariants.{Again}
use Rattle.hy_drive.specs.Stepping.{HearsAnswer}
use Rattle.hy_drive.proofs.Telling.{answer-heard, other-told}
use Rattle.hy_drive.proofs.driver.Driver.hear_answer.Goals as goal

pub returns-in_ok-push_back-in-Say : goal.returns-in_ok-push_back-in-Say
returns-in_ok-push_back-in-Say c =
    let new = record c.args.self.now { inputs = c.push_back.new.self } in
    subst (λ (said : Message). HearsAnswer c.args.self.now new said (Ok Again)) (sym c.in-Say.is)
    (answer-heard c.args.self.now new c.in-Say.say (record { service = refl; lines = refl }) refl refl c.in_ok-push_back-in-Say.ensures.items)

pub returns-in-Join : goal.returns-in-Join
returns-in-Join c =
    subst (λ (said : Message). HearsAnswer c.args.self.now c.args.self.now said (Ok Again)) (sym c.in-Join.is) (other-told c.args.self.now Join (λ job mid s. refl))

pub returns-in-Joined : goal.returns-in-Joined
returns-in-Joined c =
    subst (λ (said : Message). HearsAnswer c.args.self.now c.args.self.now said (Ok Again)) (sym c.in-Joined.is) (other-told c.args.self.now (Joined c.in-Joined.client) (λ job mid s. refl))

pub returns-in-Full : goal.returns-in-Full
returns-in-Full c =
    subst (λ (said : Message). HearsAnswer c.args.self.now c.args.self.now said (Ok Again)) (sym c.in-Full.is) (other-told c.args.self.now Full (λ job mid s. refl))

pub returns-in-Ask : goal.returns-in-Ask
returns-in-Ask c =
    subst (λ (said : Message). HearsAnswer c.args.self.now c.args.self.now said (Ok Again)) (sym c.in-Ask.is) (other-told c.args.self.now (Ask c.in-Ask._ask) (λ job mid s. refl))
