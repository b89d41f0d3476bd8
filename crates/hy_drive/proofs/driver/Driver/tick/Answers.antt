use Rattle.std.proofs.Common.{refl, sym, ◌∙◌}
use Rattle.hy_drive.proofs.Taking.{ticks, rests}
use Rattle.hy_drive.proofs.driver.Driver.tick.Goals as goal

pub returns-in_ok-push_back : goal.returns-in_ok-push_back
returns-in_ok-push_back c = ticks c.args.self.now (record c.args.self.now { inputs = c.push_back.new.self })
    (sym c.is_some.ensures ∙ c.if-is_some.true) refl refl c.in_ok-push_back.ensures.items (record { client = refl; sends = refl })

pub returns-else-is_some : goal.returns-else-is_some
returns-else-is_some c = rests c.args.self.now (sym c.is_some.ensures ∙ c.if-is_some.false)
