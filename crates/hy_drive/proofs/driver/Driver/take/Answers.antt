use Rattle.std.proofs.Common.{sym, subst, None}
use Rattle.hy_base.specs.declared.arrival.Arrival.{Arrival}
use Rattle.hy_base.specs.Moves.{came}
use Rattle.hy_drive.specs.Stepping.{Takes}
use Rattle.hy_drive.proofs.Taking.{opens}
use Rattle.hy_drive.proofs.driver.Driver.take.Goals as goal

pub returns-in-Opened : goal.returns-in-Opened
returns-in-Opened c =
    subst (λ (a : Arrival). Takes c.args.self.now c.args.self.now (came a c.args.buf.now) None) (sym c.in-Opened.is) (opens c.args.self.now c.in-Opened._conn)
