use Rattle.std.proofs.Common.{Option, None, sym, subst}
use Rattle.hy_drive.specs.declared.service_line.News.{News}
use Rattle.hy_drive.specs.declared.service_line.ServiceLine.{ServiceLine}
use Rattle.hy_drive.specs.State.{Service}
use Rattle.hy_drive.specs.Held.{Reads, HoldsService, HearsNothing}
use Rattle.hy_drive.proofs.Hearing.{breaks-off}
use Rattle.hy_drive.proofs.service_line.next_message.Goals as goal

pub returns-in-Wrong : goal.returns-in-Wrong
returns-in-Wrong c =
    subst (λ (line : Option ServiceLine). (service : Service) → HoldsService line service → HearsNothing service None) (sym c.in-Some.is)
    (breaks-off c.in-Some.held c.read.new.self c.in-Wrong._fault (subst (λ (news : News). Reads c.in-Some.held c.read.new.self news) c.in-Wrong.is c.in_ok-read.ensures))
