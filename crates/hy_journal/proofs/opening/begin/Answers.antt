use Rattle.hy_journal.proofs.Found.{opens_new}
use Rattle.hy_journal.proofs.opening.begin.Goals as goal

pub returns-clause-opens : goal.returns-clause-opens
returns-clause-opens g c =
    opens_new (g.D.Disk.contents c.args.disk.now) (g.D.Disk.contents c.store.new.disk)
    (g.D.Disk.may_leave c.store.new.disk) _ _ _ c.requires.new c.in_ok-store.ensures.contents c.in_ok-store.ensures.durable
    c.in_ok-state.ensures.folded c.in_ok-state.ensures.end
