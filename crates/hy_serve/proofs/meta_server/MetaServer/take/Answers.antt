use Rattle.std.proofs.Common.{None, Some, sym, subst, take}
use Rattle.hy_base.specs.declared.arrival.Arrival.{Arrival}
use Rattle.hy_base.specs.Moves.{came}
use Rattle.hy_serve.specs.MetaStanding.{TakesIn}
use Rattle.hy_serve.proofs.MetaStands.{takes-opened, takes-closed, takes-bytes}
use Rattle.hy_serve.proofs.meta_server.MetaServer.take.Goals as goal

pub returns-in_ok-open-in-Opened : goal.returns-in_ok-open-in-Opened
returns-in_ok-open-in-Opened c =
    subst (λ (a : Arrival). TakesIn c.args.self.now c.open.new.self (came a c.args.buf.now) None) (sym c.in-Opened.is)
    (takes-opened c.args.self.now c.open.new.self c.in-Opened.conn c.in_ok-open-in-Opened.ensures)

pub returns-in_ok-feed-in-Bytes : goal.returns-in_ok-feed-in-Bytes
returns-in_ok-feed-in-Bytes c =
    subst (λ (a : Arrival). TakesIn c.args.self.now c.feed.new.self (came a c.args.buf.now) (Some c.in-Bytes.conn)) (sym c.in-Bytes.is)
    (takes-bytes c.args.self.now c.feed.new.self c.in-Bytes.conn (take c.in-Bytes.count c.args.buf.now) c.in_ok-feed-in-Bytes.ensures)

pub returns-in-Closed : goal.returns-in-Closed
returns-in-Closed c =
    subst (λ (a : Arrival). TakesIn c.args.self.now c.close.new.self (came a c.args.buf.now) None) (sym c.in-Closed.is)
    (takes-closed c.args.self.now c.close.new.self c.in-Closed.conn c.close.ensures)
