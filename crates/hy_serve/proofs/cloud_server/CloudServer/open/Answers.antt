use Rattle.std.proofs.Common.{sym, ◌∙◌}
use Rattle.hy_serve.specs.CloudStanding.{line_at}
use Rattle.hy_serve.proofs.Lines.{sets-opened, sets-known}
use Rattle.hy_serve.proofs.cloud_server.CloudServer.open.Goals as goal

pub returns-in_ok-insert : goal.returns-in_ok-insert
unfolding line_at
returns-in_ok-insert c = sets-opened c.args.self.now c.insert.new.self c.args.conn c.in_ok-reader.reader (sym c.contains_key.ensures ∙ c.if-not-contains_key.true)
    c.in_ok-reader.ensures.fresh c.in_ok-reader.ensures.stands c.in_ok-insert.ensures.updates

pub returns-else-not-contains_key : goal.returns-else-not-contains_key
unfolding line_at
returns-else-not-contains_key c = sets-known c.args.self.now c.args.conn (sym c.contains_key.ensures ∙ c.if-not-contains_key.false)
