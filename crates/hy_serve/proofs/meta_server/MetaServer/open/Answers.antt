use Rattle.std.proofs.Common.{sym, ◌∙◌}
use Rattle.hy_serve.specs.MetaStanding.{line_of}
use Rattle.hy_serve.proofs.MetaLines.{sets-opened, sets-again}
use Rattle.hy_serve.proofs.meta_server.MetaServer.open.Goals as goal

pub returns-in_ok-insert : goal.returns-in_ok-insert
unfolding line_of
returns-in_ok-insert c = sets-opened c.args.self.now c.insert.new.self c.args.conn c.in_ok-reader.reader (sym c.contains_key.ensures ∙ c.if-not-contains_key.true)
    c.in_ok-reader.ensures.fresh c.in_ok-insert.ensures.updates

pub returns-else-not-contains_key : goal.returns-else-not-contains_key
unfolding line_of
returns-else-not-contains_key c = sets-again c.args.self.now c.args.conn (sym c.contains_key.ensures ∙ c.if-not-contains_key.false)
