use Rattle.std.proofs.Common.{refl}
use Rattle.hy_serve.specs.MetaRole.{fed}
use Rattle.hy_serve.specs.MetaStanding.{line_of}
use Rattle.hy_serve.proofs.MetaLines.{sets-known, sets-unknown}
use Rattle.hy_serve.proofs.Results.{on_ok}
use Rattle.hy_serve.proofs.meta_server.MetaServer.feed.Goals as goal

pub returns-in-Some : goal.returns-in-Some
unfolding line_of
returns-in-Some c = on_ok c.feed.result
    (λ changed. sets-known c.args.self.now (c.get_mut.follows.lender c.feed.new.line) c.args.conn c.in-Some.line.now c.feed.new.line (fed c.args.piece.now)
    c.in-Some.ensures.value (c.get_mut.follows.holds c.feed.new.line).3 changed)
    c.feed.ensures

pub returns-in-None : goal.returns-in-None
unfolding line_of
returns-in-None c = sets-unknown c.args.self.now c.get_mut.follows.lender-at-none c.args.conn (fed c.args.piece.now) c.get_mut.follows.holds-at-none c.in-None.ensures.value refl
