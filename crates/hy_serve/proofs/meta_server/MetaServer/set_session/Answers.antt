use Rattle.std.proofs.Common.{refl}
use Rattle.hy_serve.specs.MetaRole.{in_session}
use Rattle.hy_serve.specs.MetaStanding.{line_of}
use Rattle.hy_serve.proofs.MetaLines.{sets-known, sets-unknown}
use Rattle.hy_serve.proofs.meta_server.MetaServer.set_session.Goals as goal

pub returns-in-Some : goal.returns-in-Some
unfolding line_of
returns-in-Some c = sets-known c.args.self.now (c.get_mut.follows.lender c.set_session.new.line) c.args.conn c.in-Some.line.now c.set_session.new.line (in_session c.args.session)
    c.in-Some.ensures.value (c.get_mut.follows.holds c.set_session.new.line).3 c.set_session.ensures

pub returns-in-None : goal.returns-in-None
unfolding line_of
returns-in-None c = sets-unknown c.args.self.now c.get_mut.follows.lender-at-none c.args.conn (in_session c.args.session) c.get_mut.follows.holds-at-none c.in-None.ensures.value refl
