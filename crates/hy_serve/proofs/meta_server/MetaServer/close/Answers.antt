use Rattle.std.proofs.Common.{None, refl}
use Rattle.hy_serve.specs.MetaRole.{closed}
use Rattle.hy_serve.specs.MetaStanding.{line_of}
use Rattle.hy_serve.proofs.MetaLines.{sets-known, sets-unknown, closed-known}
use Rattle.hy_serve.proofs.meta_server.MetaServer.close.Goals as goal

pub returns-in-Some : goal.returns-in-Some
unfolding line_of
returns-in-Some c = sets-known c.args.self.now (c.get_mut.follows.lender None) c.args.conn c.in-Some.line.now None closed c.in-Some.ensures.value
    (c.get_mut.follows.holds None).3 (closed-known c.in-Some.line.now)

pub returns-in_default : goal.returns-in_default
unfolding line_of
returns-in_default c = sets-unknown c.args.self.now c.get_mut.follows.lender-at-none c.args.conn closed c.get_mut.follows.holds-at-none c.in_default.ensures.value refl
