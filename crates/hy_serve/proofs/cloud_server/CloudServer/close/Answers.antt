use Rattle.std.proofs.Common.{None}
use Rattle.hy_serve.specs.CloudStanding.{line_at}
use Rattle.hy_serve.proofs.Lines.{sets-closed, sets-absent}
use Rattle.hy_serve.proofs.cloud_server.CloudServer.close.Goals as goal

pub returns-in-Some : goal.returns-in-Some
unfolding line_at
returns-in-Some c = sets-closed c.args.self.now (c.get_mut.follows.lender None) c.args.conn c.in-Some.line.now c.in-Some.ensures.value (c.get_mut.follows.holds None).3

pub returns-in_default : goal.returns-in_default
unfolding line_at
returns-in_default c = sets-absent c.args.self.now c.get_mut.follows.lender-at-none c.args.conn c.get_mut.follows.holds-at-none c.in_default.ensures.value
