use Rattle.std.proofs.lemmas.Result.{IfOk-weaker}
use Rattle.hy_serve.specs.CloudStanding.{line_at, ReadsOn, ReadsAt}
use Rattle.hy_serve.proofs.Lines.{with_lines, reads-known, reads-absent}
use Rattle.hy_serve.proofs.cloud_server.CloudServer.read.Goals as goal

pub returns-in-Some : goal.returns-in-Some
unfolding line_at
returns-in-Some c = IfOk-weaker c.read_on.result
    (ReadsOn c.in-Some.line.now c.read_on.new.line c.args.piece.now)
    (ReadsAt c.args.self.now (with_lines c.args.self.now (c.get_mut.follows.lender c.read_on.new.line)) c.args.conn c.args.piece.now)
    (λ reading reads. reads-known c.args.self.now (c.get_mut.follows.lender c.read_on.new.line) c.args.conn c.in-Some.line.now c.read_on.new.line c.args.piece.now reading c.in-Some.ensures.value (c.get_mut.follows.holds c.read_on.new.line).3 reads)
    c.read_on.ensures

pub returns-in-None : goal.returns-in-None
unfolding line_at
returns-in-None c = reads-absent c.args.self.now c.get_mut.follows.lender-at-none c.args.conn c.args.piece.now c.get_mut.follows.holds-at-none c.in-None.ensures.value
