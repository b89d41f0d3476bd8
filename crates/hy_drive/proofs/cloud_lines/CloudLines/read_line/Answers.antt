use Rattle.std.proofs.lemmas.Result.{IfOk-weaker}
use Rattle.hy_drive.specs.Held.{line_at, ReadsReply, ReadsLine}
use Rattle.hy_drive.proofs.Lines.{with_lines, reads-known, reads-absent}
use Rattle.hy_drive.proofs.cloud_lines.CloudLines.read_line.Goals as goal

pub returns-in-Some : goal.returns-in-Some
unfolding line_at
returns-in-Some c = IfOk-weaker c.read.result
    (ReadsReply c.in-Some.line.now.reader c.read.new.self.reader c.args.piece.now)
    (ReadsLine c.args.self.now (with_lines (c.get_mut.follows.lender c.read.new.self)) c.args.conn c.args.piece.now)
    (λ answer reads. reads-known c.args.self.now.lines (c.get_mut.follows.lender c.read.new.self) c.args.conn c.in-Some.line.now c.read.new.self c.args.piece.now answer
    c.in-Some.ensures.value (c.get_mut.follows.holds c.read.new.self).3 c.read.ensures.errand reads)
    c.read.ensures.reads

pub returns-in-None : goal.returns-in-None
unfolding line_at
returns-in-None c = reads-absent c.args.self.now.lines c.get_mut.follows.lender-at-none c.args.conn c.args.piece.now c.get_mut.follows.holds-at-none c.in-None.ensures.value
