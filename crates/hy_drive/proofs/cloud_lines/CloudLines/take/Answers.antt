use Rattle.std.proofs.Common.{Some, subst, sym}
use Rattle.hy_record.specs.declared.turn.Cue.{Cue}
use Rattle.hy_drive.specs.Held.{line_at, TakesLine}
use Rattle.hy_drive.proofs.Lines.{with_lines, takes-line, takes-none}
use Rattle.hy_drive.proofs.cloud_lines.CloudLines.take.Goals as goal

pub returns-in-Some : goal.returns-in-Some
unfolding line_at
returns-in-Some c = subst (λ (i : Cue). TakesLine c.args.self.now (with_lines c.remove.new.self) c.args.conn c.args.say (Some i)) (sym c.answer.ensures)
    (takes-line c.args.self.now.lines c.remove.new.self c.args.conn c.args.say c.in-Some.line c.in-Some.ensures.value c.in-Some.ensures.updates)

pub returns-in-None : goal.returns-in-None
unfolding line_at
returns-in-None c = takes-none c.args.self.now.lines c.remove.new.self c.args.conn c.args.say c.in-None.ensures.value c.in-None.ensures.updates
