use Rattle.std.proofs.Common.{sym}
use Rattle.hy_text.proofs.Pieces.{end_of-pieces_at}
use Rattle.hy_text.proofs.word.Words.end.Goals as goal

pub returns-in-Some : goal.returns-in-Some
returns-in-Some c = sym (rw (← c.self.view_is, c.in-Some.is) (end_of-pieces_at c.self.inside.separator c.in-Some.field-0.now))
