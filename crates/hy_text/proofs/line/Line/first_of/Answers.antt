use Rattle.std.proofs.Common.{refl, sym, ◌∙◌, []}
use Rattle.hy_text.proofs.Pieces.{lines_of-cut, lines_of-last, lines_of-none}
use Rattle.hy_text.proofs.line.Line.first_of.Goals as goal

pub returns-in-Some : goal.returns-in-Some
returns-in-Some c = rw (c.split-words.ensures) (lines_of-cut c.args.text.now c.in-Some.line.now c.in-Some.rest.now c.in-Some.ensures)

pub returns-in-None : goal.returns-in-None
returns-in-None c = lines_of-none _ (sym c.is_empty.ensures ∙ c.if-is_empty.true)

pub returns-in-None-2 : goal.returns-in-None-2
returns-in-None-2 c =
    rw (c.split-words-in-None-2.ensures, lines_of-none [] refl)
    (lines_of-last c.args.text.now c.in-None.ensures (sym c.is_empty.ensures ∙ c.if-is_empty.false))
