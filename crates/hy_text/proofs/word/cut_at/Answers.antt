use Rattle.std.proofs.Common.{arith, sym, ◌∙◌}
use Rattle.std.proofs.lemmas.Grind.{common_steps}
use Rattle.hy_text.proofs.Pieces.{pieces_at-none, pieces_at-place}
use Rattle.hy_text.proofs.word.cut_at.Goals as goal

pub returns-in-None : goal.returns-in-None
returns-in-None c = pieces_at-none _ _ (sym c.separator_place.ensures ∙ c.in-None.is)

pub returns-in-Some : goal.returns-in-Some
returns-in-Some c =
    let p = pieces_at-place c.args.separator c.args.bytes.now c.in-Some.end (sym c.separator_place.ensures ∙ c.in-Some.is) in
    grind (arith, common_steps, p.1)
