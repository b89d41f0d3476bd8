use Rattle.std.proofs.Common.{◌∷◌, [], refl, ap, ◌∙◌}
use Rattle.hy_record.specs.declared.turn.Out.{Out}
use Rattle.hy_put.proofs.Outcomes.{starts, first-sends}
use Rattle.hy_put.proofs.put.PutOp.start.Goals as goal

pub returns-clause-stands : goal.returns-clause-stands
returns-clause-stands c = starts c.args.plan.now _ refl c.in_ok-content.ensures.carries refl

pub returns-clause-sends : goal.returns-clause-sends
returns-clause-sends c = first-sends c.args.plan.now c.in_ok-sends.sends.items (c.in_ok-sends.ensures.items ∙ ap (λ (o : Out). o ∷ []) c.read.ensures)
