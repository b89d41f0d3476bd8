use Rattle.std.proofs.Common.{◌≡◌, ◌∙◌, ◌-◌, ap, sym, refl, arith, [], ◌∷◌}
use Rattle.hy_base.specs.Shape.{cloud_count, quorum_size}
use Rattle.hy_record.specs.declared.turn.Out.{Out}
use Rattle.hy_client.proofs.Collecting.{stands-start, first-sends}
use Rattle.hy_client.proofs.collect.CollectOp.start.Goals as goal

pub returns-clause-stands : goal.returns-clause-stands
returns-clause-stands c = stands-start _ _ refl c.cloud_count.ensures (c.quorum_size.ensures ∙ (let count : quorum_size c.args.f c.args.k ≡ cloud_count c.args.f c.args.k - c.args.f = omega arith in count)) c.requires refl

pub returns-clause-sends : goal.returns-clause-sends
returns-clause-sends c = c.in_ok-sends.ensures.items ∙ ap (λ (out : Out). out ∷ []) c.olds.ensures ∙ sym (first-sends _)
