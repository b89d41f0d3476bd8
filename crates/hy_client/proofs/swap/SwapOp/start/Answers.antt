use Rattle.std.proofs.Common.{◌∙◌, Some, [], refl, ap, subst, List, ℕ}
use Rattle.hy_protocol.specs.Operations.{write_plan}
use Rattle.hy_protocol.specs.Turns.{put_turn}
use Rattle.hy_put.specs.Standing as puts
use Rattle.hy_client.proofs.SwapSteps.{starts, first-sends}
use Rattle.hy_client.proofs.swap.SwapOp.start.Goals as goal

pub returns-clause-stands : goal.returns-clause-stands
returns-clause-stands c = starts (write_plan c.args.f c.args.k c.args.issuer.client c.args.issuer.op c.args.issuer.key (Some c.args.value.now)) c.args.expected _ refl refl c.requires.shape refl c.quorum_size.ensures refl
    (subst (λ (value : List ℕ). puts.StandsForInputs (write_plan c.args.f c.args.k c.args.issuer.client c.args.issuer.op c.args.issuer.key (Some value)) c.in_ok-put.put []) (c.in_ok-value.ensures ∙ c.bytes.ensures) c.in_ok-put.ensures.stands)

pub returns-clause-sends : goal.returns-clause-sends
returns-clause-sends c = c.in_ok-put.ensures.sends
    ∙ ap (λ (value : List ℕ). (put_turn (write_plan c.args.f c.args.k c.args.issuer.client c.args.issuer.op c.args.issuer.key (Some value)) []).sends) (c.in_ok-value.ensures ∙ c.bytes.ensures)
    ∙ first-sends (write_plan c.args.f c.args.k c.args.issuer.client c.args.issuer.op c.args.issuer.key (Some c.args.value.now)) c.args.expected
