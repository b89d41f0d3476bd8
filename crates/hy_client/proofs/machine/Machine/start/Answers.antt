use Rattle.std.proofs.Common.{◌∙◌, sym, ap, List, ℕ, [], Some}
use Rattle.hy_record.specs.declared.action.Action.{Action}
use Rattle.hy_record.specs.declared.action.Action.TheVariants as asked
use Rattle.hy_protocol.specs.Operations.{sends_of, write_plan}
use Rattle.hy_protocol.specs.Turns.{put_turn}
use Rattle.hy_client.proofs.Tasks.{first-sends}
use Rattle.hy_client.proofs.machine.Machine.start.Goals as goal

pub returns-in_ok-put-in-Put-clause-sends : goal.returns-in_ok-put-in-Put-clause-sends
returns-in_ok-put-in-Put-clause-sends c =
    c.in_ok-put-in-Put.ensures.sends ∙ ap (λ (value : List ℕ). (put_turn (write_plan c.args.f c.args.k c.args.client c.args.op c.in-Put.key (Some value)) []).sends) (c.in_ok-value-in-Put.ensures ∙ c.bytes.ensures)
    ∙ first-sends c.args.f c.args.k c.args.client c.args.op (asked.Put c.in-Put.key c.in-Put.value) ∙ ap (λ (action : Action). sends_of c.args.f c.args.k c.args.client c.args.op action []) (sym c.in-Put.is)

pub returns-in_ok-put-in-Delete-clause-sends : goal.returns-in_ok-put-in-Delete-clause-sends
returns-in_ok-put-in-Delete-clause-sends c =
    c.in_ok-put-in-Delete.ensures.sends
    ∙ first-sends c.args.f c.args.k c.args.client c.args.op (asked.Delete c.in-Delete.key) ∙ ap (λ (action : Action). sends_of c.args.f c.args.k c.args.client c.args.op action []) (sym c.in-Delete.is)

pub returns-in_ok-get-in-Get-clause-sends : goal.returns-in_ok-get-in-Get-clause-sends
returns-in_ok-get-in-Get-clause-sends c =
    c.in_ok-get-in-Get.ensures.sends
    ∙ first-sends c.args.f c.args.k c.args.client c.args.op (asked.Get c.in-Get.key) ∙ ap (λ (action : Action). sends_of c.args.f c.args.k c.args.client c.args.op action []) (sym c.in-Get.is)

pub returns-in_ok-collect-in-Collect-clause-sends : goal.returns-in_ok-collect-in-Collect-clause-sends
returns-in_ok-collect-in-Collect-clause-sends c =
    c.in_ok-collect-in-Collect.ensures.sends
    ∙ first-sends c.args.f c.args.k c.args.client c.args.op (asked.Collect c.in-Collect.key) ∙ ap (λ (action : Action). sends_of c.args.f c.args.k c.args.client c.args.op action []) (sym c.in-Collect.is)

pub returns-in_ok-swap-in-Swap-clause-sends : goal.returns-in_ok-swap-in-Swap-clause-sends
returns-in_ok-swap-in-Swap-clause-sends c =
    c.in_ok-swap-in-Swap.ensures.sends
    ∙ first-sends c.args.f c.args.k c.args.client c.args.op (asked.Swap c.in-Swap.key c.in-Swap.expected c.in-Swap.value) ∙ ap (λ (action : Action). sends_of c.args.f c.args.k c.args.client c.args.op action []) (sym c.in-Swap.is)
