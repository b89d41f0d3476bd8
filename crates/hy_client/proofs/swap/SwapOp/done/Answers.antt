use Rattle.std.proofs.Common.{◌∙◌, sym, ap}
use Rattle.std.specs.Option.{option_map}
use Rattle.hy_record.specs.Stamp.{Timestamp}
use Rattle.hy_record.specs.declared.action.Reply.TheVariants as told
use Rattle.hy_client.proofs.Swaps.{done-told}
use Rattle.hy_client.proofs.swap.SwapOp.done.Goals as goal

pub returns-in-Some : goal.returns-in-Some
returns-in-Some c = λ none plan expected own h. ap (option_map (λ (t : Timestamp). told.Swapped t)) (sym c.in-Some.is)
    ∙ done-told c.args.self.now c.after.result c.awaits_verdict.result c.awaits_verdict.ensures c.if-awaits_verdict.true c.after.ensures none plan expected own h

pub returns-in-None : goal.returns-in-None
returns-in-None c = λ none plan expected own h. ap (option_map (λ (t : Timestamp). told.Swapped t)) (sym c.in-None.is)
    ∙ done-told c.args.self.now c.after.result c.awaits_verdict.result c.awaits_verdict.ensures c.if-awaits_verdict.true c.after.ensures none plan expected own h
