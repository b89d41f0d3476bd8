use Rattle.std.proofs.Common.{◌∙◌, Some, sym, ap}
use Rattle.hy_record.specs.Stamp.{Timestamp, stamp_eq}
use Rattle.hy_record.specs.declared.action.Reply.TheVariants as told
use Rattle.hy_client.proofs.Swaps.{later-record, expected-record, other-record}
use Rattle.hy_client.proofs.swap.SwapOp.mismatch.Goals as goal

pub returns-then-not-awaits_record : goal.returns-then-not-awaits_record
returns-then-not-awaits_record c = λ client op key. later-record c.args.self.now client op key c.args.rec.now c.awaits_record.result c.awaits_record.ensures c.if-not-awaits_record.true

pub returns-then-is_same : goal.returns-then-is_same
returns-then-is_same c = λ client op key. expected-record c.args.self.now client op key c.args.rec.now c.awaits_record.result c.awaits_record.ensures c.if-not-awaits_record.false
    (ap (λ (t : Timestamp). stamp_eq t c.args.self.now.expected) (sym c.stamp_of-held.ensures) ∙ sym c.is_same.ensures ∙ c.if-is_same.true)

pub returns-else-is_same : goal.returns-else-is_same
returns-else-is_same c = λ client op key none plan expected own h. ap (λ (t : Timestamp). Some (told.Changed t)) c.stamp_of-held.ensures
    ∙ other-record c.args.self.now client op key c.args.rec.now c.awaits_record.result c.awaits_record.ensures c.if-not-awaits_record.false
    (ap (λ (t : Timestamp). stamp_eq t c.args.self.now.expected) (sym c.stamp_of-held.ensures) ∙ sym c.is_same.ensures ∙ c.if-is_same.false) none plan expected own h
