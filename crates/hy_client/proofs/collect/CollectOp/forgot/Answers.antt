use Rattle.std.proofs.Common.{◌∙◌, refl, ap, length, List, [], Some}
use Rattle.hy_record.specs.Stamp.{Timestamp}
use Rattle.hy_record.specs.declared.action.Reply.TheVariants as told
use Rattle.hy_record.specs.declared.turn.Turn.{Turn}
use Rattle.hy_client.proofs.Collecting.{forgetting-ends, idle, stray-forgot}
use Rattle.hy_client.proofs.collect.CollectOp.forgot.Goals as goal

pub returns-in-Forgetting : goal.returns-in-Forgetting
returns-in-Forgetting c = λ client op key plan inputs h.
    forgetting-ends plan c.args.self.now _ inputs _ c.replying.result c.in-Forgetting.stamps h c.in-Forgetting.is (record { issuer = refl; clouds = refl; enough = refl; at = refl }) refl refl
    (c.replying.ensures ∙ (let with_stamps : List Timestamp → Turn = λ stamps. record { sends = []; reply = Some (told.Collected (length stamps)) } in ap with_stamps c.items.ensures.value))

pub returns-in_default : goal.returns-in_default
returns-in_default c = λ client op key plan inputs h. idle plan c.args.self.now inputs _ _ h refl (stray-forgot c.args.self.now client op key c.in_default.not-Forgetting) c.quiet.ensures
