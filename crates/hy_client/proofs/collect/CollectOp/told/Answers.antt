use Rattle.std.proofs.Common.{sym, refl, subst}
use Rattle.hy_record.specs.declared.message.MetaSay.{MetaSay}
use Rattle.hy_record.specs.declared.turn.Cue.TheVariants as cues
use Rattle.hy_client.proofs.Collecting.{Did, idle, other-say}
use Rattle.hy_client.proofs.collect.CollectOp.told.Goals as goal

pub returns-in-Forgot : goal.returns-in-Forgot
returns-in-Forgot c = λ plan inputs h. subst (λ (say : MetaSay). Did plan c.forgot.new.self inputs (cues.Meta say) c.forgot.result) (sym c.in-Forgot.is) (c.forgot.ensures c.in-Forgot.client c.in-Forgot.op c.in-Forgot.key plan inputs h)

pub returns-in_default : goal.returns-in_default
returns-in_default c = λ plan inputs h. idle plan c.args.self.now inputs (cues.Meta c.args.say.now) c.quiet.result h refl (other-say c.args.self.now c.args.say.now c.in_default.not-OldList c.in_default.not-Forgot) c.quiet.ensures
