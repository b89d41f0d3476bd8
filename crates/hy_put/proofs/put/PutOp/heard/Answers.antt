use Rattle.std.proofs.Common.{refl, ap}
use Rattle.hy_record.specs.declared.message.MetaSay.{MetaSay}
use Rattle.hy_record.specs.declared.turn.Cue.TheVariants as cues
use Rattle.hy_protocol.specs.Inputs.{has_of, is_update_answer}
use Rattle.hy_put.proofs.ByState.{idle-goes}
use Rattle.hy_put.proofs.put.PutOp.heard.Goals as goal

pub returns-in-Fired : goal.returns-in-Fired
returns-in-Fired c = λ plan own h. idle-goes plan c.args.self.now _ own _ _ h refl h.carries (ap (λ (s : MetaSay). has_of (cues.Meta s)) c.in-Fired.is) refl (ap (λ (s : MetaSay). is_update_answer (cues.Meta s)) c.in-Fired.is) (λ t i. refl) c.quiet.ensures

pub returns-in-OldList : goal.returns-in-OldList
returns-in-OldList c = λ plan own h. idle-goes plan c.args.self.now _ own _ _ h refl h.carries (ap (λ (s : MetaSay). has_of (cues.Meta s)) c.in-OldList.is) refl (ap (λ (s : MetaSay). is_update_answer (cues.Meta s)) c.in-OldList.is) (λ t i. refl) c.quiet-in-OldList.ensures

pub returns-in-Forgot : goal.returns-in-Forgot
returns-in-Forgot c = λ plan own h. idle-goes plan c.args.self.now _ own _ _ h refl h.carries (ap (λ (s : MetaSay). has_of (cues.Meta s)) c.in-Forgot.is) refl (ap (λ (s : MetaSay). is_update_answer (cues.Meta s)) c.in-Forgot.is) (λ t i. refl) c.quiet-in-Forgot.ensures

pub returns-in-Swapped : goal.returns-in-Swapped
returns-in-Swapped c = λ plan own h. idle-goes plan c.args.self.now _ own _ _ h refl h.carries (ap (λ (s : MetaSay). has_of (cues.Meta s)) c.in-Swapped.is) refl (ap (λ (s : MetaSay). is_update_answer (cues.Meta s)) c.in-Swapped.is) (λ t i. refl) c.quiet-in-Swapped.ensures

pub returns-in-Changed : goal.returns-in-Changed
returns-in-Changed c = λ plan own h. idle-goes plan c.args.self.now _ own _ _ h refl h.carries (ap (λ (s : MetaSay). has_of (cues.Meta s)) c.in-Changed.is) refl (ap (λ (s : MetaSay). is_update_answer (cues.Meta s)) c.in-Changed.is) (λ t i. refl) c.quiet-in-Changed.ensures
