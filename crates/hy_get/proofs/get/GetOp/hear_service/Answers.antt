use Rattle.std.proofs.Common.{refl, ap}
use Rattle.hy_record.specs.declared.message.MetaSay.{MetaSay}
use Rattle.hy_record.specs.declared.turn.Cue.TheVariants as cues
use Rattle.hy_protocol.specs.Inputs.{has_of, is_fired}
use Rattle.hy_get.proofs.Idle.{idle-goes, other-idle}
use Rattle.hy_get.proofs.get.GetOp.hear_service.Goals as goal

pub returns-in-Applied-clause-takes : goal.returns-in-Applied-clause-takes
returns-in-Applied-clause-takes c =
    λ inputs h. idle-goes _ c.args.self.now _ inputs _ _ h refl refl (other-idle c.args.self.now.state c.args.say.now (ap (λ (s : MetaSay). has_of (cues.Meta s)) c.in-Applied.is) (λ t. ap (λ (s : MetaSay). is_fired t (cues.Meta s)) c.in-Applied.is)) c.quiet.ensures

pub returns-in-Kept-clause-takes : goal.returns-in-Kept-clause-takes
returns-in-Kept-clause-takes c =
    λ inputs h. idle-goes _ c.args.self.now _ inputs _ _ h refl refl (other-idle c.args.self.now.state c.args.say.now (ap (λ (s : MetaSay). has_of (cues.Meta s)) c.in-Kept.is) (λ t. ap (λ (s : MetaSay). is_fired t (cues.Meta s)) c.in-Kept.is)) c.quiet-in-Kept.ensures

pub returns-in-OldList-clause-takes : goal.returns-in-OldList-clause-takes
returns-in-OldList-clause-takes c =
    λ inputs h. idle-goes _ c.args.self.now _ inputs _ _ h refl refl (other-idle c.args.self.now.state c.args.say.now (ap (λ (s : MetaSay). has_of (cues.Meta s)) c.in-OldList.is) (λ t. ap (λ (s : MetaSay). is_fired t (cues.Meta s)) c.in-OldList.is)) c.quiet-in-OldList.ensures

pub returns-in-Forgot-clause-takes : goal.returns-in-Forgot-clause-takes
returns-in-Forgot-clause-takes c =
    λ inputs h. idle-goes _ c.args.self.now _ inputs _ _ h refl refl (other-idle c.args.self.now.state c.args.say.now (ap (λ (s : MetaSay). has_of (cues.Meta s)) c.in-Forgot.is) (λ t. ap (λ (s : MetaSay). is_fired t (cues.Meta s)) c.in-Forgot.is)) c.quiet-in-Forgot.ensures

pub returns-in-Swapped-clause-takes : goal.returns-in-Swapped-clause-takes
returns-in-Swapped-clause-takes c =
    λ inputs h. idle-goes _ c.args.self.now _ inputs _ _ h refl refl (other-idle c.args.self.now.state c.args.say.now (ap (λ (s : MetaSay). has_of (cues.Meta s)) c.in-Swapped.is) (λ t. ap (λ (s : MetaSay). is_fired t (cues.Meta s)) c.in-Swapped.is)) c.quiet-in-Swapped.ensures

pub returns-in-Changed-clause-takes : goal.returns-in-Changed-clause-takes
returns-in-Changed-clause-takes c =
    λ inputs h. idle-goes _ c.args.self.now _ inputs _ _ h refl refl (other-idle c.args.self.now.state c.args.say.now (ap (λ (s : MetaSay). has_of (cues.Meta s)) c.in-Changed.is) (λ t. ap (λ (s : MetaSay). is_fired t (cues.Meta s)) c.in-Changed.is)) c.quiet-in-Changed.ensures
