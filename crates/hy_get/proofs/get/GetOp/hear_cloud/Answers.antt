use Rattle.std.proofs.Common.{◌≡◌, refl, ◌∙◌, ap, sym, subst, false, List, [], ◌∷◌, Some}
use Rattle.hy_record.specs.declared.action.Reply.TheVariants as told
use Rattle.hy_record.specs.declared.turn.Cue.TheVariants as cues
use Rattle.hy_record.specs.declared.turn.Cue.{Cue}
use Rattle.hy_record.specs.Record.{RecordValue}
use Rattle.hy_protocol.specs.Progress.{version_progress}
use Rattle.hy_operation.specs.Progress.{Tells}
use Rattle.hy_record.specs.Stamp.{Timestamp, stamp_eq}
use Rattle.hy_get.specs.declared.fetch.Heard.{Heard}
use Rattle.hy_get.specs.declared.get.State.{State}
use Rattle.hy_get.specs.Requests.{plan_of}
use Rattle.hy_get.specs.Fetching.{Awaits, Completes, HeardSince}
use Rattle.hy_get.proofs.Standing.{fetching-goes, fetching-ends, calm-rounds, turn_with}
use Rattle.hy_get.proofs.Idle.{IsIdleAt, idle-goes, stray-idle}
use Rattle.hy_get.proofs.get.GetOp.hear_cloud.Goals as goal

pub returns-then-not-is_same-clause-takes : goal.returns-then-not-is_same-clause-takes
returns-then-not-is_same-clause-takes c =
    let other : stamp_eq c.args.reply.now.stamp c.in-Fetching.fetch.rec.stamp ≡ false = ap (λ (t : Timestamp). stamp_eq c.args.reply.now.stamp t) (sym c.stamp-stamp.ensures) ∙ sym c.is_same.ensures ∙ c.if-not-is_same.true in
    λ inputs h. idle-goes _ c.args.self.now _ inputs _ _ h (sym c.in-Fetching.is) refl (subst (λ (s : State). IsIdleAt s (cues.Cloud c.args.reply.now)) (sym c.in-Fetching.is) (stray-idle c.in-Fetching.fetch c.args.reply.now other)) c.quiet.ensures

pub returns-in-Reading-clause-takes : goal.returns-in-Reading-clause-takes
returns-in-Reading-clause-takes c =
    λ inputs h. idle-goes _ c.args.self.now _ inputs _ _ h refl refl (subst (λ (s : State). IsIdleAt s (cues.Cloud c.args.reply.now)) (sym c.in-Reading.is) (refl, refl)) c.quiet-in-Reading.ensures

pub returns-in-Replied-clause-takes : goal.returns-in-Replied-clause-takes
returns-in-Replied-clause-takes c =
    λ inputs h. idle-goes _ c.args.self.now _ inputs _ _ h refl refl (subst (λ (s : State). IsIdleAt s (cues.Cloud c.args.reply.now)) (sym c.in-Replied.is) tt) c.quiet-in-Replied.ensures

pub returns-in-Requests-clause-takes : goal.returns-in-Requests-clause-takes
returns-in-Requests-clause-takes c =
    λ inputs h. fetching-goes _ c.args.self.now _ inputs _ _ c.in-Fetching.fetch _ c.in-Requests.sends.items h c.in-Fetching.is refl c.hear.ensures.rec (λ since. refl)
    (λ since a. subst (λ (heard : Heard). HeardSince (plan_of c.args.self.now.issuer) c.in-Fetching.fetch.rec since (cues.Cloud c.args.reply.now) c.hear.new.self heard) c.in-Requests.is (c.in_ok-sends-in-Fetching.ensures.hears since a))
    (λ since a. calm-rounds c.in-Fetching.fetch since (cues.Cloud c.args.reply.now) c.args.self.now.rounds refl) c.sending.ensures

pub returns-in-Value-clause-takes : goal.returns-in-Value-clause-takes
returns-in-Value-clause-takes c =
    let completes : (since : List Cue) → Awaits c.in-Fetching.fetch since → Completes c.in-Fetching.fetch.rec since (cues.Cloud c.args.reply.now) c.in-Value.value c.hear.new.self =
    λ since a. subst (λ (heard : Heard). HeardSince (plan_of c.args.self.now.issuer) c.in-Fetching.fetch.rec since (cues.Cloud c.args.reply.now) c.hear.new.self heard) c.in-Value.is (c.in_ok-sends-in-Fetching.ensures.hears since a) in
    λ inputs h. fetching-ends _ c.args.self.now _ inputs _ _ c.in-Fetching.fetch (told.Value c.in-Value.value c.in-Fetching.fetch.rec.stamp) c.progress.result h c.in-Fetching.is refl (λ since. refl)
    (λ since a. (completes since a).answer)
    (λ since a. subst (λ (r : RecordValue). Tells c.progress.result (version_progress (Some r) (cues.Cloud c.args.reply.now ∷ since))) c.hear.ensures.rec (c.progress.ensures _ (completes since a).follows (completes since a).enough))
    (λ since a. calm-rounds c.in-Fetching.fetch since (cues.Cloud c.args.reply.now) c.args.self.now.rounds refl)
    (c.replying.ensures ∙ ap (λ (t : Timestamp). turn_with [] (Some (told.Value c.in-Value.value t))) c.stamp-stamp.ensures)
