use Rattle.std.proofs.Common.{◌≡◌, ◌∙◌, ◌<◌, ◌-◌, ℕ, sym, refl, ap, subst, List, [], ◌∷◌, Option, None}
use Rattle.hy_base.specs.Shape.{cloud_count}
use Rattle.hy_record.specs.Stamp.{Timestamp}
use Rattle.hy_record.specs.declared.message.MetaAsk.TheVariants as asks
use Rattle.hy_record.specs.declared.turn.Cue.TheVariants as cues
use Rattle.hy_record.specs.declared.turn.Out.{Out}
use Rattle.hy_record.specs.declared.turn.Out.TheVariants as outs
use Rattle.hy_record.specs.declared.turn.Turn.{Turn}
use Rattle.hy_operation.specs.declared.issuer.Issuer.{Issuer}
use Rattle.hy_client.specs.Collecting.{HearsOr, StandsForOwn}
use Rattle.std.specs.Prelude.{OnSome}
use Rattle.hy_client.specs.declared.collect.State.{State}
use Rattle.hy_client.specs.declared.collect.State.TheVariants as at
use Rattle.hy_client.specs.declared.deletion.Deletion.{Deletion}
use Rattle.hy_client.proofs.Collecting.{deleting, deleting-goes, deleting-ends, few-clouds, idle, stray-answer, failed}
use Rattle.hy_client.proofs.collect.CollectOp.gone.Goals as goal

pub returns-in_err-stamps-in-Deleting : goal.returns-in_err-stamps-in-Deleting
returns-in_err-stamps-in-Deleting c = λ plan inputs h. failed c.from_residual.result _ _ _ c.from_residual.ensures.0
    (subst (λ (s : State). StandsForOwn plan (record { issuer = c.args.self.now.issuer; clouds = c.args.self.now.clouds; enough = c.args.self.now.enough; state = s }) inputs) (c.in-Deleting.is ∙ ap (λ (d : Deletion). at.Deleting d) (sym c.in_err-stamps-in-Deleting.ensures.same)) h)

pub returns-in_err-sends-in-Some : goal.returns-in_err-sends-in-Some
returns-in_err-sends-in-Some c = λ plan inputs h. failed c.from_residual-in_err-sends-in-Some.result _ _ _ c.from_residual-in_err-sends-in-Some.ensures.0
    (subst (λ (s : State). StandsForOwn plan (record { issuer = c.args.self.now.issuer; clouds = c.args.self.now.clouds; enough = c.args.self.now.enough; state = s }) inputs)
    (c.in-Deleting.is ∙ ap (λ (d : Deletion). at.Deleting d) (sym (subst (λ (o : Option (List Timestamp)). OnSome o (c.gone.new.self ≡ c.in-Deleting.deletion)) c.in-Some.is c.in_ok-stamps-in-Deleting.ensures.same))) h)

pub returns-in_ok-sends-in-Some : goal.returns-in_ok-sends-in-Some
returns-in_ok-sends-in-Some c = λ plan inputs h.
    let lacks = (deleting plan c.args.self.now c.args.self.now inputs (cues.Cloud c.args.reply.now) c.sending.result c.in-Deleting.deletion h c.in-Deleting.is).lacks in
    deleting-ends plan c.args.self.now _ inputs (cues.Cloud c.args.reply.now) _ c.in-Deleting.deletion h c.in-Deleting.is c.in-Some.stamps (record { issuer = refl; clouds = refl; enough = refl; at = refl }) refl
    (λ stamps since tracks. subst (λ (o : Option (List Timestamp)). HearsOr (cloud_count plan.f plan.k) (cloud_count plan.f plan.k - plan.f) stamps (cues.Cloud c.args.reply.now ∷ since) c.gone.new.self o) c.in-Some.is
    (c.in_ok-stamps-in-Deleting.ensures.hears (cloud_count plan.f plan.k) (cloud_count plan.f plan.k - plan.f) stamps since (few-clouds plan c.args.self.now inputs h) (subst (λ (n : ℕ). c.args.reply.now.cloud < n) h.clouds c.requires.cloud) c.requires.gone tracks lacks))
    (c.sending.ensures ∙ (let sent : List Out → Turn = λ outs. record { sends = outs; reply = None } in ap sent (c.in_ok-sends-in-Some.ensures ∙ ap (λ (issuer : Issuer). outs.Meta (asks.Forget issuer.client issuer.op issuer.key c.in-Some.stamps) ∷ []) h.issuer)))

pub returns-in-None : goal.returns-in-None
returns-in-None c = λ plan inputs h.
    let lacks = (deleting plan c.args.self.now c.args.self.now inputs (cues.Cloud c.args.reply.now) c.quiet.result c.in-Deleting.deletion h c.in-Deleting.is).lacks in
    deleting-goes plan c.args.self.now _ inputs (cues.Cloud c.args.reply.now) _ c.in-Deleting.deletion h c.in-Deleting.is c.gone.new.self (record { issuer = refl; clouds = refl; enough = refl; at = refl })
    (λ stamps since tracks. subst (λ (o : Option (List Timestamp)). HearsOr (cloud_count plan.f plan.k) (cloud_count plan.f plan.k - plan.f) stamps (cues.Cloud c.args.reply.now ∷ since) c.gone.new.self o) c.in-None.is
    (c.in_ok-stamps-in-Deleting.ensures.hears (cloud_count plan.f plan.k) (cloud_count plan.f plan.k - plan.f) stamps since (few-clouds plan c.args.self.now inputs h) (subst (λ (n : ℕ). c.args.reply.now.cloud < n) h.clouds c.requires.cloud) c.requires.gone tracks lacks))
    c.quiet.ensures

pub returns-in_default : goal.returns-in_default
returns-in_default c = λ plan inputs h. idle plan c.args.self.now inputs (cues.Cloud c.args.reply.now) _ h refl (stray-answer c.args.self.now c.args.reply.now c.in_default.not-Deleting) c.quiet-in_default.ensures
