use Rattle.std.proofs.Common.{◌∙◌, refl, ap, List, [], ◌∷◌, None, inl, inr}
use Rattle.hy_record.specs.declared.message.MetaAsk.TheVariants as asks
use Rattle.hy_record.specs.declared.turn.Cue.TheVariants as cues
use Rattle.hy_record.specs.declared.turn.Out.{Out}
use Rattle.hy_record.specs.declared.turn.Out.TheVariants as outs
use Rattle.hy_record.specs.declared.turn.Turn.{Turn}
use Rattle.hy_operation.specs.declared.issuer.Issuer.{Issuer}
use Rattle.hy_client.proofs.Collecting.{asking-goes, deleting-goes, forgetting-goes, deleting, tick-tracks, late-tick}
use Rattle.hy_client.proofs.collect.CollectOp.tick.Goals as goal

pub returns-in_ok-sends-in-Asking : goal.returns-in_ok-sends-in-Asking
returns-in_ok-sends-in-Asking c = λ plan inputs h. asking-goes plan c.args.self.now _ inputs cues.Tick _ h c.in-Asking.is (record { issuer = refl; clouds = refl; enough = refl; at = c.in-Asking.is }) refl
    (c.sending.ensures ∙ (let sent : List Out → Turn = λ outs. record { sends = outs; reply = None } in ap sent (c.in_ok-sends-in-Asking.ensures.items ∙ ap (λ (out : Out). out ∷ []) c.olds.ensures ∙ ap (λ (issuer : Issuer). outs.Meta (asks.Olds issuer.client issuer.op issuer.key) ∷ []) h.issuer)))

pub returns-in_ok-sends-in-Deleting : goal.returns-in_ok-sends-in-Deleting
returns-in_ok-sends-in-Deleting c = λ plan inputs h. deleting-goes plan c.args.self.now _ inputs cues.Tick _ c.in-Deleting.deletion h c.in-Deleting.is c.in-Deleting.deletion (record { issuer = refl; clouds = refl; enough = refl; at = c.in-Deleting.is })
    (λ stamps since tracks. tick-tracks plan stamps since c.in-Deleting.deletion (deleting plan c.args.self.now c.args.self.now inputs cues.Tick c.sending-in-Deleting.result c.in-Deleting.deletion h c.in-Deleting.is).lacks tracks)
    (c.sending-in-Deleting.ensures ∙ (let sent : List Out → Turn = λ outs. record { sends = outs; reply = None } in ap sent c.in_ok-sends-in-Deleting.ensures))

pub returns-in_ok-sends-in-Forgetting : goal.returns-in_ok-sends-in-Forgetting
returns-in_ok-sends-in-Forgetting c = λ plan inputs h. forgetting-goes plan c.args.self.now _ inputs cues.Tick _ c.in-Forgetting.stamps h c.in-Forgetting.is (record { issuer = refl; clouds = refl; enough = refl; at = c.in-Forgetting.is }) refl
    (c.sending-in-Forgetting.ensures ∙ (let sent : List Out → Turn = λ outs. record { sends = outs; reply = None } in ap sent (c.in_ok-sends-in-Forgetting.ensures ∙ ap (λ (issuer : Issuer). outs.Meta (asks.Forget issuer.client issuer.op issuer.key c.in-Forgetting.stamps) ∷ []) h.issuer)))

pub returns-in-Empty : goal.returns-in-Empty
returns-in-Empty c = λ plan inputs h. late-tick plan c.args.self.now inputs _ h (inl c.in-Empty.is) c.quiet.ensures

pub returns-in-Collected : goal.returns-in-Collected
returns-in-Collected c = λ plan inputs h. late-tick plan c.args.self.now inputs _ h (inr c.in-Collected.is) c.quiet-in-Collected.ensures
