use Rattle.std.specs.Prelude.{is_some}
use Rattle.std.proofs.Common.{List, [], Some, None, refl, sym, ap, ◌∙◌}
use Rattle.hy_record.specs.Stamp.{Timestamp}
use Rattle.hy_record.specs.declared.action.Reply.TheVariants as told
use Rattle.hy_record.specs.declared.turn.Out.{Out}
use Rattle.hy_put.proofs.Further.{turn_with}
use Rattle.hy_put.proofs.ByContent.{carries-same, client-is, upon, the-value, quorum-some, first-puts, update-is}
use Rattle.hy_put.proofs.ByState.{reading-exhausts, reading-stores}
use Rattle.hy_put.proofs.Outcomes.{ok-then, begin-deletes}
use Rattle.hy_put.proofs.put.PutOp.begin.Goals as goal

pub returns-in-None : goal.returns-in-None
returns-in-None c = λ client op key was plan own h.
    reading-exhausts plan c.args.self.now _ own _ _ c.args.rec.now c.none.result c.storing_progress-progress.result h was c.finish.ensures.state c.storing_progress-progress.ensures c.none.ensures
    (carries-same plan c.args.self.now _ c.finish.ensures.issuer c.finish.ensures.content h.carries) refl
    (upon _ plan.client _ c.args.rec.now None (sym c.in-None.is ∙ c.after.ensures) c.stamp_of-held.ensures (client-is plan c.args.self.now h.carries))
    (c.finish.ensures.turn ∙ ap (λ (t : Timestamp). turn_with [] (Some (told.Exhausted t))) c.stamp_of-held.ensures)

pub returns-in_ok-sends-in-Some-content : goal.returns-in_ok-sends-in-Some-content
returns-in_ok-sends-in-Some-content c = λ client op key was plan own h.
    let v = the-value plan c.args.self.now c.in-Some-content.content h.carries c.in-Some-content.is in
    reading-stores plan c.args.self.now _ own _ _ c.args.rec.now _ h was refl (carries-same plan c.args.self.now _ refl refl h.carries) (ap is_some v.value) (quorum-some plan c.in-Some-content.content v) refl
    (upon _ plan.client _ c.args.rec.now (Some c.in-Some.stamp) (sym c.in-Some.is ∙ c.after.ensures) c.stamp_of-held.ensures (client-is plan c.args.self.now h.carries))
    c.none-acked.ensures
    (c.sending.ensures ∙ ap (λ (s : List Out). turn_with s None) (first-puts plan c.args.self.now c.in-Some-content.content c.none-acked.result c.in-Some.stamp c.quorum-n.result c.in_ok-sends-in-Some-content.sends.items h.carries v c.none-acked.ensures c.quorum-n.ensures.value c.in_ok-sends-in-Some-content.ensures))

pub returns-in_ok-rec-in-None-content : goal.returns-in_ok-rec-in-None-content
returns-in_ok-rec-in-None-content c = λ client op key was plan own h.
    begin-deletes plan c.args.self.now c.update.new.self own client op key c.args.rec.now c.in-Some.stamp c.in_ok-rec-in-None-content.rec c.update.result h was c.in-None-content.is
    (upon _ plan.client _ c.args.rec.now (Some c.in-Some.stamp) (sym c.in-Some.is ∙ c.after.ensures) c.stamp_of-held.ensures (client-is plan c.args.self.now h.carries)) c.in_ok-rec-in-None-content.ensures
    (ok-then c.update.result _ (λ turn is. is ∙ ap (λ (s : List Out). turn_with s None) (update-is plan c.args.self.now c.in_ok-rec-in-None-content.rec h.carries)) c.update.ensures.turn) c.update.ensures.state c.update.ensures.err
    (carries-same plan c.args.self.now _ c.update.ensures.issuer c.update.ensures.content h.carries)
