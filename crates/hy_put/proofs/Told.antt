-- How far a put is, by what its inputs told.
use Rattle.std.proofs.Common.{◌≡◌, ℕ, List, [], ◌∷◌, length, Option, Some, None, refl, sym, ap, subst, ◌∙◌}
use Rattle.std.specs.Option.{option_or}
use Rattle.std.proofs.lemmas.Option.{none-some}
use Rattle.hy_record.specs.declared.action.Phase.TheVariants as phases
use Rattle.hy_record.specs.declared.action.Reply.{Reply}
use Rattle.hy_record.specs.declared.turn.Cue.{Cue}
use Rattle.hy_base.specs.Shape.{cloud_count, quorum_size}
use Rattle.hy_record.specs.Record.{RecordValue}
use Rattle.hy_protocol.specs.declared.plan.PutPlan.{PutPlan}
use Rattle.hy_protocol.specs.Write.{first_has, own_stamp, acknowledged_so_far, update_of, write_reply}
use Rattle.hy_protocol.specs.Progress.{write_progress, update_progress}
use Rattle.hy_protocol.specs.Turns.{settled_progress}
use Rattle.hy_operation.specs.declared.marks.Marks.{Marks}
use Rattle.hy_operation.specs.declared.progress.Progress.{Progress}
use Rattle.hy_operation.specs.Marks.{marked_below}
use Rattle.hy_operation.specs.Progress.{Tells}
use Rattle.hy_operation.proofs.Inputs.{progress-before-reply}
use Rattle.hy_put.specs.declared.content.Content.{Content}
use Rattle.hy_put.specs.Contents.{CarriesValue, storing_progress}
use Rattle.hy_put.specs.Standing.{TellsPut, IsReading, IsStoring, IsUpdating, HasReplied, StandsAt, StandsForOwn}
use Rattle.hy_put.specs.declared.put.PutOp.{PutOp}
use Rattle.hy_put.specs.declared.state.State.{State}
use Rattle.hy_put.specs.declared.state.State.TheVariants as at
use Rattle.hy_put.specs.declared.state.Storing.{Storing}
use Rattle.hy_record.specs.Stamp.{Timestamp}
use Rattle.hy_put.proofs.ByContent.{within-of}
use Rattle.hy_put.proofs.Further.{reply-more, own-upon, marks-are}

-- one answer of the service is awaited in this phase
abbrev pub reading_progress : Progress
reading_progress = record { phase = phases.Read; have = 0; need = 1 }

abbrev pub updating_progress : Progress
updating_progress = record { phase = phases.Update; have = 0; need = 1 }

-- before the reply a put is as far as its inputs say
unsettled : (plan : PutPlan) (own : List Cue) → write_reply plan own ≡ None → settled_progress (write_reply plan) (write_progress plan) own ≡ write_progress plan own
unfolding settled_progress
unsettled plan [] none = refl
unsettled plan (cue ∷ own) none = progress-before-reply (write_reply plan) (write_progress plan) own cue (before (write_reply plan own) _ (sym (reply-more plan cue own) ∙ none))
  where
    before : (o p : Option Reply) → option_or o p ≡ None → o ≡ None
    before None p e = refl
    before (Some x) p e = absurd (none-some x (sym e))

pub tells-reading : (plan : PutPlan) (own : List Cue) → first_has own ≡ None → Tells reading_progress (write_progress plan own)
unfolding write_progress
tells-reading plan own none = rw none (record { phase = refl; have = refl; need = refl })

pub tells-updating : (plan : PutPlan) (own : List Cue) (held : Option RecordValue) (r : RecordValue) → first_has own ≡ Some held → update_of plan own ≡ Some r → Tells updating_progress (write_progress plan own)
unfolding write_progress
tells-updating plan own held r has update = rw (has, update) (by_value plan.value)
  where
    by_value : (value : Option (List ℕ)) → Tells updating_progress (update_progress plan own value (Some r))
    by_value None = record { phase = refl; have = refl; need = refl }
    by_value (Some v) = record { phase = refl; have = refl; need = refl }

-- where the marks are as many as the clouds that acknowledged
pub tells-storing : (plan : PutPlan) (content : Option Content) (marks : Marks) (own : List Cue) (held : Option RecordValue) → CarriesValue plan.f plan.k plan.value content → first_has own ≡ Some held → update_of plan own ≡ None
    → length (marked_below marks (cloud_count plan.f plan.k)) ≡ length (acknowledged_so_far plan own (own_stamp plan own)) → Tells (storing_progress content marks) (write_progress plan own)
unfolding write_progress
tells-storing plan content marks own held carries has update count = rw (has, update) (by_value plan.value content carries)
  where
    by_value : (value : Option (List ℕ)) (o : Option Content) → CarriesValue plan.f plan.k value o → Tells (storing_progress o marks) (update_progress plan own value None)
    by_value None None h = record { phase = refl; have = refl; need = refl }
    by_value None (Some c) h = absurd h
    by_value (Some v) None h = absurd h
    by_value (Some v) (Some c) h = record {
      phase = refl;
      have = ap (λ (f : ℕ). length (marked_below marks (cloud_count f c.k))) h.faults ∙ ap (λ (k : ℕ). length (marked_below marks (cloud_count plan.f k))) h.parts ∙ count;
      need = ap (λ (f : ℕ). quorum_size f c.k) h.faults ∙ ap (λ (k : ℕ). quorum_size plan.f k) h.parts;
    }

-- before the reply, and at it, this is how far the put is
pub tells-before : (plan : PutPlan) (own : List Cue) (progress : Progress) → write_reply plan own ≡ None → Tells progress (write_progress plan own) → TellsPut plan own progress
tells-before plan own progress none tells = rw (unsettled plan own none) tells

pub tells-at : (plan : PutPlan) (own : List Cue) (cue : Cue) (progress : Progress) → write_reply plan own ≡ None → Tells progress (write_progress plan (cue ∷ own)) → TellsPut plan (cue ∷ own) progress
tells-at plan own cue progress none tells = rw (progress-before-reply (write_reply plan) (write_progress plan) own cue none) tells

-- ---- by the state

pub progress-reading : (plan : PutPlan) (m : PutOp) (own : List Cue) (progress : Progress) → StandsForOwn plan m own → m.state ≡ at.Reading → progress ≡ reading_progress → TellsPut plan own progress
progress-reading plan m own progress h was is =
    let r : IsReading plan own = subst (λ (s : State). StandsAt plan s own) was h.state in
    subst (λ (p : Progress). TellsPut plan own p) (sym is) (tells-before plan own reading_progress r.reply (tells-reading plan own r.has))

pub progress-updating : (plan : PutPlan) (m : PutOp) (own : List Cue) (rec : RecordValue) (progress : Progress) → StandsForOwn plan m own → m.state ≡ at.Updating rec → progress ≡ updating_progress → TellsPut plan own progress
progress-updating plan m own rec progress h was is =
    let u : IsUpdating plan rec own = subst (λ (s : State). StandsAt plan s own) was h.state in
    subst (λ (p : Progress). TellsPut plan own p) (sym is) (tells-before plan own updating_progress u.reply (tells-updating plan own u.held rec u.has u.update))

pub progress-replied : (plan : PutPlan) (m : PutOp) (own : List Cue) (progress : Progress) → StandsForOwn plan m own → m.state ≡ at.Replied progress → TellsPut plan own progress
progress-replied plan m own progress h was =
    let r : HasReplied plan progress own = subst (λ (s : State). StandsAt plan s own) was h.state in r.told

pub progress-storing : (plan : PutPlan) (m : PutOp) (own : List Cue) (s : Storing) (progress : Progress) → StandsForOwn plan m own → m.state ≡ at.Storing s → progress ≡ storing_progress m.content s.acked → TellsPut plan own progress
progress-storing plan m own s progress h was is =
    let i : IsStoring plan s own = subst (λ (x : State). StandsAt plan x own) was h.state in
    let stamp : own_stamp plan own ≡ Some s.stamp = own-upon plan own i.held i.has ∙ i.stamp in
    let count : length (marked_below s.acked (cloud_count plan.f plan.k)) ≡ length (acknowledged_so_far plan own (own_stamp plan own)) =
    ap length (marks-are plan s.stamp own s.acked (within-of plan m h.carries i.value) i.acked) ∙ sym (ap (λ (o : Option Timestamp). length (acknowledged_so_far plan own o)) stamp) in
    subst (λ (p : Progress). TellsPut plan own p) (sym is) (tells-before plan own (storing_progress m.content s.acked) i.reply (tells-storing plan m.content s.acked own i.held h.carries.value i.has i.update count))
