use Rattle.std.proofs.Common.{[], Some, refl, ap, ◌∙◌}
use Rattle.hy_record.specs.Stamp.{Timestamp}
use Rattle.hy_record.specs.declared.action.Reply.TheVariants as told
use Rattle.hy_put.proofs.Further.{turn_with}
use Rattle.hy_put.proofs.ByContent.{carries-same}
use Rattle.hy_put.proofs.ByState.{reading-goes, replied-goes, updating-ends, storing-quiet}
use Rattle.hy_put.proofs.put.PutOp.served.Goals as goal

pub returns-in-Updating-clause-applied : goal.returns-in-Updating-clause-applied
returns-in-Updating-clause-applied c = λ client op key s plan own h. updating-ends plan c.args.self.now _ own _ _ c.in-Updating.rec c.awaits_service.result h c.in-Updating.is c.finish.ensures.state c.awaits_service.ensures (carries-same plan c.args.self.now _ c.finish.ensures.issuer c.finish.ensures.content h.carries) refl refl
    (c.finish.ensures.turn ∙ ap (λ (t : Timestamp). turn_with [] (Some (told.Done t))) c.stamp-stamp.ensures)

pub returns-in-Reading-clause-applied : goal.returns-in-Reading-clause-applied
returns-in-Reading-clause-applied c = λ client op key s plan own h. reading-goes plan c.args.self.now _ own _ _ h c.in-Reading.is c.in-Reading.is h.carries refl c.quiet.ensures

pub returns-in-Storing-clause-applied : goal.returns-in-Storing-clause-applied
returns-in-Storing-clause-applied c = λ client op key s plan own h. storing-quiet plan c.args.self.now _ own _ _ c.in-Storing._storing h c.in-Storing.is c.in-Storing.is h.carries (λ i. refl) (λ held i. c.quiet-in-Storing.ensures)

pub returns-in-Replied-clause-applied : goal.returns-in-Replied-clause-applied
returns-in-Replied-clause-applied c = λ client op key s plan own h. replied-goes plan c.args.self.now _ own _ _ c.in-Replied._progress h c.in-Replied.is c.in-Replied.is h.carries c.quiet-in-Replied.ensures

pub returns-in-Updating-clause-kept : goal.returns-in-Updating-clause-kept
returns-in-Updating-clause-kept c = λ client op key s plan own h. updating-ends plan c.args.self.now _ own _ _ c.in-Updating.rec c.awaits_service.result h c.in-Updating.is c.finish.ensures.state c.awaits_service.ensures (carries-same plan c.args.self.now _ c.finish.ensures.issuer c.finish.ensures.content h.carries) refl refl
    (c.finish.ensures.turn ∙ ap (λ (t : Timestamp). turn_with [] (Some (told.Done t))) c.stamp-stamp.ensures)

pub returns-in-Reading-clause-kept : goal.returns-in-Reading-clause-kept
returns-in-Reading-clause-kept c = λ client op key s plan own h. reading-goes plan c.args.self.now _ own _ _ h c.in-Reading.is c.in-Reading.is h.carries refl c.quiet.ensures

pub returns-in-Storing-clause-kept : goal.returns-in-Storing-clause-kept
returns-in-Storing-clause-kept c = λ client op key s plan own h. storing-quiet plan c.args.self.now _ own _ _ c.in-Storing._storing h c.in-Storing.is c.in-Storing.is h.carries (λ i. refl) (λ held i. c.quiet-in-Storing.ensures)

pub returns-in-Replied-clause-kept : goal.returns-in-Replied-clause-kept
returns-in-Replied-clause-kept c = λ client op key s plan own h. replied-goes plan c.args.self.now _ own _ _ c.in-Replied._progress h c.in-Replied.is c.in-Replied.is h.carries c.quiet-in-Replied.ensures
