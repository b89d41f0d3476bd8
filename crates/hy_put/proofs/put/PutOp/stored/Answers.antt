use Rattle.std.proofs.Common.{List, None, refl, sym, ap, ◌∙◌}
use Rattle.hy_record.specs.declared.turn.Out.{Out}
use Rattle.hy_operation.specs.Marks.{is_marked}
use Rattle.hy_operation.proofs.Sets.{quorum-is-list}
use Rattle.hy_put.proofs.Acknowledged.{stray-goes, no-content, ack-goes, ack-ends}
use Rattle.hy_put.proofs.ByContent.{carries-same, update-is}
use Rattle.hy_put.proofs.ByState.{reading-goes, updating-goes, replied-goes}
use Rattle.hy_put.proofs.Further.{turn_with}
use Rattle.hy_put.proofs.Outcomes.{ok-then}
use Rattle.hy_put.proofs.put.PutOp.stored.Goals as goal

pub record-requires-clause-quorum : goal.record-requires-clause-quorum
record-requires-clause-quorum c =
    quorum-is-list (λ cloud. is_marked c.mark.new.self cloud) c.in-Some.content.f c.in-Some.content.k c.set_below.result c.count_below-count.result
    (rw c.clouds-n.ensures.value at c.set_below.ensures) (rw c.clouds-n.ensures.value at c.count_below-count.ensures) (c.if-count-quorum.false ∙ c.quorum.ensures.value)

pub returns-in-Reading : goal.returns-in-Reading
returns-in-Reading c = λ plan own h. reading-goes plan c.args.self.now _ own _ _ h c.in-Reading.is c.in-Reading.is h.carries refl c.quiet.ensures

pub returns-in-Updating : goal.returns-in-Updating
returns-in-Updating c = λ plan own h. updating-goes plan c.args.self.now _ own _ _ c.in-Updating._rec h c.in-Updating.is c.in-Updating.is h.carries refl c.quiet-in-Updating.ensures

pub returns-in-Replied : goal.returns-in-Replied
returns-in-Replied c = λ plan own h. replied-goes plan c.args.self.now _ own _ _ c.in-Replied._progress h c.in-Replied.is c.in-Replied.is h.carries c.quiet-in-Replied.ensures

pub returns-then-not-is_same : goal.returns-then-not-is_same
returns-then-not-is_same c = λ plan own h. stray-goes plan c.args.self.now _ own _ c.in-Storing.storing c.args.reply.now h c.in-Storing.is c.in-Storing.is h.carries (sym c.is_same.ensures ∙ c.if-not-is_same.true) c.quiet-then-not-is_same.ensures

pub returns-then-count-quorum : goal.returns-then-count-quorum
returns-then-count-quorum c = λ plan own h. ack-goes plan c.args.self.now _ own _ c.in-Storing.storing _ c.in-Some.content c.args.reply.now c.count_below-count.result h c.in-Storing.is refl (carries-same plan c.args.self.now _ refl refl h.carries) c.in-Some.is refl
    (sym c.is_same.ensures ∙ c.if-not-is_same.false) c.requires c.mark.ensures (rw c.clouds-n.ensures.value at c.count_below-count.ensures) (λ e. c.if-count-quorum.true (e ∙ sym c.quorum.ensures.value)) c.quiet-then-count-quorum.ensures

pub returns-in_ok-rec-in-Some : goal.returns-in_ok-rec-in-Some
returns-in_ok-rec-in-Some c = λ plan own h.
    ack-ends plan c.args.self.now c.update.new.self own c.in-Storing.storing c.mark.new.self c.in-Some.content c.args.reply.now c.count_below-count.result c.set_below.result c.in_ok-rec-in-Some.rec c.update.result h c.in-Storing.is
    (carries-same plan c.args.self.now _ c.update.ensures.issuer c.update.ensures.content h.carries) c.in-Some.is (sym c.is_same.ensures ∙ c.if-not-is_same.false) c.requires c.mark.ensures
    (rw c.clouds-n.ensures.value at c.count_below-count.ensures) (c.if-count-quorum.false ∙ c.quorum.ensures.value) (rw c.clouds-n.ensures.value at c.set_below.ensures) c.in_ok-rec-in-Some.ensures
    (ok-then c.update.result _ (λ turn is. is ∙ ap (λ (s : List Out). turn_with s None) (update-is plan c.args.self.now c.in_ok-rec-in-Some.rec h.carries)) c.update.ensures.turn) c.update.ensures.state c.update.ensures.err

pub returns-in-None : goal.returns-in-None
returns-in-None c = λ plan own h. absurd (no-content plan c.args.self.now own c.in-Storing.storing h c.in-Storing.is c.in-None.is)
