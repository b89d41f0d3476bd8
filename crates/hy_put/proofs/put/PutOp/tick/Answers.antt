use Rattle.std.proofs.Common.{List, ◌∷◌, [], None, refl, ◌∙◌, ap}
use Rattle.hy_record.specs.declared.turn.Out.{Out}
use Rattle.hy_record.specs.declared.message.MetaAsk.TheVariants as asks
use Rattle.hy_record.specs.declared.turn.Out.TheVariants as outs
use Rattle.hy_record.specs.Record.{RecordValue}
use Rattle.hy_put.proofs.Further.{turn_with}
use Rattle.hy_put.proofs.ByContent.{read-is, update-is, storing-sends}
use Rattle.hy_put.proofs.ByState.{reading-goes, updating-goes, replied-goes, storing-quiet}
use Rattle.hy_put.proofs.put.PutOp.tick.Goals as goal

pub returns-in_ok-sends-in-Reading : goal.returns-in_ok-sends-in-Reading
returns-in_ok-sends-in-Reading c = λ plan own h. reading-goes plan c.args.self.now _ own _ _ h c.in-Reading.is c.in-Reading.is h.carries refl
    (c.sending.ensures ∙ ap (λ (s : List Out). turn_with s None) (c.in_ok-sends-in-Reading.ensures.items ∙ ap (λ (o : Out). o ∷ []) c.read.ensures ∙ read-is plan c.args.self.now h.carries))

pub returns-in_ok-sends-in-Storing : goal.returns-in_ok-sends-in-Storing
returns-in_ok-sends-in-Storing c = λ plan own h. storing-quiet plan c.args.self.now _ own _ _ c.in-Storing.storing h c.in-Storing.is c.in-Storing.is h.carries (λ i. refl)
    (λ held i. c.sending-in-Storing.ensures ∙ ap (λ (s : List Out). turn_with s None) (storing-sends plan c.args.self.now own c.in-Storing.storing c.in_ok-sends-in-Storing.sends.items h.carries i c.in_ok-sends-in-Storing.ensures))

pub returns-in_ok-sends-in-Updating : goal.returns-in_ok-sends-in-Updating
returns-in_ok-sends-in-Updating c = λ plan own h. updating-goes plan c.args.self.now _ own _ _ c.in-Updating.rec h c.in-Updating.is c.in-Updating.is h.carries refl
    (c.sending-in-Updating.ensures ∙ ap (λ (s : List Out). turn_with s None) (c.in_ok-sends-in-Updating.ensures.items ∙ ap (λ (o : Out). o ∷ []) c.update.ensures
    ∙ ap (λ (r : RecordValue). outs.Meta (asks.Update c.args.self.now.issuer.client c.args.self.now.issuer.op c.args.self.now.issuer.key r) ∷ []) c.in_ok-rec-in-Updating.ensures ∙ update-is plan c.args.self.now c.in-Updating.rec h.carries))

pub returns-in-Replied : goal.returns-in-Replied
returns-in-Replied c = λ plan own h. replied-goes plan c.args.self.now _ own _ _ c.in-Replied._progress h c.in-Replied.is c.in-Replied.is h.carries c.quiet.ensures
