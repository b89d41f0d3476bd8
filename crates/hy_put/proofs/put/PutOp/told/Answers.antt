use Rattle.std.proofs.Common.{refl}
use Rattle.hy_put.proofs.ByState.{updating-goes, replied-goes, storing-quiet}
use Rattle.hy_put.proofs.put.PutOp.told.Goals as goal

pub returns-in-Storing : goal.returns-in-Storing
returns-in-Storing c = record { takes = λ client op key plan own h. storing-quiet plan c.args.self.now _ own _ _ c.in-Storing._known h c.in-Storing.is c.in-Storing.is h.carries (λ i. refl) (λ held i. c.quiet.ensures) }

pub returns-in-Updating : goal.returns-in-Updating
returns-in-Updating c = record { takes = λ client op key plan own h. updating-goes plan c.args.self.now _ own _ _ c.in-Updating._known h c.in-Updating.is c.in-Updating.is h.carries refl c.quiet-in-Updating.ensures }

pub returns-in-Replied : goal.returns-in-Replied
returns-in-Replied c = record { takes = λ client op key plan own h. replied-goes plan c.args.self.now _ own _ _ c.in-Replied._known h c.in-Replied.is c.in-Replied.is h.carries c.quiet-in-Replied.ensures }
