use Rattle.hy_protocol.specs.Turns.{put_progress}
use Rattle.hy_put.proofs.Told.{progress-reading, progress-storing, progress-updating, progress-replied}
use Rattle.hy_put.proofs.put.PutOp.progress.Goals as goal

pub returns-in-Reading : goal.returns-in-Reading
unfolding put_progress
returns-in-Reading c = λ plan inputs h. progress-reading plan c.args.self.now _ c.awaits_service.result h c.in-Reading.is c.awaits_service.ensures

pub returns-in-Storing : goal.returns-in-Storing
unfolding put_progress
returns-in-Storing c = λ plan inputs h. progress-storing plan c.args.self.now _ c.in-Storing.storing c.storing_progress.result h c.in-Storing.is c.storing_progress.ensures

pub returns-in-Updating : goal.returns-in-Updating
unfolding put_progress
returns-in-Updating c = λ plan inputs h. progress-updating plan c.args.self.now _ c.in-Updating._rec c.awaits_service-in-Updating.result h c.in-Updating.is c.awaits_service-in-Updating.ensures

pub returns-in-Replied : goal.returns-in-Replied
unfolding put_progress
returns-in-Replied c = λ plan inputs h. progress-replied plan c.args.self.now _ c.in-Replied.progress h c.in-Replied.is
