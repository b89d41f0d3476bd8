use Rattle.hy_get.proofs.Shown.{tells-reading, tells-fetching, tells-replied}
use Rattle.hy_get.proofs.get.GetOp.progress.Goals as goal

pub returns-in-Reading : goal.returns-in-Reading
returns-in-Reading c = λ plan inputs h. tells-reading plan c.args.self.now inputs h c.in-Reading.is

pub returns-in-Fetching : goal.returns-in-Fetching
returns-in-Fetching c = λ plan inputs h. tells-fetching plan c.args.self.now inputs h c.in-Fetching.fetch c.progress.result c.in-Fetching.is c.progress.ensures

pub returns-in-Replied : goal.returns-in-Replied
returns-in-Replied c = λ plan inputs h. tells-replied plan c.args.self.now inputs h c.in-Replied.progress c.in-Replied.is
