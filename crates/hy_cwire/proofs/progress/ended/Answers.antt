use Rattle.hy_cwire.proofs.Stages.{body-cut}
use Rattle.hy_cwire.proofs.progress.ended.Goals as goal

pub returns-then-have-want-clause-stands : goal.returns-then-have-want-clause-stands
returns-then-have-want-clause-stands g c = λ bytes at. body-cut g.H.Head.comes_to g.H.Head.size bytes c.args.progress c.in-Body.head c.in-Body.body c.get-have.result.now c.body_size-want.result c.in-Body.is c.get-have.ensures c.body_size-want.ensures at c.if-have-want.true
