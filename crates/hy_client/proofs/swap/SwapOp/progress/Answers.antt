use Rattle.hy_client.proofs.Swaps.{open-told}
use Rattle.hy_client.proofs.swap.SwapOp.progress.Goals as goal

pub returns-in-None : goal.returns-in-None
returns-in-None c = λ plan expected own h. open-told plan expected c.args.self.now own c.put_progress.result h c.in-None.is c.put_progress.ensures
