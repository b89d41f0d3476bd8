use Rattle.hy_put.proofs.Turns.{sent-update}
use Rattle.hy_put.proofs.laws.updates_list_those_that_acknowledged.Goals as goal

pub returns : goal.returns
returns c = λ plan. sent-update plan
