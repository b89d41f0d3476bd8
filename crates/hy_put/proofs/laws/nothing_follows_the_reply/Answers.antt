use Rattle.hy_put.proofs.Turns.{quiet-after}
use Rattle.hy_put.proofs.laws.nothing_follows_the_reply.Goals as goal

pub returns : goal.returns
returns c = λ plan. quiet-after plan
