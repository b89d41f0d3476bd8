use Rattle.hy_protocol.specs.Turns.{get_rounds}
use Rattle.hy_get.proofs.get.GetOp.rounds.Goals as goal

pub returns : goal.returns
unfolding get_rounds
returns c = λ plan inputs h. h.own.rounds
