use Rattle.hy_mwire.proofs.Framed.{answer-framed}
use Rattle.hy_mwire.proofs.laws.no_swap_is_read.Goals as goal

pub returns : goal.returns
returns c = answer-framed
