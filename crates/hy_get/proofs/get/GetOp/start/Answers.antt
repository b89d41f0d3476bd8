use Rattle.std.proofs.Common.{refl}
use Rattle.hy_protocol.specs.Inputs.{inputs_for}
use Rattle.hy_protocol.specs.Read.{read_sends}
use Rattle.hy_protocol.specs.Turns.{own_turn, turn_of, get_turn}
use Rattle.hy_get.proofs.Beginnings.{stands-start}
use Rattle.hy_get.proofs.get.GetOp.start.Goals as goal

pub returns-clause-stands : goal.returns-clause-stands
unfolding inputs_for
returns-clause-stands c = record { issuer = refl; own = stands-start _ refl refl }

pub returns-clause-sends : goal.returns-clause-sends
unfolding get_turn turn_of own_turn read_sends
returns-clause-sends c = c.in_ok-sends.ensures
