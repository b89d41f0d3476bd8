use Rattle.std.proofs.Common.{refl, false, None}
use Rattle.hy_world.specs.declared.seat.Seat.{Seat}
use Rattle.hy_world.proofs.nodes.Nodes.add.Goals as goal

pub returns-clause-seats : goal.returns-clause-seats
returns-clause-seats c =
    let seat : Seat = record { client = c.new-client.result; number = c.args.number; is_stopped = false; key = None } in
    (seat, record { client = c.new-client.ensures.stands; number = refl; stopped = refl; key = refl; asked = refl }, c.in_ok-add_seat.ensures)
