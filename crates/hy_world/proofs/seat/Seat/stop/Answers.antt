use Rattle.hy_world.proofs.Seated.{sits-stopped}
use Rattle.hy_world.proofs.seat.Seat.stop.Goals as goal

pub returns : goal.returns
returns c = λ s is. sits-stopped c.args.self.now c.stop.new.self s is (c.stop.ensures.stopped s is.client)
