use Rattle.hy_world.proofs.Seated.{sits-after}
use Rattle.hy_world.proofs.seat.Seat.hand.Goals as goal

pub returns-clause-ok : goal.returns-clause-ok
returns-clause-ok c = λ s is. sits-after c.args.self.now c.step.new.self s c.args.cue.now is (c.in_ok-turn.ensures.ok s is.client)
