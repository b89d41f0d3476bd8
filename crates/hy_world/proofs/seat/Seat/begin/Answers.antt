use Rattle.hy_world.proofs.Seated.{begun-idle, busy-idle, sits-invoked, sits-same}
use Rattle.hy_world.proofs.seat.Seat.begin.Goals as goal

pub returns-in-Ok-clause-idle : goal.returns-in-Ok-clause-idle
returns-in-Ok-clause-idle c = λ s is. begun-idle s c.args.action.now c.in-Ok.outs (c.in-Ok.ensures.refused s is.client)

pub returns-in-Ok-clause-begins : goal.returns-in-Ok-clause-begins
returns-in-Ok-clause-begins c = λ s is. sits-invoked c.args.self.now c.invoke.new.self s c.args.action.now c.key_of.result c.key_of.ensures is (c.in-Ok.ensures.ok s is.client)

pub returns-in_ok-check-in-Err-clause-idle : goal.returns-in_ok-check-in-Err-clause-idle
returns-in_ok-check-in-Err-clause-idle c = λ s is. busy-idle s c.args.action.now c.in-Err.fault c.requires.size c.in_ok-check-in-Err.ensures (c.in-Err.ensures.accepted s is.client)

pub returns-in_ok-check-in-Err-clause-begins : goal.returns-in_ok-check-in-Err-clause-begins
returns-in_ok-check-in-Err-clause-begins c = λ s is. sits-same c.args.self.now c.invoke.new.self s is (c.in-Err.ensures.err s is.client)
