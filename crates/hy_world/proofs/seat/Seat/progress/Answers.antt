use Rattle.hy_world.proofs.Progressing.{told-running, told-none}
use Rattle.hy_world.proofs.seat.Seat.progress.Goals as goal

pub returns-in-Some : goal.returns-in-Some
returns-in-Some c = λ s is. told-running s c.in-Some.running (c.in-Some.ensures s is.client)

pub returns-in-None : goal.returns-in-None
returns-in-None c = λ s is. told-none s (c.in-None.ensures s is.client)
