use Rattle.hy_sched.proofs.ScheduleLaws.{schedule_again}
use Rattle.hy_sched.proofs.laws.schedules_are_read_back.Goals as goal

pub returns : goal.returns
returns c = schedule_again
