use Rattle.hy_trace.specs.Schedule.{trace_of}
use Rattle.hy_world.specs.Schedules.{params_of}
use Rattle.hy_world.proofs.simulation.Simulation.new.Goals as goal

pub returns-clause-stands : goal.returns-clause-stands
unfolding trace_of
returns-clause-stands g c = record { machines_stand = c.in_ok-machines.ensures; log_keeps = c.new-log.ensures (params_of c.args.params) }

pub returns-clause-steps : goal.returns-clause-steps
returns-clause-steps g c = (c.new-log.ensures (params_of c.args.params)).steps_are
