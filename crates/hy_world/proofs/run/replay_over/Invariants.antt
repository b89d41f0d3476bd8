use Rattle.std.proofs.Common.{◌≡◌, take, []}
use Rattle.hy_world.specs.Schedules.{params_of, steps_of}
use Rattle.hy_world.specs.World.{StandsForSteps, events_taken}
use Rattle.hy_world.proofs.run.replay_over.Given as goal

abbrev pub invariant-loop-event : goal.invariant-loop-event
invariant-loop-event g l =
    record {
      taken : events_taken l.world ≡ l.event-index;
      stands : StandsForSteps g.M.Meta.served g.M.Meta.given (params_of l.schedule.params) (steps_of (params_of l.schedule.params) (take l.event-index l.schedule.events) []) l.world;
    }
