use Rattle.std.proofs.Common.{◌≡◌, take, []}
use Rattle.hy_world.specs.Schedules.{params_of, steps_of}
use Rattle.hy_world.specs.World.{StandsForSteps, events_taken}
use Rattle.hy_make.specs.Making.{made_store, opening}
use Rattle.hy_make.proofs.making.opened_world.Given as goal

abbrev pub invariant-loop : goal.invariant-loop
invariant-loop g l =
    record {
      taken : events_taken l.world ≡ l.counter;
      stands : StandsForSteps g.M.Meta.served g.M.Meta.given (params_of made_store) (steps_of (params_of made_store) (take l.counter opening) []) l.world;
    }
