use Rattle.std.proofs.Common.{◌≡◌, ◌+◌, []}
use Rattle.hy_world.specs.Schedules.{params_of, steps_of}
use Rattle.hy_world.specs.World.{StandsForSteps, events_taken}
use Rattle.hy_make.specs.Making.{made_store, draft_of}
use Rattle.hy_make.proofs.making.summary_over.Given as goal

abbrev pub invariant-loop : goal.invariant-loop
invariant-loop g l =
    record {
      taken : events_taken l.world ≡ l.counter + 4;
      stands : StandsForSteps g.M.Meta.served g.M.Meta.given (params_of made_store) (steps_of (params_of made_store) (draft_of l.seed l.counter).events []) l.world;
      drawer : (draft_of l.seed l.counter).drawer ≡ l.drawer;
    }
