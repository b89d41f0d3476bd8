use Rattle.std.proofs.Common.{◌≡◌, ◌+◌, List}
use Rattle.hy_trace.specs.declared.step.Step.{Step}
use Rattle.hy_trace.specs.declared.step.TheConstants.{MAX_GIVES}
use Rattle.hy_trace.specs.Deeds.{Params}
use Rattle.hy_world.specs.Nodes.{HasBegun}
use Rattle.hy_world.specs.World.{Replays}
use Rattle.hy_world.proofs.Doing.{IsGiving}
use Rattle.hy_world.proofs.simulation.Simulation.take_gives.Given as goal

abbrev pub invariant-loop-i : goal.invariant-loop-i
invariant-loop-i g l =
    record {
      count : l.self.log.steps ≡ l.fn.self.log.steps + l.i;
      stands : (p : Params) (before : List Step) → HasBegun p l.client before → Replays g.M.Meta.served g.M.Meta.given p before l.fn.self → IsGiving g.M.Meta.served g.M.Meta.given p before MAX_GIVES l.client l.first l.i l.self;
    }
