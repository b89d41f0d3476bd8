use Rattle.std.proofs.Common.{◌-◌, length}
use Rattle.hy_journal.specs.Keeper.{IsReplayedTo}
use Rattle.hy_journal.proofs.replay.replay.Given as goal

abbrev pub invariant-loop-state : goal.invariant-loop-state
invariant-loop-state l = record { so_far : IsReplayedTo l.bytes l.state }

abbrev pub decreases-loop-state : goal.decreases-loop-state
decreases-loop-state l = length l.bytes - l.state.end
