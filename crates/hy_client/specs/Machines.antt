-- The machine of an operation, whichever it is.
use Rattle.std.specs.Prelude.{◌≡◌, ℕ, Bool, ◌&&◌, not, List, ◌∷◌, Some, None, is_some, if◌then◌else◌}
use Rattle.hy_record.specs.declared.action.Action.{Action}
use Rattle.hy_record.specs.declared.action.Action.TheVariants as asked
use Rattle.hy_record.specs.declared.turn.Cue.{Cue}
use Rattle.hy_record.specs.declared.turn.Turn.{Turn}
use Rattle.hy_protocol.specs.Inputs.{addresses, inputs_for}
use Rattle.hy_protocol.specs.Operations.{key_of, write_plan, read_plan, collect_plan, sends_of, replied}
use Rattle.hy_protocol.specs.Progress.{Progress}
use Rattle.hy_protocol.specs.Turns.{quiet_turn, put_turn, swap_turn, get_turn, collect_turn, put_progress, swap_progress, get_progress, collect_progress_of}
use Rattle.hy_put.specs.Standing as puts
use Rattle.hy_get.specs.Standing as gets
use Rattle.hy_client.specs.Collecting as collections
use Rattle.hy_client.specs.Swapping as swaps
use Rattle.hy_client.specs.declared.machine.Machine.{Machine}
use Rattle.hy_client.specs.declared.machine.Machine.TheVariants as machines
use Rattle.hy_client.specs.declared.last.Last.{Last}

-- an operation: in a store of which shape, of which client, its number, and what was asked
pub record Task : Type 0 where
  pub f : ℕ
  pub k : ℕ
  pub client : ℕ
  pub op : ℕ
  pub action : Action

abbrev pub turn_by : ℕ → ℕ → ℕ → ℕ → Action → List Cue → Turn
turn_by f k client op (asked.Put key value) inputs = put_turn (write_plan f k client op key (Some value)) inputs
turn_by f k client op (asked.Delete key) inputs = put_turn (write_plan f k client op key None) inputs
turn_by f k client op (asked.Get key) inputs = get_turn (read_plan client op key) inputs
turn_by f k client op (asked.Collect key) inputs = collect_turn (collect_plan f k client op key) inputs
turn_by f k client op (asked.Swap key expected value) inputs = swap_turn (write_plan f k client op key (Some value)) expected inputs

-- what the operation does at the last of the inputs that it was handed
abbrev pub task_turn : Task → List Cue → Turn
task_turn task inputs = turn_by task.f task.k task.client task.op task.action inputs

abbrev pub progress_by : ℕ → ℕ → ℕ → ℕ → Action → List Cue → Progress
progress_by f k client op (asked.Put key value) inputs = put_progress (write_plan f k client op key (Some value)) inputs
progress_by f k client op (asked.Delete key) inputs = put_progress (write_plan f k client op key None) inputs
progress_by f k client op (asked.Get key) inputs = get_progress (read_plan client op key) inputs
progress_by f k client op (asked.Collect key) inputs = collect_progress_of (collect_plan f k client op key) inputs
progress_by f k client op (asked.Swap key expected value) inputs = swap_progress (write_plan f k client op key (Some value)) expected inputs

-- how far the operation is
abbrev pub task_progress : Task → List Cue → Progress
task_progress task inputs = progress_by task.f task.k task.client task.op task.action inputs

abbrev pub RunsBy : ℕ → ℕ → ℕ → ℕ → Action → Machine → List Cue → Type 0
RunsBy f k client op (asked.Put key value) (machines.Put put) inputs = puts.StandsForInputs (write_plan f k client op key (Some value)) put inputs
RunsBy f k client op (asked.Delete key) (machines.Put put) inputs = puts.StandsForInputs (write_plan f k client op key None) put inputs
RunsBy f k client op (asked.Get key) (machines.Get get) inputs = gets.StandsForInputs (read_plan client op key) get inputs
RunsBy f k client op (asked.Collect key) (machines.Collect collect) inputs = collections.StandsForInputs (collect_plan f k client op key) collect inputs
RunsBy f k client op (asked.Swap key expected value) (machines.Swap swap) inputs = swaps.StandsForInputs (write_plan f k client op key (Some value)) expected swap inputs
RunsBy f k client op action machine inputs = ⊥

-- the machine is that of the operation, and stands for these inputs
abbrev pub Runs : Task → Machine → List Cue → Type 0
Runs task machine inputs = RunsBy task.f task.k task.client task.op task.action machine inputs

-- the operation was handed these inputs, all of which are for it
pub record Continues (task : Task) (last : Last) (inputs : List Cue) : Type 0 where
  pub key : last.key ≡ key_of task.action
  pub own : inputs_for task.client task.op (key_of task.action) inputs ≡ inputs
  pub replied : last.replied ≡ is_some (replied task.f task.k task.client task.op task.action inputs)
  pub runs : Runs task last.machine inputs

-- the operation awaits the input
abbrev pub awaits : Task → List Cue → Cue → Bool
awaits task inputs cue = not (is_some (replied task.f task.k task.client task.op task.action inputs)) && addresses task.client task.op (key_of task.action) cue

-- the inputs that it was handed, after one that its client was handed
abbrev pub taken_inputs : Task → List Cue → Cue → List Cue
taken_inputs task inputs cue = if awaits task inputs cue then cue ∷ inputs else inputs

-- what it does at an input that its client was handed
abbrev pub taken_turn : Task → List Cue → Cue → Turn
taken_turn task inputs cue =
    if awaits task inputs cue
    then record { sends = sends_of task.f task.k task.client task.op task.action (cue ∷ inputs); reply = replied task.f task.k task.client task.op task.action (cue ∷ inputs) }
    else quiet_turn
