-- What a world stands for.
use Rattle.std.specs.Prelude.{◌≡◌, ℕ, ◌+◌, ◌<◌, ◌^◌, true, List, ◌∷◌, length, Result, IfOk}
use Rattle.hy_base.specs.declared.failure.NoMemory.{NoMemory}
use Rattle.hy_record.specs.declared.message.MetaAsk.{MetaAsk}
use Rattle.hy_trace.specs.declared.step.Step.{Step}
use Rattle.hy_trace.specs.Deeds.{Params, Deed}
use Rattle.hy_trace.specs.Schedule.{trace_of}
use Rattle.hy_trace.specs.Trace.{IsTrace}
use Rattle.hy_log.specs.declared.effects.Effects.{Effects}
use Rattle.hy_log.specs.declared.log.Log.{Log}
use Rattle.hy_world.specs.declared.machines.Machines.{Machines}
use Rattle.hy_world.specs.declared.simulation.Simulation.{Simulation}
use Rattle.hy_world.specs.declared.world.WorldOver.{WorldOver}
use Rattle.hy_log.specs.Effects.{AreEffects}
use Rattle.hy_log.specs.Log.{Keeps}
use Rattle.hy_world.specs.Machines.{MachinesStand}

-- the machines do the deed, where the log keeps the trace
abbrev pub DoesBy : {M : Type 0} → (M → List MetaAsk → Type 0) → (M → ℕ) → Log → (Params → List Deed → Deed) →
    Machines M → Machines M → Result Effects NoMemory → Type 0
DoesBy serves given log deed old new result =
    IfOk result (λ e. (p : Params) (t : List Deed) → IsTrace p t → length t + 1 < 2 ^ 32 → Keeps log p t →
    MachinesStand serves given p t old →
    AreEffects p (deed p t) t e × MachinesStand serves given p (deed p t ∷ t) new)

-- the machines and the log stand for the trace of the steps
pub record ReplaysBy {M : Type 0} (serves : M → List MetaAsk → Type 0) (given : M → ℕ) (p : Params) (steps : List Step) (machines : Machines M) (log : Log) : Type 0 where
  pub machines_stand : MachinesStand serves given p (trace_of p steps) machines
  pub log_keeps : Keeps log p (trace_of p steps)

abbrev pub Replays : {M : Type 0} → (M → List MetaAsk → Type 0) → (M → ℕ) → Params → List Step → Simulation M → Type 0
Replays serves given p steps simulation = ReplaysBy serves given p steps simulation.machines simulation.log

-- they stand for the trace of some steps
abbrev pub ReplaysSome : {M : Type 0} → (M → List MetaAsk → Type 0) → (M → ℕ) → Simulation M → Type 0
ReplaysSome serves given simulation = (p : Params) × (steps : List Step) × Replays serves given p steps simulation

-- the world stands for the trace of the steps, the newest of which comes first
abbrev pub StandsForSteps : {M : Type 0} → (M → List MetaAsk → Type 0) → (M → ℕ) → Params → List Step → WorldOver M →
    Type 0
StandsForSteps serves given p steps world = Replays serves given p steps world.simulation

-- the world stands for the trace of some steps: it has not met want of memory
abbrev pub StandsForSome : {M : Type 0} → (M → List MetaAsk → Type 0) → (M → ℕ) → WorldOver M → Type 0
StandsForSome serves given world = ReplaysSome serves given world.simulation

-- the world met want of memory
abbrev pub IsBroken : {M : Type 0} → WorldOver M → Type 0
IsBroken world = world.is_broken ≡ true

-- how many events the world took
abbrev pub events_taken : {M : Type 0} → WorldOver M → ℕ
events_taken world = world.events
