-- What the machines of the simulator stand for, after a trace.
use Rattle.std.specs.Prelude.{◌≡◌, ℕ, ◌+◌, ◌<◌, ◌^◌, List, ◌∷◌, length, Option, None, Result, IfOk}
use Rattle.hy_base.specs.declared.failure.NoMemory.{NoMemory}
use Rattle.hy_record.specs.declared.message.MetaAsk.{MetaAsk}
use Rattle.hy_record.specs.declared.message.MetaAsk.TheVariants as asks
use Rattle.hy_trace.specs.Deeds.{Params, Deed, served, joined}
use Rattle.hy_trace.specs.Trace.{IsTrace}
use Rattle.hy_world.specs.declared.nodes.Nodes.{Nodes}
use Rattle.hy_world.specs.declared.machines.Machines.{Machines}
use Rattle.hy_log.specs.declared.effects.Effects.{Effects}
use Rattle.hy_log.specs.declared.effects.Updated.{Updated}
use Rattle.hy_log.specs.Effects.{updated_by, AreEffects}
use Rattle.hy_world.specs.Nodes.{NodesStand}

-- the service stands for the requests that it served, and clients and clouds for the trace
pub record MachinesRun {M : Type 0} (serves : M → List MetaAsk → Type 0) (given : M → ℕ) (p : Params) (t : List Deed) (service : M) (nodes : Nodes) : Type 0 where
  pub serving : serves service (served t)
  pub given_is : given service ≡ joined t
  pub nodes_stand : NodesStand p t nodes

abbrev pub MachinesStand : {M : Type 0} → (M → List MetaAsk → Type 0) → (M → ℕ) → Params → List Deed → Machines M →
    Type 0
MachinesStand serves given p t machines = MachinesRun serves given p t machines.service machines.nodes

-- the machines do the deed, in a trace with room for one more
abbrev pub MachinesDo : {M : Type 0} → (M → List MetaAsk → Type 0) → (M → ℕ) → (Params → List Deed → Deed) →
    Machines M → Machines M → Result Effects NoMemory → Type 0
MachinesDo serves given deed old new result =
    IfOk result (λ e. (p : Params) (t : List Deed) → IsTrace p t → length t + 1 < 2 ^ 32 →
    MachinesStand serves given p t old →
    AreEffects p (deed p t) t e × MachinesStand serves given p (deed p t ∷ t) new)

-- the update that the service serves by this request
abbrev pub plain_update : MetaAsk → List MetaAsk → Option Updated
plain_update (asks.Update c o k r) before = updated_by (asks.Update c o k r) before
plain_update (asks.Swap c o k expected r) before = None
plain_update (asks.Read c o k) before = None
plain_update (asks.Watch c o k stamp) before = None
plain_update (asks.Olds c o k) before = None
plain_update (asks.Forget c o k stamps) before = None
