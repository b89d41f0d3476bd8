-- A client stands for a session.
use Rattle.std.specs.Prelude.{◌≡◌, ℕ, ◌<◌, not, Option, Some, None, if◌then◌else◌}
use Rattle.std.specs.Option.{option_map}
use Rattle.hy_record.specs.declared.action.Action.{Action}
use Rattle.hy_protocol.specs.Operations.{suits}
use Rattle.hy_protocol.specs.Session.{Session, is_running, session_progress}
use Rattle.hy_client.specs.Sizes.{size_refusal}
use Rattle.hy_client.specs.Machines.{Task, Continues}
use Rattle.hy_client.specs.declared.fault.InvokeFault.{InvokeFault}
use Rattle.hy_client.specs.declared.fault.InvokeFault.TheVariants as faults
use Rattle.hy_client.specs.declared.last.Last.{Last}
use Rattle.hy_client.specs.declared.client.Running.{Running}
use Rattle.hy_client.specs.declared.client.Client.{Client}

-- the last operation of the session
abbrev pub task_of : Session → Action → Task
task_of s action = record { f = s.f; k = s.k; client = s.client; op = s.begun; action = action }

-- the session began an operation with this action last, and this is what the client keeps of it
pub record IsLast (s : Session) (last : Last) (action : Action) : Type 0 where
  pub some : 0 < s.begun
  pub continues : Continues (task_of s action) last s.inputs

abbrev pub HasLast : Session → Option Last → Option Action → Type 0
HasLast s None None = s.begun ≡ 0
HasLast s (Some last) (Some action) = IsLast s last action
HasLast s None (Some action) = ⊥
HasLast s (Some last) None = ⊥

-- the client stands for the session
pub record StandsForSession (client : Client) (s : Session) : Type 0 where
  pub id : client.cid ≡ s.client
  pub faults : client.f ≡ s.f
  pub parts : client.k ≡ s.k
  pub begun : client.begun ≡ s.begun
  pub stopped : client.stopped ≡ s.stopped
  pub last : HasLast s client.last s.action

-- how many operations the client began
abbrev pub begun_of : Client → ℕ
begun_of client = client.begun

-- why the session does not begin the action, if it does not
abbrev pub invoke_refusal : Session → Action → Option InvokeFault
invoke_refusal s action =
    if s.stopped then Some faults.Stopped
    else if is_running s then Some (faults.Busy s.begun)
    else if not (suits action) then Some faults.WrongKey
    else size_refusal action

-- the operation of the session that has no reply, and how far it is
abbrev pub running_of : Session → Option Running
running_of s = option_map (λ progress. record { op = s.begun; phase = progress.phase; have = progress.have; need = progress.need }) (session_progress s)
