-- The client's side of the protocol over a net: how it plays, and why it ends.
use Rattle.std.specs.Prelude.{◌≡◌, ℕ, true, false, suc, List, Option, Some, None, Result, Err, IfOk, IsErrOf, ◌⊎◌}
use Rattle.hy_base.specs.Moves.{Move}
use Rattle.hy_record.specs.declared.action.Action.{Action}
use Rattle.hy_record.specs.declared.action.Action.TheVariants as asked
use Rattle.hy_record.specs.declared.action.Reply.{Reply}
use Rattle.hy_record.specs.declared.action.Reply.TheVariants as told
use Rattle.hy_protocol.specs.Operations.{suits}
use Rattle.hy_client.specs.Sizes.{is_swap}
use Rattle.hy_protocol.specs.Progress.{Progress}
use Rattle.hy_protocol.specs.Session.{Session, session_progress}
use Rattle.hy_serve.specs.Course.{Leads}
use Rattle.hy_drive.specs.declared.fault.DriveFault.{DriveFault}
use Rattle.hy_drive.specs.declared.fault.DriveFault.TheVariants.{NetFault, SessionsFull, TooLarge, NotYet}
use Rattle.hy_drive.specs.declared.job.Job.{Job}
use Rattle.hy_drive.specs.State.{DriveState, drive_begun, replied, full, refused, broken, IsIdle}
use Rattle.hy_drive.specs.Calling.{DriveCalls}
use Rattle.hy_drive.specs.Arriving.{DriveTakes}
use Rattle.hy_drive.specs.Going.{DriveGoes}

-- these moves of a client led from one state to another
abbrev pub DriveLeads : Job → DriveState → List Move → DriveState → Type 0
DriveLeads job start moves state =
    Leads start (DriveCalls job) DriveTakes (DriveGoes job) moves state

-- it waits for an arrival that it is to take
pub record WantsMore (state : DriveState) : Type 0 where
  pub idle : IsIdle state
  pub left : ℕ
  pub more : state.left ≡ suc left

-- so much is had, and so much needed, of what is awaited
pub record Count : Type 0 where
  pub have : ℕ
  pub need : ℕ

abbrev pub count_of : Option Progress → Count
count_of (Some progress) = record { have = progress.have; need = progress.need }
count_of None = record { have = 0; need = 1 }

-- before its Joined the client awaits that
abbrev pub count_at : Option Session → Count
count_at (Some s) = count_of (session_progress s)
count_at None = record { have = 0; need = 1 }

-- it took all that it was to take, did what was due, and has no reply
pub record IsUnreplied (state : DriveState) (have need : ℕ) : Type 0 where
  pub idle : IsIdle state
  pub none : state.left ≡ 0
  pub count : count_at state.client ≡ record { have = have; need = need }

-- it waits for an arrival that it is to take, and none could be taken, which is what `Cut` says
pub record IsCut (Cut : Type 0) (state : DriveState) : Type 0 where
  pub waits : WantsMore state
  pub cut : Cut

-- why it ended in this state; `Cut` says that no arrival could be taken
pub record Ends (Cut : Type 0) (state : DriveState) (result : Result Reply DriveFault) : Type 0 where
  pub ok : IfOk result (λ reply. state.outcome ≡ replied reply)
  pub fault : IsErrOf result NetFault → (state.outcome ≡ broken) ⊎ IsCut Cut state
  pub sessions : IsErrOf result SessionsFull → state.outcome ≡ full
  pub large : (size : ℕ) → result ≡ Err (TooLarge size) → state.outcome ≡ refused size
  pub not_yet : (have need : ℕ) → result ≡ Err (NotYet have need) → IsUnreplied state have need

-- how it played from a state on, and why it ended
pub record DrivesOn (job : Job) (start : DriveState)
    (Cut : Type 0)
    (result : Result Reply DriveFault)
    (moves : List Move) : Type 0 where
  pub state : DriveState
  pub course : DriveLeads job start moves state
  pub ends : Ends Cut state result

-- how a client that is to take so many arrivals played, and why it ended
abbrev pub Drives : Job → ℕ → Type 0 → Result Reply DriveFault → List Move → Type 0
Drives job arrivals Cut result moves = DrivesOn job (drive_begun arrivals) Cut result moves

-- frames can carry what the action asks of the service, and its key is of its kind
pub record IsDrivable (action : Action) : Type 0 where
  pub no_swap : is_swap action ≡ false
  pub key : suits action ≡ true

-- the reply is one of the action
abbrev pub Suits : Action → Reply → Type 0
Suits (asked.Put key value) (told.Done stamp) = Unit {0}
Suits (asked.Put key value) (told.Exhausted stamp) = Unit {0}
Suits (asked.Delete key) (told.Done stamp) = Unit {0}
Suits (asked.Delete key) (told.Exhausted stamp) = Unit {0}
Suits (asked.Get key) (told.Value value stamp) = Unit {0}
Suits (asked.Get key) (told.Absent stamp) = Unit {0}
Suits (asked.Collect key) (told.Collected count) = Unit {0}
Suits action reply = ⊥
