-- What a client over a net keeps of the state that it is in.
use Rattle.std.specs.Prelude.{◌≡◌, ◌≤◌, ℕ, false, All, Option, Some, None}
use Rattle.hy_record.specs.declared.turn.Out.{Out}
use Rattle.hy_record.specs.declared.turn.Out.TheVariants.{Meta, Cloud}
use Rattle.hy_cwire.specs.Writing.{IsSendableAct}
use Rattle.hy_mwire.specs.Message.{IsFramedAsk}
use Rattle.hy_client.specs.Sizes.{is_swap}
use Rattle.hy_protocol.specs.Session.{Session}
use Rattle.hy_client.specs.declared.client.Client.{Client}
use Rattle.hy_client.specs.Clients.{StandsForSession}
use Rattle.hy_drive.specs.declared.driver.Driver.{Driver}
use Rattle.hy_drive.specs.declared.job.Job.{Job}
use Rattle.hy_drive.specs.State.{DriveState, Service, IsFree, IsIdle}
use Rattle.hy_drive.specs.Going.{too_large}
use Rattle.hy_drive.specs.Held.{HoldsService, HoldsLine, line_at}

-- the client runs the job's action
pub record Runs (job : Job) (client : Client) (s : Session) : Type 0 where
  pub stands : StandsForSession client s
  pub faults : s.f ≡ job.f
  pub parts : s.k ≡ job.k
  pub action : s.action ≡ Some job.action
  pub fits : too_large job.action ≡ None
  pub no_swap : is_swap job.action ≡ false

abbrev pub HoldsClient : Job → Option Client → Option Session → Type 0
HoldsClient job None None = Unit {0}
HoldsClient job (Some client) (Some s) = Runs job client s
HoldsClient job None (Some s) = ⊥
HoldsClient job (Some client) None = ⊥

-- a message that can be sent: to the service one that has a frame, to a cloud that can be there, and a put of no more than a value
abbrev pub IsSendableOut : Out → Type 0
IsSendableOut (Meta ask) = IsFramedAsk ask
IsSendableOut (Cloud ask) = (ask.cloud ≤ 15) × IsSendableAct ask.wish.act

-- it is in this state, but for what is due before all else, and for how it ends
pub record StandsFor (job : Job) (driver : Driver) (state : DriveState) : Type 0 where
  pub service : HoldsService driver.service state.service
  pub lines : (conn : ℕ) → HoldsLine (line_at driver.lines conn) (state.lines conn)
  pub client : HoldsClient job driver.client state.client
  pub sends : state.sends ≡ driver.sends.items
  pub inputs : state.inputs ≡ driver.inputs.items
  pub sendable : All IsSendableOut driver.sends.items

-- it is in some state in which nothing is due before all else
pub record IsSome (job : Job) (driver : Driver) : Type 0 where
  pub state : DriveState
  pub free : IsFree state
  pub stands : StandsFor job driver state

-- it waits in some state
pub record IsResting (job : Job) (driver : Driver) : Type 0 where
  pub state : DriveState
  pub idle : IsIdle state
  pub stands : StandsFor job driver state

-- the connection to the service stands for some stream
pub record IsHeld (driver : Driver) : Type 0 where
  pub service : Service
  pub holds : HoldsService driver.service service
