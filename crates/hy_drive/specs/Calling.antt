-- The calls of a client over a net: which is due, and what its outcome does.
use Rattle.std.specs.Prelude.{◌≡◌, ℕ, Bool, true, false, List, [], ◌∷◌, ◌++◌, Option, Some, None}
use Rattle.hy_base.specs.Moves.{Call, dial, send, close}
use Rattle.hy_record.specs.declared.cloud.CloudAsk.{CloudAsk}
use Rattle.hy_record.specs.declared.cloud.CloudSay.TheVariants.{Bad}
use Rattle.hy_record.specs.declared.message.MetaAsk.{MetaAsk}
use Rattle.hy_record.specs.declared.turn.Out.{Out}
use Rattle.hy_record.specs.declared.turn.Out.TheVariants.{Meta, Cloud}
use Rattle.hy_mwire.specs.declared.message.Message.TheVariants.{Join, Ask}
use Rattle.hy_mwire.specs.Frames.{frame_of}
use Rattle.hy_mwire.specs.Message.{IsMessage}
use Rattle.hy_cwire.specs.Writing.{IsSendable, ask_bytes}
use Rattle.hy_drive.specs.declared.job.Job.{Job}
use Rattle.hy_drive.specs.State.{DriveState, undialled, dialled, live, nothing, asking, closing, going, broken, with_line, cloud_port, answer_to, IsFree}

abbrev pub service_dialled : DriveState → Option ℕ → DriveState
service_dialled state (Some conn) = record state { service = dialled conn }
service_dialled state None = record state { outcome = broken }

abbrev pub join_sent : DriveState → ℕ → Bool → DriveState
join_sent state conn true = record state { service = live conn [] 0 }
join_sent state conn false = record state { outcome = broken }

abbrev pub service_asked : DriveState → List Out → Bool → DriveState
service_asked state later true = record state { sends = later }
service_asked state later false = record state { outcome = broken }

-- a dial that failed is an answer that could not be had, which is handed in when the other
-- messages are sent
abbrev pub cloud_dialled : DriveState → CloudAsk → List Out → Option ℕ → DriveState
cloud_dialled state ask later (Some conn) =
    record state { sends = later; pending = asking conn ask }
cloud_dialled state ask later None =
    record state { sends = later; inputs = state.inputs ++ answer_to ask (Bad 0) ∷ [] }

-- so is a send that failed, and its connection is closed before
abbrev pub cloud_asked : DriveState → ℕ → CloudAsk → Bool → DriveState
cloud_asked state conn ask true =
    record (with_line state conn (Some (record { ask = ask; bytes = [] }))) { pending = nothing }
cloud_asked state conn ask false =
    record state { pending = closing conn; inputs = state.inputs ++ answer_to ask (Bad 0) ∷ [] }

-- the call was the one that was due
pub data DriveCalls (job : Job) : DriveState → Call → DriveState → Type 0 where
  -- first the service is dialled, and is sent Join
  dials_service : (before : DriveState) (number : Option ℕ)
      → IsFree before → before.service ≡ undialled
      → DriveCalls job before (dial job.meta number) (service_dialled before number)
  joins : (before : DriveState) (conn : ℕ) (done : Bool)
      → IsFree before → before.service ≡ dialled conn
      → DriveCalls job before (send conn (frame_of Join) done) (join_sent before conn done)
  -- a message to the service is one frame on its connection
  asks_service : (before : DriveState) (conn : ℕ) (rest : List ℕ) (place : ℕ)
      (ask : MetaAsk) (later : List Out) (done : Bool)
      → IsFree before → before.sends ≡ Meta ask ∷ later → before.service ≡ live conn rest place
      → IsMessage (Ask ask)
      → DriveCalls job before
      (send conn (frame_of (Ask ask)) done)
      (service_asked before later done)
  -- a message to a cloud is one request on a connection of its own
  dials_cloud : (before : DriveState) (ask : CloudAsk) (later : List Out) (number : Option ℕ)
      → IsFree before → before.sends ≡ Cloud ask ∷ later
      → DriveCalls job before
      (dial (cloud_port job.clouds ask) number)
      (cloud_dialled before ask later number)
  asks_cloud : (before : DriveState) (conn : ℕ) (ask : CloudAsk) (done : Bool)
      → before.outcome ≡ going → before.pending ≡ asking conn ask → IsSendable ask.wish
      → DriveCalls job before
      (send conn (ask_bytes ask.wish (cloud_port job.clouds ask)) done)
      (cloud_asked before conn ask done)
  closes : (before : DriveState) (conn : ℕ)
      → before.outcome ≡ going → before.pending ≡ closing conn
      → DriveCalls job before (close conn) (record before { pending = nothing })
