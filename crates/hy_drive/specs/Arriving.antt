-- What arrives at a client over a net, and what it does.
use Rattle.std.specs.Prelude.{◌≡◌, ◌==◌, ℕ, suc, Bool, true, false, List, [], ◌∷◌, ◌++◌, Option, Some, None}
use Rattle.hy_base.specs.declared.arrival.Arrived.{Arrived}
use Rattle.hy_base.specs.declared.arrival.Arrived.TheVariants.{Opened, Bytes, Closed, Quiet}
use Rattle.hy_record.specs.declared.cloud.CloudSay.TheVariants.{Bad}
use Rattle.hy_record.specs.declared.turn.Cue.TheVariants.{Tick}
use Rattle.hy_protocol.specs.Session.{Session}
use Rattle.hy_drive.specs.State.{DriveState, Service, undialled, dialled, live, over, judging, Waiting, with_line, answer_to, IsIdle}

-- the connection is that to the service
abbrev pub is_service : Service → ℕ → Bool
is_service undialled conn = false
is_service (dialled c) conn = false
is_service (live c rest place) conn = c == conn
is_service over conn = false

-- the service's stream goes on
abbrev pub longer : Service → List ℕ → Service
longer undialled piece = undialled
longer (dialled conn) piece = dialled conn
longer (live conn rest place) piece = live conn (rest ++ piece) place
longer over piece = over

-- the bytes go on the service's stream, or they are a cloud's and are to be judged; those of a
-- connection that does not count do nothing
abbrev pub fed : DriveState → ℕ → List ℕ → Bool → Option Waiting → DriveState
fed state conn piece true line = record state { service = longer state.service piece }
fed state conn piece false (Some waiting) =
    record (with_line state conn (Some (record {
      ask = waiting.ask;
      bytes = waiting.bytes ++ piece;
    }))) { pending = judging conn }
fed state conn piece false None = state

-- the service takes and gives nothing more; a cloud that closed before its answer was whole has
-- one that could not be had
abbrev pub closed : DriveState → ℕ → Bool → Option Waiting → DriveState
closed state conn true line = record state { service = over }
closed state conn false (Some waiting) =
    record (with_line state conn None) { inputs = answer_to waiting.ask (Bad 0) ∷ [] }
closed state conn false None = state

-- a timeout; there is none before Joined
abbrev pub timed_out : DriveState → Option Session → DriveState
timed_out state None = state
timed_out state (Some s) = record state { inputs = Tick ∷ [] }

abbrev pub drive_took : DriveState → Arrived → DriveState
drive_took state (Opened conn) = state
drive_took state (Bytes conn piece) =
    fed state conn piece (is_service state.service conn) (state.lines conn)
drive_took state (Closed conn) =
    closed state conn (is_service state.service conn) (state.lines conn)
drive_took state Quiet = timed_out state state.client

-- an arrival is taken when nothing else is to be done and one is left to take
pub record DriveTakes (before : DriveState) (a : Arrived) (after : DriveState) : Type 0 where
  pub idle : IsIdle before
  pub left : ℕ
  pub one : before.left ≡ suc left
  pub is : after ≡ drive_took (record before { left = left }) a
