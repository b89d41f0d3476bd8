-- A client as a function of what it was asked, and of what its last operation was handed since.
use Rattle.std.specs.Prelude.{ℕ, ◌+◌, Bool, true, false, ◌&&◌, ◌||◌, ◌==◌, not, List, [], ◌∷◌, Option, Some, None, is_some, if◌then◌else◌}
use Rattle.hy_record.specs.declared.action.Action.{Action}
use Rattle.hy_record.specs.declared.action.Reply.{Reply}
use Rattle.hy_record.specs.declared.turn.Cue.{Cue}
use Rattle.hy_record.specs.declared.turn.Out.{Out}
use Rattle.hy_record.specs.declared.turn.Turn.{Turn}
use Rattle.hy_protocol.specs.Inputs.{addresses}
use Rattle.hy_protocol.specs.Operations.{key_of, sends_of, replied}
use Rattle.hy_protocol.specs.Progress.{Progress, progress_of}

-- a client in a store of a shape: how many operations it began, what the last one was asked and what it took, and whether the client has stopped
pub record Session : Type 0 where
  pub f : ℕ
  pub k : ℕ
  pub client : ℕ
  pub begun : ℕ
  pub action : Option Action
  pub inputs : List Cue
  pub stopped : Bool

-- a client that was asked nothing
abbrev pub fresh_session : ℕ → ℕ → ℕ → Session
fresh_session f k client = record { f = f; k = k; client = client; begun = 0; action = None; inputs = []; stopped = false }

-- the reply of an operation of it to these inputs
abbrev pub reply_by : Session → List Cue → Option Action → Option Reply
reply_by s inputs None = None
reply_by s inputs (Some action) = replied s.f s.k s.client s.begun action inputs

-- none of its operations awaits anything, and it can begin one
unfoldable pub is_idle : Session → Bool
is_idle s = not s.stopped && ((s.begun == 0) || is_some (reply_by s s.inputs s.action))

-- it began an operation, and the last one has no reply
unfoldable pub is_running : Session → Bool
is_running s = not (s.begun == 0) && not (is_some (reply_by s s.inputs s.action))

abbrev pub takes_by : Session → Cue → Option Action → Bool
takes_by s cue None = false
takes_by s cue (Some action) = not s.stopped && not (is_some (replied s.f s.k s.client s.begun action s.inputs)) && addresses s.client s.begun (key_of action) cue

-- its last operation awaits the input
unfoldable pub takes : Session → Cue → Bool
takes s cue = takes_by s cue s.action

-- the client after an input
unfoldable pub session_after : Session → Cue → Session
session_after s cue = if takes s cue then record s { inputs = cue ∷ s.inputs } else s

abbrev pub sends_by : Session → List Cue → Option Action → List Out
sends_by s inputs None = []
sends_by s inputs (Some action) = sends_of s.f s.k s.client s.begun action inputs

-- what it sends at an input
unfoldable pub turn_sends : Session → Cue → List Out
turn_sends s cue = if takes s cue then sends_by s (cue ∷ s.inputs) s.action else []

-- what it replies at an input
unfoldable pub turn_reply : Session → Cue → Option Reply
turn_reply s cue = if takes s cue then reply_by s (cue ∷ s.inputs) s.action else None

-- what it does at an input
unfoldable pub session_turn : Session → Cue → Turn
session_turn s cue = record { sends = turn_sends s cue; reply = turn_reply s cue }

-- the client after an action that it began
unfoldable pub session_invoked : Session → Action → Session
session_invoked s action = record s { begun = s.begun + 1; action = Some action; inputs = [] }

-- what it sends then
unfoldable pub invoked_sends : Session → Action → List Out
invoked_sends s action = sends_of s.f s.k s.client (s.begun + 1) action []

-- the client after a crash
unfoldable pub session_stopped : Session → Session
session_stopped s = record s { stopped = true }

abbrev pub progress_by : Session → Option Action → Option Progress
progress_by s None = None
progress_by s (Some action) = Some (progress_of s.f s.k s.client s.begun action s.inputs)

-- how far its operation is that has no reply
unfoldable pub session_progress : Session → Option Progress
session_progress s = if is_running s then progress_by s s.action else None
