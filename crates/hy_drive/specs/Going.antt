-- What a client over a net does between its calls and its arrivals.
use Rattle.std.specs.Prelude.{◌≡◌, ℕ, ◌+◌, ◌-◌, ◌^◌, min, List, [], ◌∷◌, drop, length, nat_lt, Option, Some, None, if◌then◌else◌}
use Rattle.hy_base.specs.declared.limits.TheConstants.{MAX_VALUE}
use Rattle.hy_record.specs.declared.action.Action.{Action}
use Rattle.hy_record.specs.declared.action.Action.TheVariants as asked
use Rattle.hy_record.specs.declared.action.Reply.{Reply}
use Rattle.hy_record.specs.declared.message.MetaAsk.{MetaAsk}
use Rattle.hy_record.specs.declared.turn.Cue.{Cue}
use Rattle.hy_record.specs.declared.turn.Cue.TheVariants as cues
use Rattle.hy_record.specs.declared.turn.Out.{Out}
use Rattle.hy_record.specs.declared.turn.Out.TheVariants as outs
use Rattle.hy_record.specs.declared.turn.Turn.{Turn}
use Rattle.hy_mwire.specs.declared.fault.FrameFault.{FrameFault}
use Rattle.hy_mwire.specs.declared.message.Message.{Message}
use Rattle.hy_mwire.specs.declared.message.Message.TheVariants.{Join, Joined, Full, Ask, Say}
use Rattle.hy_mwire.specs.Front.{front_at, message, fault}
use Rattle.hy_protocol.specs.Session.{Session, fresh_session, session_after, session_turn, session_invoked, invoked_sends}
use Rattle.hy_drive.specs.declared.job.Job.{Job}
use Rattle.hy_record.specs.declared.cloud.CloudSay.{CloudSay}
use Rattle.hy_drive.specs.State.{DriveState, Waiting, live, over, judging, replied, full, refused, IsFree, IsSettled}
use Rattle.hy_drive.specs.Judging.{kind_of, ComesTo, judged}

-- the size of a value that is too large to be put
abbrev pub too_large : Action → Option ℕ
too_large (asked.Put key value) =
    if nat_lt MAX_VALUE (length value) then Some (length value) else None
too_large (asked.Get key) = None
too_large (asked.Delete key) = None
too_large (asked.Collect key) = None
too_large (asked.Swap key expected value) =
    if nat_lt MAX_VALUE (length value) then Some (length value) else None

-- the client's turn: its messages are due to be sent, or it has its reply
abbrev pub turned_by : DriveState → List Out → Option Reply → DriveState
turned_by state sends None = record state { sends = sends }
turned_by state sends (Some reply) = record state { outcome = replied reply }

abbrev pub turned : DriveState → Turn → DriveState
turned state turn = turned_by state turn.sends turn.reply

-- the first input that is due is handed to the client, if there is one
abbrev pub handed : DriveState → Option Session → Cue → List Cue → DriveState
handed state (Some s) input later =
    turned
    (record state { client = Some (session_after s input); inputs = later })
    (session_turn s input)
handed state None input later = record state { inputs = later }

-- the client begins the action
abbrev pub invoked_by : Job → DriveState → Session → Option ℕ → DriveState
invoked_by job state s None = record state {
  client = Some (session_invoked s job.action);
  sends = invoked_sends s job.action;
}
invoked_by job state s (Some size) = record state { outcome = refused size }

abbrev pub invoked : Job → DriveState → ℕ → DriveState
invoked job state number =
    invoked_by job state (fresh_session job.f job.k number) (too_large job.action)

-- before its Joined the client waits for it, or for Full, and after it for answers; all else does
-- nothing
abbrev pub told_by : Job → DriveState → Option Session → Message → DriveState
told_by job state None (Joined number) = invoked job state number
told_by job state None Full = record state { outcome = full }
told_by job state None Join = state
told_by job state None (Ask ask) = state
told_by job state None (Say say) = state
told_by job state (Some s) (Say say) = record state { inputs = cues.Meta say ∷ [] }
told_by job state (Some s) (Joined number) = state
told_by job state (Some s) Full = state
told_by job state (Some s) Join = state
told_by job state (Some s) (Ask ask) = state

-- the stream behind the message in front of it, whose frame has so many bytes
abbrev pub passed : DriveState → ℕ → List ℕ → ℕ → ℕ → DriveState
passed state conn rest place size =
    record state { service = live conn (drop size rest) (min (place + size) (2 ^ 64 - 1)) }

pub data DriveGoes (job : Job) : DriveState → DriveState → Type 0 where
  -- what a cloud's bytes come to is judged as they come
  judges : (before : DriveState) (conn : ℕ) (waiting : Waiting) (answer : Option CloudSay)
      → before.pending ≡ judging conn
      → before.lines conn ≡ Some waiting
      → ComesTo (kind_of waiting.ask.wish.act) waiting.bytes answer
      → DriveGoes job before (judged before conn waiting answer)
  -- an input is handed in when all messages are sent
  hands : (before : DriveState) (input : Cue) (later : List Cue)
      → IsFree before → before.sends ≡ [] → before.inputs ≡ input ∷ later
      → DriveGoes job before (handed before before.client input later)
  -- a message is heard when all inputs are handed in
  hears : (before : DriveState) (conn : ℕ) (rest : List ℕ) (place : ℕ) (said : Message) (size : ℕ)
      → IsSettled before
      → before.service ≡ live conn rest place
      → front_at place rest ≡ message said size
      → DriveGoes job before (told_by job (passed before conn rest place size) before.client said)
  -- so is a fault of the stream
  breaks : (before : DriveState) (conn : ℕ) (rest : List ℕ) (place : ℕ) (wrong : FrameFault)
      → IsSettled before → before.service ≡ live conn rest place → front_at place rest ≡ fault wrong
      → DriveGoes job before (record before { service = over })
  -- a message to a service that takes nothing more is not sent
  skips : (before : DriveState) (ask : MetaAsk) (later : List Out)
      → IsFree before → before.sends ≡ outs.Meta ask ∷ later → before.service ≡ over
      → DriveGoes job before (record before { sends = later })
