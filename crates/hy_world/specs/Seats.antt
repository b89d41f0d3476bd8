-- What is known of a client of the simulator.
use Rattle.std.specs.Prelude.{◌≡◌, ℕ, ◌==◌, Bool, true, false, not, length, Option, None, is_some, if◌then◌else◌}
use Rattle.std.specs.Option.{option_map}
use Rattle.hy_record.specs.declared.action.Action.{Action}
use Rattle.hy_record.specs.declared.action.Action.TheVariants as asked
use Rattle.hy_record.specs.declared.turn.Cue.{Cue}
use Rattle.hy_protocol.specs.Inputs.{has_of}
use Rattle.hy_protocol.specs.Operations.{key_of}
use Rattle.hy_protocol.specs.Session.{Session, takes}
use Rattle.hy_client.specs.declared.fault.InvokeFault.{InvokeFault}
use Rattle.hy_client.specs.declared.fault.InvokeFault.TheVariants as faults
use Rattle.hy_world.specs.declared.seat.Seat.{Seat}
use Rattle.hy_log.specs.declared.effects.Heard.{Heard}
use Rattle.hy_client.specs.Clients.{StandsForSession, begun_of}
use Rattle.hy_log.specs.Effects.{heard_with}

-- the client stands for the session, and what is known of it beside is the session's
pub record StandsForSeat (seat : Seat) (s : Session) : Type 0 where
  pub client : StandsForSession seat.client s
  pub number : s.client ≡ seat.number
  pub stopped : s.stopped ≡ seat.is_stopped
  pub key : option_map key_of s.action ≡ seat.key
  pub asked : is_some s.action ≡ not (s.begun == 0)

-- how many operations the client began
abbrev pub begun_at : Seat → ℕ
begun_at seat = begun_of seat.client

-- the bytes of the value of a put or a swap
abbrev pub value_size : Action → ℕ
value_size (asked.Put key value) = length value
value_size (asked.Get key) = 0
value_size (asked.Delete key) = 0
value_size (asked.Collect key) = 0
value_size (asked.Swap key expected value) = length value

-- the fault is want of memory
abbrev pub is_no_memory : InvokeFault → Bool
is_no_memory faults.NoMemory = true
is_no_memory faults.Stopped = false
is_no_memory (faults.Busy op) = false
is_no_memory (faults.TooLarge size) = false
is_no_memory faults.WrongKey = false

-- what the client's operation of this number is told of the record by an input, if it takes it
abbrev pub heard_by : Session → ℕ → ℕ → ℕ → Cue → Option Heard
heard_by s client op made cue = if takes s cue then heard_with client op made (has_of cue) else None
