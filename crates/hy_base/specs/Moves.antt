-- What happened over a net, the newest first: what arrived, and each call with its outcome.
use Rattle.std.specs.Prelude.{◌≤◌, ◌==◌, ℕ, Bool, true, false, List, [], ◌∷◌, ◌++◌, Option, Some, None, take, if◌then◌else◌}
use Rattle.hy_base.specs.declared.arrival.Arrival.{Arrival}
use Rattle.hy_base.specs.declared.arrival.Arrival.TheVariants as got
use Rattle.hy_base.specs.declared.arrival.Arrived.{Arrived}
use Rattle.hy_base.specs.declared.arrival.Arrived.TheVariants.{Opened, Bytes, Closed, Quiet}

-- a call without its outcome
pub data Request : Type 0 where
  to_listen : (port : ℕ) → Request
  to_dial : (port : ℕ) → Request
  to_send : (conn : ℕ) → (piece : List ℕ) → Request
  to_close : (conn : ℕ) → Request

-- a call with its outcome: whether it was done, or the number that was dialled
pub data Call : Type 0 where
  listen : (port : ℕ) → (done : Bool) → Call
  dial : (port : ℕ) → (number : Option ℕ) → Call
  send : (conn : ℕ) → (piece : List ℕ) → (done : Bool) → Call
  close : (conn : ℕ) → Call

pub data Move : Type 0 where
  arrived : Arrived → Move
  called : Call → Move

abbrev pub request_of : Call → Request
request_of (listen port done) = to_listen port
request_of (dial port number) = to_dial port
request_of (send conn piece done) = to_send conn piece
request_of (close conn) = to_close conn

-- an arrival with the bytes that stand in the buffer
abbrev pub came : Arrival → List ℕ → Arrived
came (got.Opened conn) buf = Opened conn
came (got.Bytes conn count) buf = Bytes conn (take count buf)
came (got.Closed conn) buf = Closed conn
came got.Quiet buf = Quiet

-- the bytes that came are in the buffer
abbrev pub InBuffer : ℕ → Arrival → Type 0
InBuffer room (got.Opened conn) = Unit {0}
InBuffer room (got.Bytes conn count) = count ≤ room
InBuffer room (got.Closed conn) = Unit {0}
InBuffer room got.Quiet = Unit {0}

abbrev pub sent_by : ℕ → Call → List ℕ
sent_by conn (listen port done) = []
sent_by conn (dial port number) = []
sent_by conn (send c piece true) = if c == conn then piece else []
sent_by conn (send c piece false) = []
sent_by conn (close c) = []

-- the bytes of the sends on the connection that were done
unfoldable pub bytes_sent : ℕ → List Move → List ℕ
bytes_sent conn [] = []
bytes_sent conn (called call ∷ before) = bytes_sent conn before ++ sent_by conn call
bytes_sent conn (arrived a ∷ before) = bytes_sent conn before

-- a dial answered this number
unfoldable pub is_dialled : ℕ → List Move → Bool
is_dialled conn [] = false
is_dialled conn (called (dial port (Some number)) ∷ before) = if number == conn then true else is_dialled conn before
is_dialled conn (called (dial port None) ∷ before) = is_dialled conn before
is_dialled conn (called (listen port done) ∷ before) = is_dialled conn before
is_dialled conn (called (send c piece done) ∷ before) = is_dialled conn before
is_dialled conn (called (close c) ∷ before) = is_dialled conn before
is_dialled conn (arrived a ∷ before) = is_dialled conn before
