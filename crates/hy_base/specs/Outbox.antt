-- What was done on a net in memory, and for how much there is room.
use Rattle.std.specs.Prelude.{◌≡◌, ◌≤◌, ◌-◌, ℕ, Bool, false, not, nat_lt, nat_le, ◌&&◌, List, [], length, vec_len, vec_capacity}
use Rattle.std.specs.Global.{Vec}
use Rattle.hy_base.specs.declared.net_call.NetCall.{NetCall}
use Rattle.hy_base.specs.declared.pieces.Run.{Run}
use Rattle.hy_base.specs.declared.pieces.Pieces.{Pieces}
use Rattle.hy_base.specs.Pieces.{total, bytes_in}

-- the calls, the oldest first, the bytes that were sent, cut into the runs of connections, the room for each, and whether it did not suffice
pub record Done : Type 0 where
  pub calls : List NetCall
  pub bytes : List ℕ
  pub runs : List Run
  pub room : ℕ
  pub overrun : Bool

-- the bytes that were sent on the connection
abbrev pub bytes_on : Done → ℕ → List ℕ
bytes_on done conn = bytes_in done.runs done.bytes conn

abbrev pub fresh_outbox : ℕ → Done
fresh_outbox room = record { calls = []; bytes = []; runs = []; room = room; overrun = false }

-- a call that sends so many bytes can be kept
abbrev pub has_room : Done → ℕ → Bool
has_room done size = not done.overrun && nat_lt (length done.calls) done.room && nat_le size (done.room - length done.bytes)

-- memory for what there is room for was taken before
pub record IsReserved (calls : Vec NetCall) (pieces : Pieces) (room : ℕ) : Type 0 where
  pub calls_fit : vec_len calls ≤ room
  pub bytes_fit : length pieces.bytes.items ≤ room
  pub runs_fit : vec_len pieces.runs ≤ vec_len calls
  pub room_for_calls : room ≤ vec_capacity calls
  pub room_for_bytes : room ≤ vec_capacity pieces.bytes
  pub room_for_runs : room ≤ vec_capacity pieces.runs
  pub cut : total pieces.runs.items ≡ length pieces.bytes.items
