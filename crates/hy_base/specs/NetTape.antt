-- A net in memory: what it stands for, and which of its calls fail.
use Rattle.std.specs.Prelude.{◌≡◌, ◌<◌, ◌⊎◌, ℕ, false, not, List, [], ◌∷◌, ◌++◌, length}
use Rattle.hy_base.specs.declared.net_call.NetCall.{NetCall}
use Rattle.hy_base.specs.declared.net_call.NetCall.TheVariants.{Listen, Dial, Send, Close}
use Rattle.hy_base.specs.declared.arrival.Arrived.{Arrived}
use Rattle.hy_base.specs.declared.net_tape.NetTape.{NetTape}
use Rattle.hy_base.specs.Faults.{FailsNext, next_count}
use Rattle.hy_base.specs.Moves.{Move, Call, arrived, called, listen, dial, send, close, bytes_sent, sent_by, is_dialled}
use Rattle.hy_base.specs.Outbox.{bytes_on, fresh_outbox, has_room}
use Rattle.hy_base.specs.Script.{Leaves, rest_of}

abbrev pub kept : Call → NetCall
kept (listen port done) = Listen port done
kept (dial port number) = Dial port number
kept (send conn piece done) = Send conn (length piece) done
kept (close conn) = Close conn

-- the calls of the moves, the oldest first
unfoldable pub calls_of : List Move → List NetCall
calls_of [] = []
calls_of (called call ∷ before) = calls_of before ++ kept call ∷ []
calls_of (arrived a ∷ before) = calls_of before

-- there was room for all that was done
abbrev pub IsTold : NetTape → Type 0
IsTold tape = tape.outbox.overrun ≡ false

-- the script, the calls and the bytes of each connection are those of the moves, and dialled numbers go up
pub record TellsTape (tape : NetTape) (moves : List Move) : Type 0 where
  pub script : Leaves tape.script.all.items moves (rest_of tape.script)
  pub calls : tape.outbox.calls ≡ calls_of moves
  pub sent : (conn : ℕ) → bytes_on tape.outbox conn ≡ bytes_sent conn moves
  pub fresh : (conn : ℕ) → tape.dialled < conn → is_dialled conn moves ≡ false

-- a tape of this script before its first call, with room for so many calls and so many bytes, on which the calls of these numbers fail
pub record IsFresh (script : List Arrived) (room : ℕ) (failing : List ℕ) (tape : NetTape) : Type 0 where
  pub stands : TellsTape tape []
  pub told : IsTold tape
  pub rest : rest_of tape.script ≡ script
  pub reserved : tape.outbox ≡ fresh_outbox room
  pub numbers : tape.calls.failing.items ≡ failing
  pub first : tape.calls.made ≡ 0
  pub taking : tape.taking_faults ≡ 0
  pub sending : tape.sending_faults ≡ 0

-- the number of the next call says that it fails
abbrev pub FailsByNumber : NetTape → Type 0
FailsByNumber tape = FailsNext tape.calls.failing.items tape.calls.made

-- the next call, which sends so many bytes, fails: by its number, or since there is no room
abbrev pub FailsCall : NetTape → ℕ → Type 0
FailsCall tape size = FailsByNumber tape ⊎ (has_room tape.outbox size ≡ false)

-- the call was added to what the tape keeps, where there was room for it
pub record AddsCall (old new : NetTape) (call : Call) : Type 0 where
  pub was : IsTold old
  pub script : new.script ≡ old.script
  pub calls : new.outbox.calls ≡ old.outbox.calls ++ kept call ∷ []
  pub sent : (conn : ℕ) → bytes_on new.outbox conn ≡ bytes_on old.outbox conn ++ sent_by conn call
  pub dialled : (conn : ℕ) → new.dialled < conn → (old.dialled < conn) × (is_dialled conn (called call ∷ []) ≡ false)

-- what a call that sends so many bytes leaves: what is to come is as before, and the tape tells on exactly where it told and there was room
pub record LeavesTape (old new : NetTape) (size : ℕ) : Type 0 where
  pub script : new.script ≡ old.script
  pub room : new.outbox.room ≡ old.outbox.room
  pub told : new.outbox.overrun ≡ not (has_room old.outbox size)

-- the call took the next number, and the same numbers fail from now on
pub record TakesNumber (old new : NetTape) : Type 0 where
  pub made : new.calls.made ≡ next_count old.calls.made
  pub failing : new.calls.failing ≡ old.calls.failing
