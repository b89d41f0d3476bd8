-- Where a client over a net is.
use Rattle.std.specs.Prelude.{◌≡◌, ◌==◌, ◌+◌, ℕ, List, [], Option, None, if◌then◌else◌}
use Rattle.hy_record.specs.declared.action.Reply.{Reply}
use Rattle.hy_record.specs.declared.cloud.CloudAsk.{CloudAsk}
use Rattle.hy_record.specs.declared.cloud.CloudSay.{CloudSay}
use Rattle.hy_record.specs.declared.turn.Cue.{Cue}
use Rattle.hy_record.specs.declared.turn.Cue.TheVariants.{Cloud}
use Rattle.hy_record.specs.declared.turn.Out.{Out}
use Rattle.hy_mwire.specs.Front.{front_at, partial}
use Rattle.hy_protocol.specs.Session.{Session}

-- the connection to the metadata service: it is not dialled; it is dialled, and Join is due on it;
-- of its stream these bytes are left, from this place on, which no message heard has; or it closed
-- or was faulty, and gives and takes nothing more
pub data Service : Type 0 where
  undialled : Service
  dialled : (conn : ℕ) → Service
  live : (conn : ℕ) → (rest : List ℕ) → (place : ℕ) → Service
  over : Service

-- a connection to a cloud: the request that was sent on it, and what came of its answer
pub record Waiting : Type 0 where
  pub ask : CloudAsk
  pub bytes : List ℕ

-- what is due before all else on a connection to a cloud: that its bytes are judged, its request
-- on one that was just dialled, or its close
pub data Pending : Type 0 where
  nothing : Pending
  judging : (conn : ℕ) → Pending
  asking : (conn : ℕ) → (ask : CloudAsk) → Pending
  closing : (conn : ℕ) → Pending

-- how it ends: it goes on, the operation has its reply, there is no session left, the value has so
-- many bytes, too many, or a call of the connection to the service failed
pub data Outcome : Type 0 where
  going : Outcome
  replied : (reply : Reply) → Outcome
  full : Outcome
  refused : (size : ℕ) → Outcome
  broken : Outcome

-- the arrivals that it is still to take, its connections, the client from its Joined on, the
-- messages that are due to be sent, in order, the inputs that are due to be handed to the client,
-- in order, and how it ends
pub record DriveState : Type 0 where
  pub left : ℕ
  pub service : Service
  pub lines : ℕ → Option Waiting
  pub pending : Pending
  pub client : Option Session
  pub sends : List Out
  pub inputs : List Cue
  pub outcome : Outcome

abbrev pub drive_begun : ℕ → DriveState
drive_begun arrivals = record {
  left = arrivals;
  service = undialled;
  lines = λ conn. None;
  pending = nothing;
  client = None;
  sends = [];
  inputs = [];
  outcome = going;
}

abbrev pub with_line : DriveState → ℕ → Option Waiting → DriveState
with_line state conn line = record state { lines = λ c. if conn == c then line else state.lines c }

-- cloud i is at port clouds + i
abbrev pub cloud_port : ℕ → CloudAsk → ℕ
cloud_port clouds ask = clouds + ask.cloud

-- an answer to the request, as an input of the client
abbrev pub answer_to : CloudAsk → CloudSay → Cue
answer_to ask say = Cloud (record {
  client = ask.client;
  op = ask.op;
  cloud = ask.cloud;
  key = ask.wish.key;
  stamp = ask.wish.stamp;
  say = say;
})

-- nothing is due before all else, and nothing has ended it
pub record IsFree (state : DriveState) : Type 0 where
  pub clear : state.pending ≡ nothing
  pub goes : state.outcome ≡ going

-- nothing is due to be sent or to be handed in
pub record IsSettled (state : DriveState) : Type 0 where
  pub free : IsFree state
  pub sent : state.sends ≡ []
  pub handed : state.inputs ≡ []

-- the service's stream waits for bytes
abbrev pub IsHeard : Service → Type 0
IsHeard undialled = ⊥
IsHeard (dialled conn) = ⊥
IsHeard (live conn rest place) = front_at place rest ≡ partial
IsHeard over = Unit {0}

-- nothing is to be done but to wait
pub record IsIdle (state : DriveState) : Type 0 where
  pub settled : IsSettled state
  pub heard : IsHeard state.service
