-- A trace: what each step did, the newest first; and what it tells of clients, the metadata service and clouds.
use Rattle.std.specs.Prelude.{ℕ, ◌+◌, Bool, false, ◌&&◌, ◌==◌, not, nat_le, List, [], ◌∷◌, Option, Some, None, if◌then◌else◌}
use Rattle.std.specs.List.{list_any}
use Rattle.std.specs.Option.{option_or}
use Rattle.hy_record.specs.declared.action.Action.{Action}
use Rattle.hy_record.specs.declared.action.Reply.{Reply}
use Rattle.hy_record.specs.declared.message.MetaAsk.{MetaAsk}
use Rattle.hy_record.specs.declared.turn.Cue.{Cue}
use Rattle.hy_record.specs.declared.cloud.CloudAsk.{CloudAsk}
use Rattle.hy_record.specs.declared.cloud.Wish.{Wish}
use Rattle.hy_protocol.specs.Operations.{replied}

-- the shape of the store, and its Byzantine clouds
pub record Params : Type 0 where
  pub f : ℕ
  pub k : ℕ
  pub is_liar : ℕ → Bool

-- what a step did
pub data Deed : Type 0 where
  -- the next client joined
  Joined : Deed
  -- a client began its operation of this number
  Began : (client op : ℕ) (action : Action) → Deed
  -- a client's operation took an input, which was made at this step; 0 for a timeout and for a Byzantine answer
  Handed : (client op made : ℕ) (cue : Cue) → Deed
  -- the metadata service served a request
  Served : (ask : MetaAsk) → Deed
  -- an honest cloud served a request
  Granted : (ask : CloudAsk) → Deed
  -- a client crashed
  Stopped : (client : ℕ) → Deed
  -- the step had no effect
  Nothing : Deed

-- the requests that the service served, the newest first
unfoldable pub served : List Deed → List MetaAsk
served [] = []
served (Served ask ∷ before) = ask ∷ served before
served (Joined ∷ before) = served before
served (Began c o a ∷ before) = served before
served (Handed c o made cue ∷ before) = served before
served (Granted ask ∷ before) = served before
served (Stopped c ∷ before) = served before
served (Nothing ∷ before) = served before

-- the requests that this cloud served, the newest first
unfoldable pub granted : ℕ → List Deed → List Wish
granted cloud [] = []
granted cloud (Granted ask ∷ before) = if ask.cloud == cloud then ask.wish ∷ granted cloud before else granted cloud before
granted cloud (Served ask ∷ before) = granted cloud before
granted cloud (Joined ∷ before) = granted cloud before
granted cloud (Began c o a ∷ before) = granted cloud before
granted cloud (Handed c o made cue ∷ before) = granted cloud before
granted cloud (Stopped c ∷ before) = granted cloud before
granted cloud (Nothing ∷ before) = granted cloud before

-- the inputs that this operation took, the newest first
unfoldable pub inputs_of : ℕ → ℕ → List Deed → List Cue
inputs_of client op [] = []
inputs_of client op (Handed c o made cue ∷ before) =
    if c == client && o == op then cue ∷ inputs_of client op before else inputs_of client op before
inputs_of client op (Served ask ∷ before) = inputs_of client op before
inputs_of client op (Joined ∷ before) = inputs_of client op before
inputs_of client op (Began c o a ∷ before) = inputs_of client op before
inputs_of client op (Granted ask ∷ before) = inputs_of client op before
inputs_of client op (Stopped c ∷ before) = inputs_of client op before
inputs_of client op (Nothing ∷ before) = inputs_of client op before

-- the beginning of an operation: what was asked, and what had been done before
pub record Start : Type 0 where
  pub action : Action
  pub before : List Deed

-- the beginning of this operation, where the deed is that
abbrev pub start_at : ℕ → ℕ → Deed → List Deed → Option Start
start_at client op (Began c o a) before = if c == client && o == op then Some (record { action = a; before = before }) else None
start_at client op (Handed c o made cue) before = None
start_at client op (Served ask) before = None
start_at client op Joined before = None
start_at client op (Granted ask) before = None
start_at client op (Stopped c) before = None
start_at client op Nothing before = None

-- the beginning of this operation
unfoldable pub start_of : ℕ → ℕ → List Deed → Option Start
start_of client op [] = None
start_of client op (deed ∷ before) = option_or (start_of client op before) (start_at client op deed before)

-- the reply to these inputs, where the operation began
abbrev pub reply_after : Params → ℕ → ℕ → List Cue → Option Start → Option Reply
reply_after p client op inputs None = None
reply_after p client op inputs (Some start) = replied p.f p.k client op start.action inputs

-- the reply of this operation
unfoldable pub reply_of : Params → ℕ → ℕ → List Deed → Option Reply
reply_of p client op trace = reply_after p client op (inputs_of client op trace) (start_of client op trace)

-- how many operations the client began
unfoldable pub begun : ℕ → List Deed → ℕ
begun client [] = 0
begun client (Began c o a ∷ before) = if c == client then begun client before + 1 else begun client before
begun client (Joined ∷ before) = begun client before
begun client (Handed c o made cue ∷ before) = begun client before
begun client (Served ask ∷ before) = begun client before
begun client (Granted ask ∷ before) = begun client before
begun client (Stopped c ∷ before) = begun client before
begun client (Nothing ∷ before) = begun client before

-- how many clients joined
unfoldable pub joined : List Deed → ℕ
joined [] = 0
joined (Joined ∷ before) = joined before + 1
joined (Began c o a ∷ before) = joined before
joined (Handed c o made cue ∷ before) = joined before
joined (Served ask ∷ before) = joined before
joined (Granted ask ∷ before) = joined before
joined (Stopped c ∷ before) = joined before
joined (Nothing ∷ before) = joined before

-- the client crashes at the deed
abbrev pub stops : ℕ → Deed → Bool
stops client (Stopped c) = c == client
stops client (Began c o a) = false
stops client Joined = false
stops client (Handed c o made cue) = false
stops client (Served ask) = false
stops client (Granted ask) = false
stops client Nothing = false

-- the client joined; clients are numbered from 1 in the order in which they join
abbrev pub is_joined : ℕ → List Deed → Bool
is_joined client trace = nat_le 1 client && nat_le client (joined trace)

-- the client joined and has not crashed
unfoldable pub is_up : ℕ → List Deed → Bool
is_up client trace = is_joined client trace && not (list_any (stops client) trace)
