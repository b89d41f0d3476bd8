-- What a get keeps stands for the inputs that it was handed.
use Rattle.std.specs.Prelude.{◌≡◌, Bool, true, false, min, List, [], ◌∷◌, Option, Some, None, is_some, Result, MatchResult, if◌then◌else◌}
use Rattle.hy_base.specs.declared.failure.NoMemory.{NoMemory}
use Rattle.hy_record.specs.declared.action.Reply.{Reply}
use Rattle.hy_record.specs.declared.turn.Cue.{Cue}
use Rattle.hy_record.specs.declared.turn.Turn.{Turn}
use Rattle.hy_record.specs.Stamp.{stamp_lt}
use Rattle.hy_record.specs.Record.{RecordValue}
use Rattle.hy_meta.specs.Service.{stamp_of_record}
use Rattle.hy_protocol.specs.declared.plan.GetPlan.{GetPlan}
use Rattle.hy_protocol.specs.Inputs.{inputs_for}
use Rattle.hy_protocol.specs.Read.{version_of, read_sends, read_reply, answer_for, first_gets, refresh_count}
use Rattle.hy_protocol.specs.Progress.{read_progress, version_progress}
use Rattle.hy_protocol.specs.Turns.{own_turn, settled_progress}
use Rattle.hy_operation.specs.declared.progress.Progress.{Progress}
use Rattle.hy_operation.specs.Progress.{Tells}
use Rattle.hy_get.specs.declared.fetch.Fetch.{Fetch}
use Rattle.hy_get.specs.declared.get.State.{State}
use Rattle.hy_get.specs.declared.get.State.TheVariants.{Reading, Fetching, Replied}
use Rattle.hy_get.specs.declared.get.GetOp.{GetOp}
use Rattle.hy_get.specs.Requests.{plan_of}
use Rattle.hy_get.specs.Fetching.{Awaits}

-- a get that was told no record
pub record IsReading (inputs : List Cue) : Type 0 where
  pub version : version_of inputs ≡ None
  pub reply : read_reply inputs ≡ None

-- a get that follows a record, and has no reply
pub record IsFetching (fetch : Fetch) (inputs : List Cue) : Type 0 where
  pub since : List Cue
  pub version : version_of inputs ≡ Some (record { rec = Some fetch.rec; since = since })
  pub awaits : Awaits fetch since
  pub reply : read_reply inputs ≡ None

-- a get that has its reply, and was so far then
pub record IsReplied (progress : Progress) (inputs : List Cue) : Type 0 where
  pub reply : is_some (read_reply inputs) ≡ true
  pub told : Tells progress (settled_progress read_reply read_progress inputs)

-- what the get awaits is what it awaits after these inputs
abbrev pub StandsAt : State → List Cue → Type 0
StandsAt Reading inputs = IsReading inputs
StandsAt (Fetching fetch) inputs = IsFetching fetch inputs
StandsAt (Replied progress) inputs = IsReplied progress inputs

-- the get stands for these inputs, all of which are for it
pub record StandsForOwn (get : GetOp) (inputs : List Cue) : Type 0 where
  pub state : StandsAt get.state inputs
  pub rounds : get.rounds ≡ min (refresh_count inputs) 4294967295

-- those of the inputs that are for the get of this plan
abbrev pub own_inputs : GetPlan → List Cue → List Cue
own_inputs plan inputs = inputs_for plan.client plan.op plan.key inputs

-- the get of this plan stands for these inputs, which are all that it was handed
pub record StandsForInputs (plan : GetPlan) (get : GetOp) (inputs : List Cue) : Type 0 where
  pub issuer : plan_of get.issuer ≡ plan
  pub own : StandsForOwn get (own_inputs plan inputs)

-- at an input that is for the get, it does what is to be done after any inputs that it stands for
pub record Does (plan : GetPlan) (inputs : List Cue) (cue : Cue) (turn : Turn) (after : GetOp) : Type 0 where
  pub done : turn ≡ own_turn (read_sends plan) read_reply (cue ∷ inputs)
  pub stands : StandsForOwn after (cue ∷ inputs)

-- a step at such an input
abbrev pub Takes : GetOp → GetOp → Cue → Result Turn NoMemory → Type 0
Takes old new cue result = (inputs : List Cue) → StandsForOwn old inputs → MatchResult result (λ turn. Does (plan_of old.issuer) inputs cue turn new) (λ _. StandsForOwn new inputs)

-- the record is above the one that is followed, or none is followed yet
abbrev pub is_newer : State → Option RecordValue → Bool
is_newer Reading rec = true
is_newer (Fetching fetch) rec = stamp_lt fetch.rec.stamp (stamp_of_record rec)
is_newer (Replied progress) rec = false

-- a record that was just read: the reply is there, or its value is fetched
abbrev pub IsBegun : Option Reply → Option RecordValue → State → Type 0
IsBegun (Some reply) rec after = (progress : Progress) × (after ≡ Replied progress) × Tells progress (version_progress rec [])
IsBegun None None after = ⊥
IsBegun None (Some r) after = (fetch : Fetch) × (after ≡ Fetching fetch) × (fetch.rec ≡ r) × Awaits fetch []

-- what is done where this record was just read
pub record Begins (plan : GetPlan) (rec : Option RecordValue) (turn : Turn) (after : State) : Type 0 where
  pub done : turn ≡ record { sends = (if is_some (answer_for rec []) then [] else first_gets plan rec); reply = answer_for rec [] }
  pub state : IsBegun (answer_for rec []) rec after
