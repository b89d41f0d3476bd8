-- A put stands for the inputs that it was handed, the newest first.
use Rattle.std.specs.Prelude.{◌≡◌, ℕ, ◌<◌, true, List, ◌∷◌, length, Option, Some, None, is_some, Result, MatchResult}
use Rattle.std.specs.List.{list_any}
use Rattle.hy_base.specs.declared.failure.NoMemory.{NoMemory}
use Rattle.hy_base.specs.Shape.{quorum_size}
use Rattle.hy_record.specs.Record.{RecordValue}
use Rattle.hy_record.specs.declared.turn.Cue.{Cue}
use Rattle.hy_record.specs.declared.turn.Turn.{Turn}
use Rattle.hy_protocol.specs.declared.plan.PutPlan.{PutPlan}
use Rattle.hy_protocol.specs.Inputs.{is_answer, is_stored, inputs_for}
use Rattle.hy_protocol.specs.Write.{first_has, since_has, stamp_upon, acknowledging_clouds, update_of, write_reply, write_sends}
use Rattle.hy_protocol.specs.Progress.{write_progress}
use Rattle.hy_protocol.specs.Turns.{own_turn, settled_progress}
use Rattle.hy_operation.specs.declared.issuer.Issuer.{Issuer}
use Rattle.hy_operation.specs.declared.progress.Progress.{Progress}
use Rattle.hy_operation.specs.Marks.{is_marked}
use Rattle.hy_operation.specs.Progress.{Tells}
use Rattle.hy_put.specs.declared.state.Storing.{Storing}
use Rattle.hy_put.specs.declared.state.State.{State}
use Rattle.hy_put.specs.declared.state.State.TheVariants as at
use Rattle.hy_put.specs.declared.put.PutOp.{PutOp}
use Rattle.hy_put.specs.Contents.{CarriesValue}

-- who asks, by the plan
abbrev pub issuer_of : PutPlan → Issuer
issuer_of plan = record { client = plan.client; op = plan.op; key = plan.key }

-- the put is of this plan
pub record Carries (plan : PutPlan) (put : PutOp) : Type 0 where
  pub issuer : put.issuer ≡ issuer_of plan
  pub value : CarriesValue plan.f plan.k plan.value put.content

-- no record was told
pub record IsReading (plan : PutPlan) (own : List Cue) : Type 0 where
  pub has : first_has own ≡ None
  pub update : update_of plan own ≡ None
  pub reply : write_reply plan own ≡ None

-- a record was told, and fewer clouds than a quorum have acknowledged
pub record IsStoring (plan : PutPlan) (storing : Storing) (own : List Cue) : Type 0 where
  pub value : is_some plan.value ≡ true
  pub held : Option RecordValue
  pub has : first_has own ≡ Some held
  pub stamp : stamp_upon plan.client held ≡ Some storing.stamp
  pub acked : (cloud : ℕ) → cloud < 16 → is_marked storing.acked cloud ≡ list_any (is_answer is_stored storing.stamp cloud) (since_has own)
  pub few : length (acknowledging_clouds plan storing.stamp own) < quorum_size plan.f plan.k
  pub update : update_of plan own ≡ None
  pub reply : write_reply plan own ≡ None

-- the update to this record was sent
pub record IsUpdating (plan : PutPlan) (rec : RecordValue) (own : List Cue) : Type 0 where
  pub held : Option RecordValue
  pub has : first_has own ≡ Some held
  pub stamp : is_some (stamp_upon plan.client held) ≡ true
  pub update : update_of plan own ≡ Some rec
  pub reply : write_reply plan own ≡ None

-- what is told is how far the put of this plan is
abbrev pub TellsPut : PutPlan → List Cue → Progress → Type 0
TellsPut plan own progress = Tells progress (settled_progress (write_reply plan) (write_progress plan) own)

-- the reply was given, when the put was so far
pub record HasReplied (plan : PutPlan) (progress : Progress) (own : List Cue) : Type 0 where
  pub reply : is_some (write_reply plan own) ≡ true
  pub told : TellsPut plan own progress

abbrev pub StandsAt : PutPlan → State → List Cue → Type 0
StandsAt plan at.Reading own = IsReading plan own
StandsAt plan (at.Storing storing) own = IsStoring plan storing own
StandsAt plan (at.Updating rec) own = IsUpdating plan rec own
StandsAt plan (at.Replied progress) own = HasReplied plan progress own

-- the put of this plan stands for these inputs, all of which are for it
pub record StandsForOwn (plan : PutPlan) (put : PutOp) (own : List Cue) : Type 0 where
  pub carries : Carries plan put
  pub state : StandsAt plan put.state own

-- the put of this plan stands for these inputs
abbrev pub StandsForInputs : PutPlan → PutOp → List Cue → Type 0
StandsForInputs plan put inputs = StandsForOwn plan put (inputs_for plan.client plan.op plan.key inputs)

-- what a put does at an input that is for it
pub record Does (plan : PutPlan) (own : List Cue) (cue : Cue) (turn : Turn) (after : PutOp) : Type 0 where
  pub does : turn ≡ own_turn (write_sends plan) (write_reply plan) (cue ∷ own)
  pub stands : StandsForOwn plan after (cue ∷ own)

-- at an input that is for it, a put does what the protocol says, or memory ran out and it stands for the same inputs
abbrev pub Takes : PutOp → PutOp → Cue → Result Turn NoMemory → Type 0
Takes old new cue result =
    (plan : PutPlan) (own : List Cue) → StandsForOwn plan old own
    → MatchResult result (λ turn. Does plan own cue turn new) (λ _. StandsForOwn plan new own)
