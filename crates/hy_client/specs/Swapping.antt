-- What a swap keeps stands for the inputs that it was handed. It hands all but answers on updates to a put, and that put knows what a write would know of all of them.
use Rattle.std.specs.Prelude.{◌≡◌, ℕ, true, false, List, ◌∷◌, Option, Some, None, is_some, Result}
use Rattle.std.specs.List.{list_any}
use Rattle.std.specs.Option.{option_or}
use Rattle.hy_base.specs.declared.failure.NoMemory.{NoMemory}
use Rattle.hy_base.specs.Shape.{IsShape, quorum_size}
use Rattle.hy_record.specs.Stamp.{Timestamp}
use Rattle.hy_record.specs.declared.action.Reply.{Reply}
use Rattle.hy_record.specs.declared.turn.Cue.{Cue}
use Rattle.hy_record.specs.declared.turn.Turn.{Turn}
use Rattle.hy_protocol.specs.declared.plan.PutPlan.{PutPlan}
use Rattle.hy_protocol.specs.Inputs.{is_answer, is_stored, is_update_answer, addresses, inputs_for}
use Rattle.hy_protocol.specs.Write.{first_has, since_has, update_of, write_reply}
use Rattle.hy_protocol.specs.Swap.{answered_by, changed_by, swap_sends, swap_reply}
use Rattle.hy_protocol.specs.Progress.{write_progress}
use Rattle.hy_protocol.specs.Turns.{own_turn, settled_progress}
use Rattle.hy_operation.specs.Steps.{Steps}
use Rattle.hy_operation.specs.Progress.{Tells}
use Rattle.hy_operation.specs.declared.progress.Progress.{Progress}
use Rattle.hy_put.specs.Standing as puts
use Rattle.hy_put.specs.declared.put.PutOp.{PutOp}
use Rattle.hy_client.specs.declared.swap.SwapOp.{SwapOp}

-- a write knows the same of both lists of inputs
pub record TellsSame (plan : PutPlan) (some all : List Cue) : Type 0 where
  pub has : first_has some ≡ first_has all
  pub stored : (stamp : Timestamp) (cloud : ℕ) → list_any (is_answer is_stored stamp cloud) (since_has some) ≡ list_any (is_answer is_stored stamp cloud) (since_has all)
  pub update : update_of plan some ≡ update_of plan all

-- the reply that the service's judgement makes: on the swap that was sent, or by the first record that is told
abbrev pub verdict_at : PutPlan → Timestamp → Cue → List Cue → Option Reply
verdict_at plan expected cue own = option_or (answered_by (update_of plan own) cue) (changed_by expected (first_has (cue ∷ own)))

-- no reply was given: the put stands for the inputs that it was handed
pub record IsOpen (plan : PutPlan) (expected : Timestamp) (put : PutOp) (own : List Cue) : Type 0 where
  pub handed : List Cue
  pub each : inputs_for plan.client plan.op plan.key handed ≡ handed
  pub stands : puts.StandsForInputs plan put handed
  pub same : TellsSame plan handed own
  pub unended : write_reply plan handed ≡ None
  pub reply : swap_reply plan expected own ≡ None

-- what is told is how far the swap is
abbrev pub TellsSwap : PutPlan → Timestamp → List Cue → Progress → Type 0
TellsSwap plan expected own progress = Tells progress (settled_progress (swap_reply plan expected) (write_progress plan) own)

-- the reply was given, when the swap was so far
pub record HasReplied (plan : PutPlan) (expected : Timestamp) (progress : Progress) (own : List Cue) : Type 0 where
  pub reply : is_some (swap_reply plan expected own) ≡ true
  pub told : TellsSwap plan expected own progress

abbrev pub StandsAt : PutPlan → Timestamp → PutOp → Option Progress → List Cue → Type 0
StandsAt plan expected put None own = IsOpen plan expected put own
StandsAt plan expected put (Some progress) own = HasReplied plan expected progress own

-- the swap stands for these inputs, all of which are for it
pub record StandsForOwn (plan : PutPlan) (expected : Timestamp) (swap : SwapOp) (own : List Cue) : Type 0 where
  pub issuer : swap.issuer ≡ puts.issuer_of plan
  pub seeks : swap.expected ≡ expected
  pub shape : IsShape plan.f plan.k
  pub value : is_some plan.value ≡ true
  pub quorum : swap.quorum ≡ quorum_size plan.f plan.k
  pub state : StandsAt plan expected swap.put swap.replied own

-- what is so of each swap without a reply, and the inputs that it stands for
abbrev pub WhereOpen : SwapOp → (PutPlan → Timestamp → List Cue → Type 0) → Type 0
WhereOpen swap P = swap.replied ≡ None → (plan : PutPlan) (expected : Timestamp) (own : List Cue) → StandsForOwn plan expected swap own → P plan expected own

-- at this input, which is for the swap, it does what the protocol says; or memory ran out, and it stands for the same inputs
abbrev pub Does : SwapOp → Cue → Result Turn NoMemory → PutPlan → Timestamp → List Cue → Type 0
Does new cue result plan expected own =
    Steps result (own_turn (swap_sends plan expected) (swap_reply plan expected) (cue ∷ own)) (StandsForOwn plan expected new (cue ∷ own)) (StandsForOwn plan expected new own)

-- the input is for the swap
abbrev pub IsFor : SwapOp → Cue → Type 0
IsFor swap cue = addresses swap.issuer.client swap.issuer.op swap.issuer.key cue ≡ true

-- a step at an input that is for the swap
abbrev pub Takes : SwapOp → SwapOp → Cue → Result Turn NoMemory → Type 0
Takes old new cue result = IsFor old cue → (plan : PutPlan) (expected : Timestamp) (own : List Cue) → StandsForOwn plan expected old own → Does new cue result plan expected own

-- a step at one that the put is handed
abbrev pub Passes : SwapOp → SwapOp → Cue → Result Turn NoMemory → Type 0
Passes old new cue result =
    IsFor old cue → is_update_answer cue ≡ false → WhereOpen old (λ plan expected own. verdict_at plan expected cue own ≡ None → Does new cue result plan expected own)

-- the swap of this plan stands for these inputs
abbrev pub StandsForInputs : PutPlan → Timestamp → SwapOp → List Cue → Type 0
StandsForInputs plan expected swap inputs = StandsForOwn plan expected swap (inputs_for plan.client plan.op plan.key inputs)
