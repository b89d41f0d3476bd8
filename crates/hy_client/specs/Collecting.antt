-- What a collection keeps stands for the inputs that it was handed.
use Rattle.std.specs.Prelude.{◌≡◌, ℕ, ◌-◌, ◌<◌, ◌≤◌, Bool, true, nat_le, List, [], ◌∷◌, length, filter, All, Option, Some, None, is_some, Result, IfOk}
use Rattle.std.specs.List.{list_all}
use Rattle.hy_base.specs.declared.failure.NoMemory.{NoMemory}
use Rattle.hy_record.specs.Stamp.{Timestamp}
use Rattle.hy_base.specs.Shape.{IsShape, cloud_count}
use Rattle.hy_record.specs.declared.action.Phase.TheVariants as phases
use Rattle.hy_record.specs.declared.cloud.CloudReply.{CloudReply}
use Rattle.hy_record.specs.declared.turn.Cue.{Cue}
use Rattle.hy_record.specs.declared.turn.Cue.TheVariants as cues
use Rattle.hy_record.specs.declared.turn.Turn.{Turn}
use Rattle.hy_protocol.specs.declared.plan.CollectPlan.{CollectPlan}
use Rattle.hy_protocol.specs.Inputs.{inputs_for, is_gone}
use Rattle.hy_protocol.specs.Collect.{first_olds, since_olds, forget_of, collect_sends, collect_reply}
use Rattle.hy_protocol.specs.Progress.{Progress, collect_progress}
use Rattle.hy_protocol.specs.Turns.{own_turn, settled_progress}
use Rattle.hy_operation.specs.Steps.{Steps}
use Rattle.hy_operation.specs.declared.issuer.Issuer.{Issuer}
use Rattle.hy_client.specs.Targets.{stamps_of, is_lacking, gone_clouds, IsTarget}
use Rattle.hy_client.specs.declared.deletion.Deletion.{Deletion}
use Rattle.hy_client.specs.declared.collect.State.{State}
use Rattle.hy_client.specs.declared.collect.State.TheVariants as at
use Rattle.hy_client.specs.declared.collect.CollectOp.{CollectOp}

-- ---- the deletions

-- the deletions of these timestamps are as far as the inputs since the list of them say
pub record Tracks (clouds enough : ℕ) (stamps : List Timestamp) (since : List Cue) (deletion : Deletion) : Type 0 where
  pub lists : stamps_of deletion.targets.items ≡ stamps
  pub each : All (IsTarget clouds enough since) deletion.targets.items
  pub left : deletion.left ≡ length (filter is_lacking deletion.targets.items)

-- the deletions as they begin
pub record Begins (enough : ℕ) (stamps : List Timestamp) (deletion : Deletion) : Type 0 where
  pub all : deletion.left ≡ length stamps
  pub tracks : (clouds : ℕ) → 0 < enough → Tracks clouds enough stamps [] deletion

-- each timestamp is deleted in enough clouds
abbrev pub are_deleted : ℕ → ℕ → List Cue → List Timestamp → Bool
are_deleted clouds enough since stamps = list_all (λ stamp. nat_le enough (length (gone_clouds clouds stamp since))) stamps

-- after an acknowledgement: how far the deletions are, or that each timestamp is deleted in enough clouds
abbrev pub HearsOr : ℕ → ℕ → List Timestamp → List Cue → Deletion → Option (List Timestamp) → Type 0
HearsOr clouds enough stamps since after None = Tracks clouds enough stamps since after × (0 < after.left)
HearsOr clouds enough stamps since after (Some told) = (told ≡ stamps) × (are_deleted clouds enough since stamps ≡ true)

-- an acknowledgement of a cloud of the store
abbrev pub Hears : Deletion → Deletion → CloudReply → Result (Option (List Timestamp)) NoMemory → Type 0
Hears old new reply result =
    (clouds enough : ℕ) (stamps : List Timestamp) (since : List Cue) → clouds ≤ 16 → reply.cloud < clouds → is_gone reply.say ≡ true → Tracks clouds enough stamps since old → 0 < old.left
    → IfOk result (λ told. HearsOr clouds enough stamps (cues.Cloud reply ∷ since) new told)

-- ---- the collection, by its state

pub record IsAsking (plan : CollectPlan) (inputs : List Cue) : Type 0 where
  pub olds : first_olds inputs ≡ None
  pub forget : forget_of plan inputs ≡ None
  pub reply : collect_reply plan inputs ≡ None

pub record IsDeleting (plan : CollectPlan) (deletion : Deletion) (inputs : List Cue) : Type 0 where
  pub stamps : List Timestamp
  pub olds : first_olds inputs ≡ Some stamps
  pub tracks : Tracks (cloud_count plan.f plan.k) (cloud_count plan.f plan.k - plan.f) stamps (since_olds inputs) deletion
  pub lacks : 0 < deletion.left
  pub forget : forget_of plan inputs ≡ None
  pub reply : collect_reply plan inputs ≡ None

pub record IsForgetting (plan : CollectPlan) (stamps : List Timestamp) (inputs : List Cue) : Type 0 where
  pub some : 0 < length stamps
  pub olds : first_olds inputs ≡ Some stamps
  pub forget : forget_of plan inputs ≡ Some stamps
  pub reply : collect_reply plan inputs ≡ None

abbrev pub StandsAt : CollectPlan → State → List Cue → Type 0
StandsAt plan at.Asking inputs = IsAsking plan inputs
StandsAt plan (at.Deleting deletion) inputs = IsDeleting plan deletion inputs
StandsAt plan (at.Forgetting stamps) inputs = IsForgetting plan stamps inputs
StandsAt plan at.Empty inputs = is_some (collect_reply plan inputs) ≡ true
StandsAt plan at.Collected inputs = is_some (collect_reply plan inputs) ≡ true

-- how far the collection is
abbrev pub progress_at : State → Progress
progress_at at.Asking = record { phase = phases.Olds; have = 0; need = 1 }
progress_at (at.Deleting deletion) = record { phase = phases.Drop; have = length deletion.targets.items - deletion.left; need = length deletion.targets.items }
progress_at (at.Forgetting stamps) = record { phase = phases.Forget; have = 0; need = 1 }
progress_at at.Empty = record { phase = phases.Drop; have = 0; need = 0 }
progress_at at.Collected = record { phase = phases.Forget; have = 0; need = 1 }

abbrev pub issuer_of : CollectPlan → Issuer
issuer_of plan = record { client = plan.client; op = plan.op; key = plan.key }

-- the collection stands for these inputs, all of which are for it
pub record StandsForOwn (plan : CollectPlan) (collect : CollectOp) (inputs : List Cue) : Type 0 where
  pub issuer : collect.issuer ≡ issuer_of plan
  pub clouds : collect.clouds ≡ cloud_count plan.f plan.k
  pub enough : collect.enough ≡ cloud_count plan.f plan.k - plan.f
  pub shape : IsShape plan.f plan.k
  pub state : StandsAt plan collect.state inputs
  pub progress : settled_progress (collect_reply plan) (collect_progress plan) inputs ≡ progress_at collect.state

-- a step at an input that is for the collection
abbrev pub Takes : CollectOp → CollectOp → Cue → Result Turn NoMemory → Type 0
Takes old new cue result =
    (plan : CollectPlan) (inputs : List Cue) → StandsForOwn plan old inputs
    → Steps result (own_turn (collect_sends plan) (collect_reply plan) (cue ∷ inputs)) (StandsForOwn plan new (cue ∷ inputs)) (StandsForOwn plan new inputs)

-- the collection of this plan stands for these inputs
abbrev pub StandsForInputs : CollectPlan → CollectOp → List Cue → Type 0
StandsForInputs plan collect inputs = StandsForOwn plan collect (inputs_for plan.client plan.op plan.key inputs)
