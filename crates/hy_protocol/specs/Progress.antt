-- How far an operation is: its phase, how much of what it awaits it has, and how much it needs.
use Rattle.std.specs.Prelude.{ℕ, ◌-◌, nat_lt, nat_le, List, length, filter, Option, Some, None, if◌then◌else◌}
use Rattle.hy_record.specs.declared.action.Action.{Action}
use Rattle.hy_record.specs.declared.action.Action.TheVariants as asked
use Rattle.hy_record.specs.declared.action.Phase.{Phase}
use Rattle.hy_record.specs.declared.action.Phase.TheVariants as phases
use Rattle.hy_record.specs.Stamp.{Timestamp}
use Rattle.hy_base.specs.Shape.{cloud_count, quorum_size}
use Rattle.hy_record.specs.Record.{RecordValue}
use Rattle.hy_record.specs.declared.turn.Cue.{Cue}
use Rattle.hy_protocol.specs.declared.plan.PutPlan.{PutPlan}
use Rattle.hy_protocol.specs.declared.plan.CollectPlan.{CollectPlan}
use Rattle.hy_protocol.specs.Write.{first_has, own_stamp, acknowledged_so_far, update_of}
use Rattle.hy_protocol.specs.Read.{Version, version_of, valid_picks, has_fired, failed_attempts}
use Rattle.hy_protocol.specs.Collect.{first_olds, forget_of, deleting_clouds}
use Rattle.hy_protocol.specs.Operations.{write_plan, collect_plan}

-- a phase, how much of what it awaits the operation has, and how much it needs
pub record Progress : Type 0 where
  pub phase : Phase
  pub have : ℕ
  pub need : ℕ

-- of a write that has read the record: it awaits acknowledgements, or the update
abbrev pub update_progress : PutPlan → List Cue → Option (List ℕ) → Option RecordValue → Progress
update_progress plan inputs None update = record { phase = phases.Update; have = 0; need = 1 }
update_progress plan inputs (Some value) (Some r) = record { phase = phases.Update; have = 0; need = 1 }
update_progress plan inputs (Some value) None = record { phase = phases.Store; have = (length (acknowledged_so_far plan inputs (own_stamp plan inputs))); need = (quorum_size plan.f plan.k) }

-- of a write, by the first answer that told the record
abbrev pub progress_since_has : PutPlan → List Cue → Option (Option RecordValue) → Progress
progress_since_has plan inputs None = record { phase = phases.Read; have = 0; need = 1 }
progress_since_has plan inputs (Some held) = update_progress plan inputs plan.value (update_of plan inputs)

-- of a put or delete
unfoldable pub write_progress : PutPlan → List Cue → Progress
write_progress plan inputs = progress_since_has plan inputs (first_has inputs)

-- of a read that follows a record
abbrev pub read_phase : RecordValue → List Cue → Phase
read_phase r since = if has_fired r since then phases.Reread else if nat_lt r.f (failed_attempts r since) then phases.Watch else phases.Fetch

-- of a read of this version; where there is no record it replies at once
abbrev pub version_progress : Option RecordValue → List Cue → Progress
version_progress None since = record { phase = phases.Fetch; have = 0; need = 0 }
version_progress (Some r) since = record { phase = read_phase r since; have = length (valid_picks r since); need = r.k }

-- of a read, by its version
abbrev pub progress_of_version : Option Version → Progress
progress_of_version None = record { phase = phases.Read; have = 0; need = 1 }
progress_of_version (Some v) = version_progress v.rec v.since

-- of a get
unfoldable pub read_progress : List Cue → Progress
read_progress inputs = progress_of_version (version_of inputs)

-- of a collection that knows what to delete
abbrev pub deletion_progress : CollectPlan → List Cue → List Timestamp → Option (List Timestamp) → Progress
deletion_progress plan inputs stamps (Some sent) = record { phase = phases.Forget; have = 0; need = 1 }
deletion_progress plan inputs stamps None =
    record { phase = phases.Drop; have = (length (filter (λ s. nat_le (cloud_count plan.f plan.k - plan.f) (length (deleting_clouds plan s inputs))) stamps)); need = (length stamps) }

-- of a collection, by the first list of superseded timestamps
abbrev pub progress_since_olds : CollectPlan → List Cue → Option (List Timestamp) → Progress
progress_since_olds plan inputs None = record { phase = phases.Olds; have = 0; need = 1 }
progress_since_olds plan inputs (Some stamps) = deletion_progress plan inputs stamps (forget_of plan inputs)

-- of a collection
unfoldable pub collect_progress : CollectPlan → List Cue → Progress
collect_progress plan inputs = progress_since_olds plan inputs (first_olds inputs)

-- how far the operation is
unfoldable pub progress_of : ℕ → ℕ → ℕ → ℕ → Action → List Cue → Progress
progress_of f k client op (asked.Put key value) inputs = write_progress (write_plan f k client op key (Some value)) inputs
progress_of f k client op (asked.Delete key) inputs = write_progress (write_plan f k client op key None) inputs
progress_of f k client op (asked.Get key) inputs = read_progress inputs
progress_of f k client op (asked.Collect key) inputs = collect_progress (collect_plan f k client op key) inputs
progress_of f k client op (asked.Swap key expected value) inputs = write_progress (write_plan f k client op key (Some value)) inputs
