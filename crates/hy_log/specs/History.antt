-- The history of a run, as the log tells it.
use Rattle.std.specs.Prelude.{◌≡◌, ℕ, ◌+◌, ◌-◌, List, [], ◌∷◌, Option, Some, None, slice_index_or}
use Rattle.hy_record.specs.declared.action.Action.{Action}
use Rattle.hy_record.specs.declared.action.Action.TheVariants as asked
use Rattle.hy_record.specs.declared.action.Phase.TheVariants as phases
use Rattle.hy_protocol.specs.Progress as protocol
use Rattle.hy_operation.specs.declared.progress.Progress.{Progress}
use Rattle.hy_order.specs.declared.operation.End.{End}
use Rattle.hy_order.specs.declared.operation.End.TheVariants as ends
use Rattle.hy_order.specs.declared.operation.Operation.{Operation}
use Rattle.hy_trace.specs.Deeds.{Params, Deed, Start, inputs_of, start_of, reply_of, begun}
use Rattle.hy_log.specs.declared.course.Course.{Course}
use Rattle.hy_log.specs.declared.course.Returned.{Returned}
use Rattle.hy_log.specs.declared.log.Started.{Started}
use Rattle.hy_log.specs.Courses.{course_at}

-- how far an operation is, as it is told
abbrev pub told_progress : protocol.Progress → Progress
told_progress progress = record { phase = progress.phase; have = progress.have; need = progress.need }

-- of each client whose last operation has no reply, it is told how far that is; client 1 stands first
abbrev pub AreRunning : Params → List Deed → List (Option Progress) → Type 0
AreRunning p t running =
    (c : ℕ) (start : Start) → start_of c (begun c t) t ≡ Some start → reply_of p c (begun c t) t ≡ None →
    slice_index_or running (c - 1) None
    ≡ Some (told_progress (protocol.progress_of p.f p.k c (begun c t) start.action (inputs_of c (begun c t) t)))

-- how far an operation is that has just begun
abbrev pub first_progress : Action → Progress
first_progress (asked.Put key value) = record { phase = phases.Read; have = 0; need = 1 }
first_progress (asked.Get key) = record { phase = phases.Read; have = 0; need = 1 }
first_progress (asked.Delete key) = record { phase = phases.Read; have = 0; need = 1 }
first_progress (asked.Swap key expected value) = record { phase = phases.Read; have = 0; need = 1 }
first_progress (asked.Collect key) = record { phase = phases.Olds; have = 0; need = 1 }

-- the end of an operation that is so far
abbrev pub pending_end : Progress → End
pending_end progress = ends.Pending progress.phase progress.have progress.need

-- how an operation ended, or how far it is; where that is not told, it is where it began
abbrev pub told_end : Option Returned → Option Progress → Action → End
told_end (Some returned) progress action = ends.Replied returned.at returned.reply
told_end None (Some progress) action = pending_end progress
told_end None None action = pending_end (first_progress action)

-- an operation of this number, by its course and by what is told of its client
abbrev pub told_operation : List (List Course) → List (Option Progress) → ℕ → Started → Operation
told_operation courses running number started =
    record {
      number = number;
      client = started.beginning.client;
      action = started.beginning.action;
      invoked = started.step;
      end = told_end
          (course_at courses started.beginning.client started.beginning.op).returned
          (slice_index_or running (started.beginning.client - 1) None)
          started.beginning.action;
    }

-- the operations, numbered from this number on
abbrev pub told_from : List (List Course) → List (Option Progress) → ℕ → List Started → List Operation
told_from courses running number [] = []
told_from courses running number (started ∷ later) =
    told_operation courses running number started ∷ told_from courses running (number + 1) later
