-- What the replay of a text answers.
use Rattle.std.specs.Prelude.{◌≡◌, ◌≤◌, List, ℕ, All, length, Result, Ok, Err}
use Rattle.hy_base.specs.declared.fault.TextFault.{TextFault}
use Rattle.hy_record.specs.Clouds.{clouds_of}
use Rattle.hy_order.specs.Linearization.{IsReportLinearizable}
use Rattle.hy_order.specs.Report.{report_text}
use Rattle.hy_sched.specs.Ranges.{IsSchedule}
use Rattle.hy_sched.specs.Reading.{schedule_of}
use Rattle.hy_sched.specs.Text.{IsScheduleText, schedule_text}
use Rattle.hy_sched.specs.declared.schedule.Schedule.{Schedule}
use Rattle.hy_trace.specs.Hashed.{IsCollisionFree}
use Rattle.hy_trace.specs.Held.{HasLiars}
use Rattle.hy_world.specs.Promises.{KeepsPromises, ListsCurrent}
use Rattle.hy_world.specs.Schedules.{params_of, steps_of_schedule, trace_of_schedule, report_of_schedule}
use Rattle.hy_top.specs.declared.status.Status.{Status}
use Rattle.hy_top.specs.declared.status.Status.TheVariants.{BadInput, NoMemory}

-- no two different strings that were hashed in the run of the schedule share a hash
abbrev pub HashesApart : Schedule → Type 0
HashesApart schedule = IsCollisionFree (params_of schedule.params) (trace_of_schedule schedule)

-- the store bears as many faulty clouds as the schedule has Byzantine ones
abbrev pub BearsItsLiars : Schedule → Type 0
BearsItsLiars schedule = HasLiars (params_of schedule.params) schedule.params.f

-- the text is that of a schedule; the output is its report, in which each order is linearizable, each current version is listed, and
-- each that is listed lies in enough clouds to rebuild it; and what is promised of a run holds after each step of it
pub record IsReplayed (text output : List ℕ) : Type 0 where
  pub schedule : Schedule
  pub ranges : IsSchedule schedule
  pub spelled : text ≡ schedule_text schedule
  pub report : output ≡ report_text (report_of_schedule schedule)
  pub linearizable : HashesApart schedule → IsReportLinearizable (report_of_schedule schedule)
  pub retrievable : BearsItsLiars schedule → All (λ held. schedule.params.k ≤ length (clouds_of held.clouds)) (report_of_schedule schedule).held
  pub listed : ListsCurrent (params_of schedule.params) (trace_of_schedule schedule) (report_of_schedule schedule).held
  pub promises : KeepsPromises (params_of schedule.params) (steps_of_schedule schedule)

-- the text is that of no schedule, and this is its first fault
pub record IsNoSchedule (text : List ℕ) (fault : TextFault) : Type 0 where
  pub first : schedule_of text ≡ Err fault
  pub other : ¬ IsScheduleText text

-- what the replay of a text answers
abbrev pub Replays : List ℕ → Result (List ℕ) Status → Type 0
Replays text (Ok output) = IsReplayed text output
Replays text (Err (BadInput fault)) = IsNoSchedule text fault
Replays text (Err NoMemory) = Unit {0}
Replays text (Err other) = ⊥
