-- The schedule that is made of a seed, and what is told of its run.
use Rattle.std.specs.Prelude.{ℕ, zero, suc, Bool, true, false, List, [], ◌∷◌, ◌++◌, length, codes, count_by}
use Rattle.std.specs.Fmt.{decimal}
use Rattle.hy_order.specs.Violation.{first_violation, is_legal}
use Rattle.hy_order.specs.declared.operation.End.{End}
use Rattle.hy_order.specs.declared.operation.End.TheVariants.{Replied, Pending}
use Rattle.hy_order.specs.declared.operation.Operation.{Operation}
use Rattle.hy_order.specs.declared.order.Order.{Order}
use Rattle.hy_order.specs.declared.report.Report.{Report}
use Rattle.hy_sched.specs.declared.event.Event.{Event}
use Rattle.hy_sched.specs.declared.event.Event.TheVariants.{Join}
use Rattle.hy_sched.specs.declared.params.Params.{Params}
use Rattle.hy_sched.specs.declared.schedule.Schedule.{Schedule}
use Rattle.hy_text.specs.Line.{line_text}
use Rattle.hy_trace.specs.Messages.{messages_of}
use Rattle.hy_trace.specs.Schedule.{trace_of}
use Rattle.hy_world.specs.Schedules.{params_of, steps_of, report_of_schedule}
use Rattle.hy_make.specs.declared.drawer.Drawer.{Drawer}
use Rattle.hy_make.specs.declared.summary.Summary.{Summary}
use Rattle.hy_make.specs.Drawing.{drawer_of, next_event}

-- a store that bears one faulty cloud and keeps values whole, of which cloud 0 is Byzantine
abbrev pub made_store : Params
made_store = record { f = 1; k = 1; liars = 1 }

-- four clients join
abbrev pub opening : List Event
opening = Join ∷ Join ∷ Join ∷ Join ∷ []

-- a schedule in the making: its events so far, and the drawer of the next
pub record Draft : Type 0 where
  pub events : List Event
  pub drawer : Drawer

-- how many messages are sent in the run of these events
unfoldable pub sent_by : List Event → ℕ
sent_by events =
    length (messages_of (params_of made_store) (trace_of (params_of made_store) (steps_of (params_of made_store) events [])))

-- the draft with the event that is drawn next
unfoldable pub with_event : Draft → Draft
with_event draft =
    let next = next_event (sent_by draft.events) draft.drawer in
    record { events = draft.events ++ next.0 ∷ []; drawer = next.1 }

-- the draft of a seed after so many events
unfoldable pub draft_of : ℕ → ℕ → Draft
draft_of seed zero = record { events = opening; drawer = drawer_of seed }
draft_of seed (suc count) = with_event (draft_of seed count)

-- the schedule of a seed: the opening, and so many events, each drawn as the run before it has it
abbrev pub generated_schedule : ℕ → ℕ → Schedule
generated_schedule seed count = record { params = made_store; events = (draft_of seed count).events }

-- the operation has a reply
abbrev pub has_reply : End → Bool
has_reply (Replied at reply) = true
has_reply (Pending phase have need) = false

-- how many of the orders have no violation
abbrev pub legal_count : List Operation → List Order → ℕ
legal_count history orders =
    count_by (λ (order : Order). is_legal (first_violation history order.key order.ops)) orders

-- what is told of a report after so many drawn events and so many steps
abbrev pub summary_by : ℕ → ℕ → Report → Summary
summary_by count steps report = record {
  events = count;
  steps = steps;
  operations = length report.history;
  finished = count_by (λ (op : Operation). has_reply op.end) report.history;
  keys = length report.orders;
  legal = legal_count report.history report.orders;
}

-- what is told of the run of the schedule of a seed
unfoldable pub generated_summary : ℕ → ℕ → Summary
generated_summary seed count =
    let schedule = generated_schedule seed count in
    summary_by count (length (steps_of (params_of made_store) schedule.events [])) (report_of_schedule schedule)

-- the line of a summary
abbrev pub summary_text : Summary → List ℕ
summary_text summary =
    line_text (
    codes "made" ∷ decimal summary.events
    ∷ codes "steps" ∷ decimal summary.steps
    ∷ codes "ops" ∷ decimal summary.operations
    ∷ codes "finished" ∷ decimal summary.finished
    ∷ codes "keys" ∷ decimal summary.keys
    ∷ codes "legal" ∷ decimal summary.legal ∷ [])
