-- What the events of a schedule are to a trace.
use Rattle.std.specs.Prelude.{ℕ, ◌≤◌, Bool, ◌||◌, nat_le, List, [], ◌∷◌}
use Rattle.hy_base.specs.declared.limits.TheConstants.{MAX_TEXT_VALUE}
use Rattle.hy_base.specs.Shape.{cloud_count}
use Rattle.hy_trace.specs.declared.step.Step.{Step}
use Rattle.hy_trace.specs.declared.step.Step.TheVariants as steps
use Rattle.hy_trace.specs.Deeds.{Params, Deed}
use Rattle.hy_trace.specs.Doing.{with_do}
use Rattle.hy_sched.specs.declared.params.Params.{Params as StoreParams}
use Rattle.hy_sched.specs.declared.event.Event.{Event}
use Rattle.hy_sched.specs.declared.event.Event.TheVariants as events
use Rattle.hy_sched.specs.declared.schedule.Schedule.{Schedule}
use Rattle.hy_sched.specs.Params.{is_liar}
use Rattle.hy_order.specs.declared.report.Report.{Report}
use Rattle.hy_trace.specs.Schedule.{trace_of}
use Rattle.hy_trace.specs.Report.{report_of}
use Rattle.hy_record.specs.declared.action.Action.{Action}
use Rattle.hy_world.specs.Seats.{value_size}

-- the cloud is Byzantine; so is each that the store has not, since nothing that it is asked has an effect
unfoldable pub is_liar_of : StoreParams → ℕ → Bool
is_liar_of params cloud = nat_le (cloud_count params.f params.k) cloud || is_liar params cloud

-- the parameters of the store, as a trace has them
abbrev pub params_of : StoreParams → Params
params_of params = record { f = params.f; k = params.k; is_liar = is_liar_of params }

-- the first step of an event
abbrev pub first_step : Event → Step
first_step events.Join = steps.Join
first_step (events.Do client action) = steps.Invoke client action
first_step (events.Invoke client action) = steps.Invoke client action
first_step (events.Give number) = steps.Give number
first_step (events.Lie cloud client op key stamp say) = steps.Lie (record {
  client = client;
  op = op;
  cloud = cloud;
  key = key;
  stamp = stamp;
  say = say;
})
first_step (events.Tick client) = steps.Tick client
first_step (events.Stop client) = steps.Stop client

-- the steps, the newest first, with those of an event: one, and for a `Do` those of the whole operation
unfoldable pub steps_with : Params → Event → List Step → List Step
steps_with p (events.Do client action) before = with_do p client action before
steps_with p events.Join before = first_step events.Join ∷ before
steps_with p (events.Invoke client action) before = first_step (events.Invoke client action) ∷ before
steps_with p (events.Give number) before = first_step (events.Give number) ∷ before
steps_with p (events.Lie cloud client op key stamp say) before = first_step (events.Lie cloud client op key stamp say) ∷ before
steps_with p (events.Tick client) before = first_step (events.Tick client) ∷ before
steps_with p (events.Stop client) before = first_step (events.Stop client) ∷ before

-- the steps, the newest first, with those of these events, the first of which comes first
unfoldable pub steps_of : Params → List Event → List Step → List Step
steps_of p [] before = before
steps_of p (event ∷ later) before = steps_of p later (steps_with p event before)

-- a schedule can write what is asked for: its value has no more bytes than that
abbrev pub IsWritable : Action → Type 0
IsWritable action = value_size action ≤ MAX_TEXT_VALUE

-- a schedule can write what the event asks for
abbrev pub HasTextValue : Event → Type 0
HasTextValue events.Join = Unit {0}
HasTextValue (events.Do client action) = IsWritable action
HasTextValue (events.Invoke client action) = IsWritable action
HasTextValue (events.Give number) = Unit {0}
HasTextValue (events.Lie cloud client op key stamp say) = Unit {0}
HasTextValue (events.Tick client) = Unit {0}
HasTextValue (events.Stop client) = Unit {0}

-- the steps of a schedule, the newest first
abbrev pub steps_of_schedule : Schedule → List Step
steps_of_schedule schedule = steps_of (params_of schedule.params) schedule.events []

-- the trace of a schedule
abbrev pub trace_of_schedule : Schedule → List Deed
trace_of_schedule schedule = trace_of (params_of schedule.params) (steps_of_schedule schedule)

-- the report of a schedule
abbrev pub report_of_schedule : Schedule → Report
report_of_schedule schedule = report_of (params_of schedule.params) (trace_of_schedule schedule)
