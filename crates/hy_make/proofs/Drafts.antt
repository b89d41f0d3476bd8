-- Schedules in the making: their events, their steps, and the drawer of the next.
use Rattle.std.proofs.Common.{◌≡◌, ℕ, zero, suc, ◌+◌, ◌<◌, ◌≤◌, false, cond, List, [], ◌∷◌, ◌++◌, get_or, length, refl, sym, ap, subst, ◌∙◌, arith, add-one, add-zero, Bool}
use Rattle.std.specs.Prelude.{count_by}
use Rattle.std.specs.List.{AllByRecursion}
use Rattle.std.proofs.lemmas.List.{length-append}
use Rattle.std.proofs.lemmas.List.Sums.{sum_by-append, sum_by-cons}
use Rattle.hy_base.specs.declared.limits.TheConstants.{MAX_COUNT}
use Rattle.hy_order.specs.Linearization.{IsReportLinearizable}
use Rattle.hy_order.specs.declared.operation.Operation.{Operation}
use Rattle.hy_order.specs.declared.report.Report.{Report}
use Rattle.hy_sched.specs.Ranges.{is_join, joined_count, IsTextEvent, IsSchedule}
use Rattle.hy_sched.specs.declared.event.Event.{Event}
use Rattle.hy_sched.specs.declared.event.Event.TheVariants.{Join}
use Rattle.hy_trace.specs.declared.step.Step.{Step}
use Rattle.hy_trace.specs.Deeds.{Params}
use Rattle.hy_trace.specs.Hashed.{IsCollisionFree}
use Rattle.hy_world.specs.Schedules.{params_of, steps_with, steps_of, trace_of_schedule, report_of_schedule, HasTextValue}
use Rattle.hy_world.proofs.PutBytes.{small-event}
use Rattle.hy_world.proofs.Reports.{schedule-linearizable}
use Rattle.hy_make.specs.declared.drawer.Drawer.{Drawer}
use Rattle.hy_make.specs.declared.summary.Summary.{Summary}
use Rattle.hy_make.specs.Drawing.{next_event}
use Rattle.hy_make.specs.Making.{made_store, opening, Draft, sent_by, with_event, draft_of, generated_schedule, generated_summary, has_reply, legal_count}
use Rattle.hy_make.proofs.Drawn.{next-next}

-- the steps with those of one event more
steps-append : (p : Params) (events : List Event) (event : Event) (before : List Step) → steps_of p (events ++ event ∷ []) before ≡ steps_with p event (steps_of p events before)
unfolding steps_of
steps-append p [] event before = refl
steps-append p (first ∷ events) event before = steps-append p events event (steps_with p first before)

-- each event of the opening is that of a client that joins
pub opening-joins : (place : ℕ) → Join ≡ get_or opening place Join
opening-joins zero = refl
opening-joins (suc zero) = refl
opening-joins (suc (suc zero)) = refl
opening-joins (suc (suc (suc zero))) = refl
opening-joins (suc (suc (suc (suc place)))) = refl

-- what a draft has of its seed after so many events
pub record IsDraft (count : ℕ) (draft : Draft) : Type 0 where
  pub texts : AllByRecursion (IsTextEvent made_store) draft.events
  pub joined : joined_count draft.events ≡ 4
  pub many : length draft.events ≡ count + 4
  pub cursor : draft.drawer.cursor ≤ count

all-one : {X : Type 0} (P : X → Type 0) (xs : List X) (x : X) → AllByRecursion P xs → P x → AllByRecursion P (xs ++ x ∷ [])
all-one P [] x all here = (here, tt)
all-one P (first ∷ xs) x all here = (all.0, all-one P xs x all.1 here)

not-joined : (events : List Event) (event : Event) → is_join event ≡ false → joined_count (events ++ event ∷ []) ≡ joined_count events
not-joined events event other =
    let joins : Event → ℕ = λ e. cond (is_join e) 1 0 in
    let one : joined_count (event ∷ []) ≡ 0 = sum_by-cons joins event [] ∙ ap (λ (b : Bool). cond b 1 0 + 0) other in
    let both : joined_count (events ++ event ∷ []) ≡ joined_count events + joined_count (event ∷ []) = sum_by-append joins events (event ∷ []) in
    both ∙ ap (λ n. joined_count events + n) one ∙ add-zero (joined_count events)

pub is-draft : (seed count : ℕ) → count ≤ 10000 → IsDraft count (draft_of seed count)
unfolding draft_of with_event
is-draft seed zero few = record { texts = (tt, (tt, (tt, (tt, tt)))); joined = refl; many = refl; cursor = omega arith }
is-draft seed (suc count) few =
    let before = is-draft seed count (omega arith) in
    let draft = draft_of seed count in
    let next = next-next (sent_by draft.events) draft.drawer (omega (arith, before.cursor)) in
    let event = (next_event (sent_by draft.events) draft.drawer).0 in
    record {
      texts = all-one (IsTextEvent made_store) draft.events event before.texts next.text;
      joined = not-joined draft.events event next.other ∙ before.joined;
      many = omega (arith, length-append draft.events (event ∷ []), before.many);
      cursor = omega (arith, next.cursor, before.cursor);
    }

-- the schedule of a seed is one that a text can tell
is-schedule : (seed count : ℕ) → count ≤ 10000 → IsSchedule (generated_schedule seed count)
is-schedule seed count few =
    let draft = is-draft seed count few in
    record {
      params = record { shape = record { faults = omega arith; some = omega arith; parts = omega arith }; liars = omega arith };
      events = draft.texts;
      few = omega (arith, draft.many);
      joined = omega (arith, draft.joined);
    }

pub made-linearizable : (seed count : ℕ) → count ≤ 10000 → IsCollisionFree (params_of made_store) (trace_of_schedule (generated_schedule seed count)) → IsReportLinearizable (report_of_schedule (generated_schedule seed count))
made-linearizable seed count few free = schedule-linearizable (generated_schedule seed count) (is-schedule seed count few) free

-- ---- one event more, as the code draws it

module _ (seed count sent : ℕ) (drawer : Drawer) (few : count < 10000) (was_sent : sent ≡ sent_by (draft_of seed count).events) (drawn_by : (draft_of seed count).drawer ≡ drawer) where
  abbrev draft : Draft
  draft = draft_of seed count

  drawn : next_event (sent_by draft.events) draft.drawer ≡ next_event sent drawer
  drawn = ap (λ n. next_event n draft.drawer) (sym was_sent) ∙ ap (next_event sent) drawn_by

  next-draft : draft_of seed (count + 1) ≡ with_event draft
  unfolding draft_of
  next-draft = ap (draft_of seed) (add-one count)

  next-made : with_event draft ≡ record { events = draft.events ++ (next_event sent drawer).0 ∷ []; drawer = (next_event sent drawer).1 }
  unfolding with_event
  next-made = ap (λ (next : Event × Drawer). let made : Draft = record { events = draft.events ++ next.0 ∷ []; drawer = next.1 } in made) drawn

  pub next-low : drawer.cursor < MAX_COUNT
  next-low =
      let before = is-draft seed count (omega arith) in
      let low : drawer.cursor ≤ count = subst (λ (drawer : Drawer). drawer.cursor ≤ count) drawn_by before.cursor in
      omega arith

  pub next-drawer : (draft_of seed (count + 1)).drawer ≡ (next_event sent drawer).1
  next-drawer = ap (λ (made : Draft). made.drawer) (next-draft ∙ next-made)

  pub next-steps : (event : Event) → event ≡ (next_event sent drawer).0
      → steps_of (params_of made_store) (draft_of seed (count + 1)).events [] ≡ steps_with (params_of made_store) event (steps_of (params_of made_store) draft.events [])
  next-steps event is =
      ap (λ (made : Draft). steps_of (params_of made_store) made.events []) (next-draft ∙ next-made)
      ∙ steps-append (params_of made_store) draft.events (next_event sent drawer).0 []
      ∙ ap (λ event. steps_with (params_of made_store) event (steps_of (params_of made_store) draft.events [])) (sym is)

  pub next-small : (event : Event) → event ≡ (next_event sent drawer).0 → HasTextValue event
  next-small event is =
      let next = next-next sent drawer next-low in
      subst HasTextValue (sym is) (small-event made_store (next_event sent drawer).0 next.text)

-- ---- the summary

summary-parts : (count steps steps' operations operations' finished finished' keys keys' legal legal' : ℕ)
    → steps ≡ steps' → operations ≡ operations' → finished ≡ finished' → keys ≡ keys' → legal ≡ legal'
    → ◌≡◌ {A = Summary}
    (record { events = count; steps = steps; operations = operations; finished = finished; keys = keys; legal = legal })
    (record { events = count; steps = steps'; operations = operations'; finished = finished'; keys = keys'; legal = legal' })
summary-parts count steps steps' operations operations' finished finished' keys keys' legal legal' s o f k l = cc

-- what is counted in the report of a schedule that was made is its summary
pub told-summary : (seed count steps operations finished keys legal : ℕ) (report : Report) → report ≡ report_of_schedule (generated_schedule seed count)
    → steps ≡ length (steps_of (params_of made_store) (draft_of seed count).events [])
    → operations ≡ length report.history → finished ≡ count_by (λ (op : Operation). has_reply op.end) report.history
    → keys ≡ length report.orders → legal ≡ legal_count report.history report.orders
    → ◌≡◌ {A = Summary}
    (record { events = count; steps = steps; operations = operations; finished = finished; keys = keys; legal = legal })
    (generated_summary seed count)
unfolding generated_summary
told-summary seed count steps operations finished keys legal report is steps_is operations_is finished_is keys_is legal_is =
    summary-parts count _ _ _ _ _ _ _ _ _ _ steps_is
    (operations_is ∙ ap (λ (r : Report). length r.history) is)
    (finished_is ∙ ap (λ (r : Report). count_by (λ (op : Operation). has_reply op.end) r.history) is)
    (keys_is ∙ ap (λ (r : Report). length r.orders) is)
    (legal_is ∙ ap (λ (r : Report). legal_count r.history r.orders) is)
