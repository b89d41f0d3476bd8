-- What a simulation reports.
use Rattle.std.proofs.Common.{◌≡◌, ℕ, ◌+◌, ◌≤◌, ◌<◌, List, [], ◌∷◌, ◌++◌, map, take, length, Option, Some, None, refl, sym, ap, subst, ◌∙◌}
use Rattle.std.specs.Prelude.{All, IfSome}
use Rattle.std.specs.List.{filter_map, cons_option, AllByRecursion}
use Rattle.std.specs.Option.{option_to_list}
use Rattle.std.proofs.Math.ListN.{get_or}
use Rattle.std.proofs.lemmas.List.{map-append, take_more, take_all}
use Rattle.std.proofs.lemmas.List.Elements.{filter_map-append, All-from_recursion}
use Rattle.hy_base.specs.Shape.{IsShape}
use Rattle.hy_record.specs.Clouds.{clouds_of}
use Rattle.hy_order.specs.declared.held.Held.{Held}
use Rattle.hy_order.specs.declared.operation.Operation.{Operation}
use Rattle.hy_order.specs.declared.order.Order.{Order}
use Rattle.hy_order.specs.declared.report.Report.{Report}
use Rattle.hy_order.specs.History.{IsHistory}
use Rattle.hy_order.specs.Linearization.{IsReportLinearizable}
use Rattle.hy_sched.specs.declared.event.Event.{Event}
use Rattle.hy_sched.specs.declared.schedule.Schedule.{Schedule}
use Rattle.hy_sched.specs.Ranges.{IsTextEvent, IsSchedule}
use Rattle.hy_trace.specs.declared.step.Step.{Step}
use Rattle.hy_trace.specs.Deeds.{Params, Deed}
use Rattle.hy_trace.specs.Hashed.{IsCollisionFree}
use Rattle.hy_trace.specs.Held.{HasLiars, held_of}
use Rattle.hy_trace.specs.History.{history_of}
use Rattle.hy_trace.specs.Report.{order_of, keys_of, report_of}
use Rattle.hy_trace.specs.Schedule.{trace_of}
use Rattle.hy_trace.proofs.Steps.{schedule-trace}
use Rattle.hy_theorems.proofs.Histories.{is-history}
use Rattle.hy_theorems.proofs.Reports.{is-linearizable}
use Rattle.hy_world.specs.Reporting.{order_key}
use Rattle.hy_world.specs.Schedules.{params_of, steps_with, steps_of, trace_of_schedule, report_of_schedule, HasTextValue}
use Rattle.hy_world.proofs.Promising.{enough-copies}
use Rattle.hy_world.proofs.PutBytes.{schedule-bytes, small-event}

pub told-history : (p : Params) (run : List Step) (operations : List Operation) → operations ≡ history_of p (trace_of p run) → IsHistory operations
told-history p run operations is = subst IsHistory (sym is) (is-history p (trace_of p run) (schedule-trace p run))

-- the copies with those of one order more
one-held : (h : List ℕ → Option Held) (key : List ℕ) → option_to_list (h key) ≡ filter_map h (key ∷ [])
one-held h key = by-held (h key)
  where
    by-held : (o : Option Held) → option_to_list o ≡ filter_map (λ _. o) (key ∷ [])
    by-held None = refl
    by-held (Some held) = refl

pub held-more : (h : List ℕ → Option Held) (orders : List Order) (i : ℕ) (order : Order) (copies more : List Held) (held : Option Held) → i < length orders → order ≡ get_or orders i order →
    more ≡ copies ++ option_to_list held → held ≡ h order.key → copies ≡ filter_map h (map order_key (take i orders)) → more ≡ filter_map h (map order_key (take (i + 1) orders))
held-more h orders i order copies more held inside is more_is held_is before =
    let next : take (i + 1) orders ≡ take i orders ++ order ∷ [] = take_more orders i order inside ∙ ap (λ (x : Order). take i orders ++ x ∷ []) (sym is) in
    more_is
    ∙ ap (λ (o : Option Held). copies ++ option_to_list o) held_is
    ∙ ap (λ (xs : List Held). copies ++ xs) (one-held h order.key)
    ∙ ap (λ (xs : List Held). xs ++ filter_map h (order.key ∷ [])) before
    ∙ sym (ap (λ (xs : List Order). filter_map h (map order_key xs)) next ∙ ap (filter_map h) (map-append order_key (take i orders) (order ∷ [])) ∙ filter_map-append h (map order_key (take i orders)) (order.key ∷ []))

-- all orders were taken
pub held-all : (h : List ℕ → Option Held) (orders : List Order) (i : ℕ) (copies : List Held) → length orders ≤ i → copies ≡ filter_map h (map order_key (take i orders)) → copies ≡ filter_map h (map order_key orders)
held-all h orders i copies past is = is ∙ ap (λ (xs : List Order). filter_map h (map order_key xs)) (take_all i orders past)

order-keys : (p : Params) (t : List Deed) (keys : List (List ℕ)) → map order_key (map (order_of p t) keys) ≡ keys
order-keys p t [] = refl
order-keys p t (key ∷ keys) = ap (λ (ks : List (List ℕ)). key ∷ ks) (order-keys p t keys)

report-parts : (a b : List Operation) (c d : List Order) (e f : List Held) → a ≡ b → c ≡ d → e ≡ f → ◌≡◌ {A = Report} (record { history = a; orders = c; held = e }) (record { history = b; orders = d; held = f })
report-parts a b c d e f as_ cs es = cc

pub told-report : (p : Params) (t : List Deed) (operations : List Operation) (orders : List Order) (copies : List Held) → operations ≡ history_of p t → orders ≡ map (order_of p t) (keys_of p t) → copies ≡ filter_map (held_of p t) (map order_key orders) →
    ◌≡◌ {A = Report} (record { history = operations; orders = orders; held = copies }) (report_of p t)
told-report p t operations orders copies history_is orders_are copies_are =
    report-parts operations (history_of p t) orders (map (order_of p t) (keys_of p t)) copies (filter_map (held_of p t) (keys_of p t))
    history_is orders_are
    (copies_are ∙ ap (λ (xs : List Order). filter_map (held_of p t) (map order_key xs)) orders_are ∙ ap (filter_map (held_of p t)) (order-keys p t (keys_of p t)))

-- ---- schedules

steps-append : (p : Params) (first later : List Event) (before : List Step) → steps_of p (first ++ later) before ≡ steps_of p later (steps_of p first before)
unfolding steps_of
steps-append p [] later before = refl
steps-append p (event ∷ first) later before = steps-append p first later (steps_with p event before)

one-event : (p : Params) (event : Event) (before : List Step) → steps_of p (event ∷ []) before ≡ steps_with p event before
unfolding steps_of
one-event p event before = refl

-- the steps with those of one event more
pub steps-more : (p : Params) (list : List Event) (i : ℕ) (event : Event) → i < length list → event ≡ get_or list i event → steps_of p (take (i + 1) list) [] ≡ steps_with p event (steps_of p (take i list) [])
steps-more p list i event inside is =
    ap (λ (xs : List Event). steps_of p xs []) (take_more list i event inside ∙ ap (λ (x : Event). take i list ++ x ∷ []) (sym is))
    ∙ steps-append p (take i list) (event ∷ []) [] ∙ one-event p event (steps_of p (take i list) [])

pub steps-all : (p : Params) (list : List Event) (i : ℕ) → length list ≤ i → steps_of p (take i list) [] ≡ steps_of p list []
steps-all p list i past = ap (λ (xs : List Event). steps_of p xs []) (take_all i list past)

pub no-steps : (p : Params) (list : List Event) → steps_of p (take 0 list) [] ≡ []
unfolding steps_of
no-steps p list = refl

pub text-event : (schedule : Schedule) (i : ℕ) (event : Event) → IsSchedule schedule → i < length schedule.events → event ≡ get_or schedule.events i event → HasTextValue event
text-event schedule i event text inside is =
    small-event schedule.params event (subst (IsTextEvent schedule.params) (sym is) (All-from_recursion (IsTextEvent schedule.params) schedule.events text.events i event inside))

pub schedule-linearizable : (schedule : Schedule) → IsSchedule schedule → IsCollisionFree (params_of schedule.params) (trace_of_schedule schedule) → IsReportLinearizable (report_of_schedule schedule)
schedule-linearizable schedule text free =
    let p = params_of schedule.params in
    let run = steps_of p schedule.events [] in
    is-linearizable p (trace_of p run) (schedule-trace p run) text.params.shape free (schedule-bytes p schedule.params schedule.events text.events)

-- each copy that is told of is that of a key
all-kept : (P : Held → Type 0) (o : Option Held) (copies : List Held) → IfSome o P → AllByRecursion P copies → AllByRecursion P (cons_option o copies)
all-kept P None copies here later = later
all-kept P (Some held) copies here later = (here, later)

copies-enough : (p : Params) (run : List Step) → IsShape p.f p.k → HasLiars p p.f → (keys : List (List ℕ)) → AllByRecursion (λ held. p.k ≤ length (clouds_of held.clouds)) (filter_map (held_of p (trace_of p run)) keys)
copies-enough p run shape liars [] = tt
copies-enough p run shape liars (key ∷ keys) =
    all-kept (λ held. p.k ≤ length (clouds_of held.clouds)) (held_of p (trace_of p run) key) (filter_map (held_of p (trace_of p run)) keys)
    (enough-copies p run key (held_of p (trace_of p run) key) shape liars refl) (copies-enough p run shape liars keys)

pub schedule-retrievable : (schedule : Schedule) → IsSchedule schedule → HasLiars (params_of schedule.params) schedule.params.f → All (λ held. schedule.params.k ≤ length (clouds_of held.clouds)) (report_of_schedule schedule).held
schedule-retrievable schedule text liars =
    let p = params_of schedule.params in
    let run = steps_of p schedule.events [] in
    All-from_recursion (λ held. schedule.params.k ≤ length (clouds_of held.clouds)) (report_of_schedule schedule).held (copies-enough p run text.params.shape liars (keys_of p (trace_of p run)))
