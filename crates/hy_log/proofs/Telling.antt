-- What the log tells of the operations of a trace is the history of the trace.
use Rattle.std.proofs.Common.{◌≡◌, ℕ, ◌+◌, ◌-◌, List, [], ◌∷◌, ◌++◌, length, map, reverse, take, Option, Some, None, refl, sym, ap, subst, ◌∙◌, inl, inr, arith}
use Rattle.std.specs.Prelude.{◌==◌, is_some, slice_index_or}
use Rattle.std.specs.List.{AllByRecursion}
use Rattle.std.specs.Option.{option_map}
use Rattle.std.proofs.lemmas.Bool.{eqb-true, eq-eqb, false≢true, both_ways}
use Rattle.std.proofs.lemmas.List.{map-append, append-nil}
use Rattle.hy_meta.proofs.Rising.{cases_bool}
use Rattle.hy_protocol.specs.Progress as protocol
use Rattle.hy_operation.specs.declared.progress.Progress.{Progress}
use Rattle.hy_order.specs.declared.operation.End.{End}
use Rattle.hy_order.specs.declared.operation.Operation.{Operation}
use Rattle.hy_order.specs.History.{IsNumberedFrom}
use Rattle.hy_trace.specs.Deeds.{Params, Deed, Joined, Began, Handed, Served, Granted, Stopped, Nothing, Start, inputs_of, start_of, reply_of, begun}
use Rattle.hy_trace.specs.History.{Return, return_of, Begun, begun_of, end_of, operation_of, history_of}
use Rattle.hy_trace.specs.Trace.{IsTrace}
use Rattle.hy_trace.proofs.Steps.{trace-numbered}
use Rattle.hy_theorems.proofs.Beginnings.{begun-are}
use Rattle.hy_theorems.proofs.Histories.{is-history}
use Rattle.hy_theorems.proofs.Listing.{reverse-more, all-reverse}
use Rattle.hy_log.specs.declared.course.Course.{Course}
use Rattle.hy_log.specs.declared.log.Started.{Started}
use Rattle.hy_log.specs.Kept.{Posted}
use Rattle.hy_record.specs.declared.action.Action.{Action}
use Rattle.hy_log.specs.Courses.{course_of, kept_return, AreCourses}
use Rattle.hy_log.specs.History.{AreRunning, told_progress, told_end, told_operation, told_from}
use Rattle.hy_log.specs.Log.{LogKeeps, started_of}
use Rattle.hy_log.proofs.Coursing.{never-replied}

-- ---- operation by operation

told-joined : (courses : List (List Course)) (running : List (Option Progress)) (number : ℕ) (first later : List Started) →
    told_from courses running number (first ++ later) ≡ told_from courses running number first ++ told_from courses running (number + length first) later
told-joined courses running number [] later = let e : number ≡ number + 0 = omega arith in ap (λ (n : ℕ). told_from courses running n later) e
told-joined courses running number (s ∷ first) later =
    let e : number + 1 + length first ≡ number + length (s ∷ first) = omega arith in
    ap (λ (ops : List Operation). told_operation courses running number s ∷ ops)
    (told-joined courses running (number + 1) first later ∙ ap (λ (n : ℕ). told_from courses running (number + 1) first ++ told_from courses running n later) e)

-- one operation more is told
pub told-more : (courses : List (List Course)) (running : List (Option Progress)) (starts : List Started) (place number : ℕ) (s : Started) (ops more : List Operation) (op : Operation) →
    place + 1 ≡ number → length (take place starts) ≡ place → take (place + 1) starts ≡ take place starts ++ s ∷ [] →
    ops ≡ told_from courses running 1 (take place starts) → op ≡ told_operation courses running number s → more ≡ ops ++ op ∷ [] → more ≡ told_from courses running 1 (take (place + 1) starts)
told-more courses running starts place number s ops more op number_is count taken ops_are op_is more_is =
    let at : 1 + length (take place starts) ≡ number = omega (arith, count, number_is) in
    more_is ∙ ap (λ (x : List Operation). x ++ op ∷ []) ops_are ∙ ap (λ (x : Operation). told_from courses running 1 (take place starts) ++ x ∷ []) op_is
    ∙ sym (ap (told_from courses running 1) taken ∙ told-joined courses running 1 (take place starts) (s ∷ []) ∙ ap (λ (n : ℕ). told_from courses running 1 (take place starts) ++ told_operation courses running n s ∷ []) at)

-- ---- the operations of a trace

-- an operation that began, as the log keeps it
abbrev pub start_line : Begun → Started
start_line b = record { step = length b.start.before + 1; beginning = record { client = b.client; op = b.op; action = b.start.action } }

-- the log keeps the operations of the trace, the first begun first
pub started-begun : (t : List Deed) → started_of t ≡ map start_line (reverse (begun_of t))
unfolding started_of begun_of
started-begun [] = refl
started-begun (Began c o a ∷ t) =
    let b : Begun = record { client = c; op = o; start = record { action = a; before = t } } in
    ap (λ (x : List Started). x ++ start_line b ∷ []) (started-begun t)
    ∙ sym (ap (map start_line) (reverse-more b (begun_of t)) ∙ map-append start_line (reverse (begun_of t)) (b ∷ []))
started-begun (Joined ∷ t) = append-nil (started_of t) ∙ started-begun t
started-begun (Handed c o w cue ∷ t) = append-nil (started_of t) ∙ started-begun t
started-begun (Served ask ∷ t) = append-nil (started_of t) ∙ started-begun t
started-begun (Granted ask ∷ t) = append-nil (started_of t) ∙ started-begun t
started-begun (Stopped c ∷ t) = append-nil (started_of t) ∙ started-begun t
started-begun (Nothing ∷ t) = append-nil (started_of t) ∙ started-begun t

-- an operation without a reply is its client's last
last-running : (p : Params) (c o : ℕ) (t : List Deed) (s : Start) → IsTrace p t → start_of c o t ≡ Some s → reply_of p c o t ≡ None → o ≡ begun c t
last-running p c o t s trace began none =
    elim (cases_bool (o == begun c t)) [
      | inl same ↦ eqb-true o (begun c t) same
      | inr apart ↦
          absurd (false≢true (sym (ap is_some none) ∙ (trace-numbered p t trace).past c o (ap is_some began) (λ (e : o ≡ begun c t). both_ways (o == begun c t) apart (eq-eqb o (begun c t) e))))
    ]

abbrev progress : Params → List Deed → ℕ → ℕ → Action → protocol.Progress
progress p t c o a = protocol.progress_of p.f p.k c o a (inputs_of c o t)

-- how an operation ended is told by its course, and how far it is by what is told of its client
end-is : (p : Params) (t : List Deed) (b : Begun) (running : List (Option Progress)) → IsTrace p t → AreRunning p t running → start_of b.client b.op t ≡ Some b.start → (r : Option Return) → return_of p b.client b.op t ≡ r →
    told_end (option_map kept_return r) (slice_index_or running (b.client - 1) None) b.start.action ≡ end_of r (progress p t b.client b.op b.start.action)
end-is p t b running trace are began (Some r) is = refl
end-is p t b running trace are began None is =
    let none = never-replied p b.client b.op t is in
    let last = last-running p b.client b.op t b.start trace began none in
    let told : slice_index_or running (b.client - 1) None ≡ Some (told_progress (progress p t b.client b.op b.start.action)) =
    subst (λ (o : ℕ). slice_index_or running (b.client - 1) None ≡ Some (told_progress (progress p t b.client o b.start.action))) (sym last)
    (are b.client b.start (ap (λ (o : ℕ). start_of b.client o t) (sym last) ∙ began) (ap (λ (o : ℕ). reply_of p b.client o t) (sym last) ∙ none)) in
    ap (λ (x : Option Progress). told_end None x b.start.action) told

abbrev operation : ℕ → ℕ → Action → ℕ → End → Operation
operation n c a i e = record { number = n; client = c; action = a; invoked = i; end = e }

operation-same : (n m c : ℕ) (a : Action) (i : ℕ) (e f : End) → n ≡ m → e ≡ f → operation n c a i e ≡ operation m c a i f
operation-same n m c a i e f number end = cc

operation-told : (p : Params) (t : List Deed) (courses : List (List Course)) (running : List (Option Progress)) (b : Begun) (number : ℕ) → IsTrace p t → AreCourses p t courses → AreRunning p t running →
    start_of b.client b.op t ≡ Some b.start → (operation_of p t b).number ≡ number → told_operation courses running number (start_line b) ≡ operation_of p t b
unfolding course_of
operation-told p t courses running b number trace courses_are are began number_is =
    operation-same _ _ _ _ _ _ _ (sym number_is)
    (ap (λ (x : Course). told_end x.returned (slice_index_or running (b.client - 1) None) b.start.action) (courses_are b.client b.op)
    ∙ end-is p t b running trace are began (return_of p b.client b.op t) refl)

told-operations : (p : Params) (t : List Deed) (courses : List (List Course)) (running : List (Option Progress)) (number : ℕ) (ops : List Begun) → IsTrace p t → AreCourses p t courses → AreRunning p t running →
    AllByRecursion (λ b. start_of b.client b.op t ≡ Some b.start) ops → IsNumberedFrom number (map (operation_of p t) ops) →
    told_from courses running number (map start_line ops) ≡ map (operation_of p t) ops
told-operations p t courses running number [] trace courses_are are began numbered = refl
told-operations p t courses running number (b ∷ ops) trace courses_are are began numbered =
    ap (λ (x : Operation). x ∷ told_from courses running (number + 1) (map start_line ops)) (operation-told p t courses running b number trace courses_are are began.0 numbered.0)
    ∙ ap (λ (x : List Operation). operation_of p t b ∷ x) (told-operations p t courses running (number + 1) ops trace courses_are are began.1 numbered.1)

-- what the log tells is the history of the trace
pub told-history : (p : Params) (t : List Deed) (posts : List Posted) (starts : List Started) (courses : List (List Course)) (running : List (Option Progress)) (steps : ℕ) →
    IsTrace p t → LogKeeps p t posts starts courses steps → AreRunning p t running → told_from courses running 1 starts ≡ history_of p t
unfolding history_of
told-history p t posts starts courses running steps trace keeps are =
    ap (told_from courses running 1) (keeps.starts_are ∙ started-begun t)
    ∙ told-operations p t courses running 1 (reverse (begun_of t)) trace (keeps.courses_are trace) are
    (all-reverse (λ b. start_of b.client b.op t ≡ Some b.start) (begun_of t) (begun-are p t trace).0) (is-history p t trace).numbered
