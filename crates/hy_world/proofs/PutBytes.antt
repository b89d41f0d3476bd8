-- The values of a schedule's puts and swaps consist of bytes.
use Rattle.std.proofs.Common.{◌≡◌, ℕ, zero, suc, ◌+◌, ◌≤◌, Bool, ◌&&◌, true, false, List, [], ◌∷◌, length, Option, Some, None, cond, refl, subst, inl, inr, arith}
use Rattle.std.specs.List.{AllByRecursion}
use Rattle.std.proofs.lemmas.Option.{none-some, same_Some}
use Rattle.hex.specs.Hex.{IsBytes}
use Rattle.hy_gf.specs.Gf.{IsElement}
use Rattle.hy_code.specs.Polynomial.{AreElements}
use Rattle.hy_base.specs.declared.limits.TheConstants.{MAX_SESSIONS, MAX_TEXT_VALUE}
use Rattle.hy_record.specs.declared.action.Action.{Action}
use Rattle.hy_record.specs.declared.action.Action.TheVariants as asked
use Rattle.hy_record.specs.declared.turn.Cue.{Cue}
use Rattle.hy_record.specs.declared.turn.Cue.TheVariants as cues
use Rattle.hy_text.specs.Action.{IsTextAction}
use Rattle.hy_sched.specs.declared.params.Params.{Params as StoreParams}
use Rattle.hy_sched.specs.declared.event.Event.{Event}
use Rattle.hy_sched.specs.declared.event.Event.TheVariants as events
use Rattle.hy_sched.specs.Ranges.{IsTextEvent}
use Rattle.hy_protocol.specs.Operations.{suits, value_of}
use Rattle.hy_trace.specs.declared.step.Step.{Step}
use Rattle.hy_trace.specs.declared.step.Step.TheVariants as steps
use Rattle.hy_trace.specs.declared.step.TheConstants.{MAX_GIVES}
use Rattle.hy_trace.specs.Deeds.{Params, Deed, Joined, Began, Handed, Served, Granted, Stopped, Nothing, Start, begun, start_of, start_at, is_joined}
use Rattle.hy_trace.specs.Messages.{Message, Ask, Say, Request, Answer, messages_of, message_at, step_of}
use Rattle.hy_trace.specs.Schedule.{awaited, hand, is_free, delivery, deed_of, trace_of}
use Rattle.hy_trace.specs.Doing.{goes_on, with_gives, with_do}
use Rattle.hy_trace.specs.Hashed.{ArePutBytes}
use Rattle.hy_trace.proofs.Growth.{or-cases}
use Rattle.hy_world.specs.Schedules.{first_step, steps_with, steps_of, HasTextValue}
use Rattle.hy_world.specs.Seats.{value_size}

-- the value of a put or a swap consists of bytes
abbrev HasPutBytes : Action → Type 0
HasPutBytes (asked.Put key value) = AreElements IsElement value
HasPutBytes (asked.Get key) = Unit {0}
HasPutBytes (asked.Delete key) = Unit {0}
HasPutBytes (asked.Collect key) = Unit {0}
HasPutBytes (asked.Swap key expected value) = AreElements IsElement value

-- an operation that begins at the deed is asked with bytes
abbrev BeginsWithBytes : Deed → Type 0
BeginsWithBytes (Began c o a) = HasPutBytes a
BeginsWithBytes Joined = Unit {0}
BeginsWithBytes (Handed c o made cue) = Unit {0}
BeginsWithBytes (Served ask) = Unit {0}
BeginsWithBytes (Granted ask) = Unit {0}
BeginsWithBytes (Stopped c) = Unit {0}
BeginsWithBytes Nothing = Unit {0}

-- what the step asks for consists of bytes
abbrev pub AsksWithBytes : Step → Type 0
AsksWithBytes steps.Join = Unit {0}
AsksWithBytes (steps.Invoke client action) = HasPutBytes action
AsksWithBytes (steps.Give number) = Unit {0}
AsksWithBytes (steps.Lie reply) = Unit {0}
AsksWithBytes (steps.Tick client) = Unit {0}
AsksWithBytes (steps.Stop client) = Unit {0}

-- ---- deeds

either-way : (b : Bool) (x y : Deed) → BeginsWithBytes x → BeginsWithBytes y → BeginsWithBytes (cond b x y)
either-way true x y first second = first
either-way false x y first second = second

hand-begins : (p : Params) (c made : ℕ) (cue : Cue) (t : List Deed) → BeginsWithBytes (hand p c made cue t)
unfolding hand
hand-begins p c made cue t = by-start (start_of c (begun c t) t)
  where
    by-start : (start : Option Start) → BeginsWithBytes (awaited p c (begun c t) made cue t start)
    by-start None = tt
    by-start (Some s) = either-way _ (Handed c (begun c t) made cue) Nothing tt tt

delivery-begins : (p : Params) (t : List Deed) (made : ℕ) (o : Option Message) → BeginsWithBytes (delivery p t made o)
delivery-begins p t made None = tt
delivery-begins p t made (Some (Ask ask)) = tt
delivery-begins p t made (Some (Say say)) = hand-begins p _ made (cues.Meta say) t
delivery-begins p t made (Some (Request ask)) = either-way (p.is_liar ask.cloud) Nothing (Granted ask) tt tt
delivery-begins p t made (Some (Answer reply)) = hand-begins p reply.client made (cues.Cloud reply) t

deed-begins : (p : Params) (step : Step) (t : List Deed) → AsksWithBytes step → BeginsWithBytes (deed_of p step t)
unfolding deed_of
deed-begins p steps.Join t asks = either-way _ Joined Nothing tt tt
deed-begins p (steps.Invoke c a) t asks = either-way (is_free p c t && suits a) (Began c (begun c t + 1) a) Nothing asks tt
deed-begins p (steps.Give number) t asks = delivery-begins p t (step_of p number t) (message_at number (messages_of p t))
deed-begins p (steps.Lie reply) t asks = either-way (p.is_liar reply.cloud) (hand p reply.client 0 (cues.Cloud reply) t) Nothing (hand-begins p reply.client 0 (cues.Cloud reply) t) tt
deed-begins p (steps.Tick c) t asks = hand-begins p c 0 cues.Tick t
deed-begins p (steps.Stop c) t asks = either-way (is_joined c t) (Stopped c) Nothing tt tt

start-bytes : (c o : ℕ) (d : Deed) (t : List Deed) (s : Start) → BeginsWithBytes d → start_at c o d t ≡ Some s → HasPutBytes s.action
start-bytes c o (Began b n a) t s begins is = by-test _ is
  where
    by-test : (x : Bool) → cond x (Some (record { action = a; before = t })) None ≡ Some s → HasPutBytes s.action
    by-test true e = subst (λ (z : Start). HasPutBytes z.action) (same_Some (record { action = a; before = t }) s e) begins
    by-test false e = absurd (none-some s e)
start-bytes c o Joined t s begins is = absurd (none-some s is)
start-bytes c o (Handed b n made cue) t s begins is = absurd (none-some s is)
start-bytes c o (Served ask) t s begins is = absurd (none-some s is)
start-bytes c o (Granted ask) t s begins is = absurd (none-some s is)
start-bytes c o (Stopped b) t s begins is = absurd (none-some s is)
start-bytes c o Nothing t s begins is = absurd (none-some s is)

started-bytes : (p : Params) (run : List Step) (c o : ℕ) (s : Start) → AllByRecursion AsksWithBytes run → start_of c o (trace_of p run) ≡ Some s → HasPutBytes s.action
unfolding trace_of start_of
started-bytes p [] c o s all is = absurd (none-some s is)
started-bytes p (step ∷ before) c o s all is =
    let t = trace_of p before in
    elim (or-cases (start_of c o t) (start_at c o (deed_of p step t) t) s is) [
      | inl was ↦ started-bytes p before c o s all.1 was
      | inr now ↦ start-bytes c o (deed_of p step t) t s (deed-begins p step t all.0) now.1
    ]

are-put-bytes : (p : Params) (run : List Step) → AllByRecursion AsksWithBytes run → ArePutBytes (trace_of p run)
are-put-bytes p run all = λ c o s value began is. stored s.action value is (started-bytes p run c o s all began)
  where
    stored : (a : Action) (value : List ℕ) → value_of a ≡ Some value → HasPutBytes a → AreElements IsElement value
    stored (asked.Put key v) value is bytes_are = subst (AreElements IsElement) (same_Some v value is) bytes_are
    stored (asked.Swap key expected v) value is bytes_are = subst (AreElements IsElement) (same_Some v value is) bytes_are
    stored (asked.Get key) value is bytes_are = absurd (none-some value is)
    stored (asked.Delete key) value is bytes_are = absurd (none-some value is)
    stored (asked.Collect key) value is bytes_are = absurd (none-some value is)

-- ---- events

asks-either : (b : Bool) (x y : List Step) → AllByRecursion AsksWithBytes x → AllByRecursion AsksWithBytes y → AllByRecursion AsksWithBytes (cond b x y)
asks-either true x y first second = first
asks-either false x y first second = second

gives-bytes : (fuel : ℕ) (p : Params) (c n : ℕ) (mid : List Step) → AllByRecursion AsksWithBytes mid → AllByRecursion AsksWithBytes (with_gives fuel p c n mid)
unfolding with_gives
gives-bytes zero p c n mid all = all
gives-bytes (suc fuel) p c n mid all = asks-either (goes_on p c n mid) (with_gives fuel p c (n + 1) (steps.Give n ∷ mid)) mid (gives-bytes fuel p c (n + 1) (steps.Give n ∷ mid) (tt, all)) all

do-bytes : (p : Params) (c : ℕ) (a : Action) (before : List Step) → HasPutBytes a → AllByRecursion AsksWithBytes before → AllByRecursion AsksWithBytes (with_do p c a before)
unfolding with_do
do-bytes p c a before asks all =
    asks-either (is_free p c (trace_of p before) && suits a) (with_gives MAX_GIVES p c (length (messages_of p (trace_of p before)) + 1) (steps.Invoke c a ∷ before)) (steps.Invoke c a ∷ before)
    (gives-bytes MAX_GIVES p c (length (messages_of p (trace_of p before)) + 1) (steps.Invoke c a ∷ before) (asks, all)) (asks, all)

event-bytes : (p : Params) (event : Event) (before : List Step) → AsksWithBytes (first_step event) → AllByRecursion AsksWithBytes before → AllByRecursion AsksWithBytes (steps_with p event before)
unfolding steps_with
event-bytes p (events.Do c a) before asks all = do-bytes p c a before asks all
event-bytes p events.Join before asks all = (asks, all)
event-bytes p (events.Invoke c a) before asks all = (asks, all)
event-bytes p (events.Give number) before asks all = (asks, all)
event-bytes p (events.Lie cloud c op key stamp say) before asks all = (asks, all)
event-bytes p (events.Tick c) before asks all = (asks, all)
event-bytes p (events.Stop c) before asks all = (asks, all)

elements : (xs : List ℕ) → IsBytes xs → AreElements IsElement xs
elements [] bytes_are = tt
elements (x ∷ xs) bytes_are = (bytes_are 0, elements xs (λ i. bytes_are (suc i)))

action-bytes : (last : ℕ) (a : Action) → IsTextAction last a → HasPutBytes a
action-bytes last (asked.Put key value) is = elements value is.1.bytes
action-bytes last (asked.Get key) is = tt
action-bytes last (asked.Delete key) is = tt
action-bytes last (asked.Collect key) is = tt
action-bytes last (asked.Swap key expected value) is = elements value is.2.bytes

asks-bytes : (params : StoreParams) (event : Event) → IsTextEvent params event → AsksWithBytes (first_step event)
asks-bytes params (events.Do c a) is = action-bytes MAX_SESSIONS a is.1
asks-bytes params (events.Invoke c a) is = action-bytes MAX_SESSIONS a is.1
asks-bytes params events.Join is = tt
asks-bytes params (events.Give number) is = tt
asks-bytes params (events.Lie cloud c op key stamp say) is = tt
asks-bytes params (events.Tick c) is = tt
asks-bytes params (events.Stop c) is = tt

run-bytes : (p : Params) (params : StoreParams) (list : List Event) (before : List Step) → AllByRecursion (IsTextEvent params) list → AllByRecursion AsksWithBytes before → AllByRecursion AsksWithBytes (steps_of p list before)
unfolding steps_of
run-bytes p params [] before text all = all
run-bytes p params (event ∷ later) before text all = run-bytes p params later (steps_with p event before) text.1 (event-bytes p event before (asks-bytes params event text.0) all)

pub schedule-bytes : (p : Params) (params : StoreParams) (list : List Event) → AllByRecursion (IsTextEvent params) list → ArePutBytes (trace_of p (steps_of p list []))
schedule-bytes p params list text = are-put-bytes p (steps_of p list []) (run-bytes p params list [] text tt)

-- a value that a text can tell is not too large
small-action : (last : ℕ) (a : Action) → IsTextAction last a → value_size a ≤ MAX_TEXT_VALUE
small-action last (asked.Put key value) is = is.1.short
small-action last (asked.Get key) is = omega arith
small-action last (asked.Delete key) is = omega arith
small-action last (asked.Collect key) is = omega arith
small-action last (asked.Swap key expected value) is = is.2.short

pub small-event : (params : StoreParams) (event : Event) → IsTextEvent params event → HasTextValue event
small-event params (events.Do c a) is = small-action MAX_SESSIONS a is.1
small-event params (events.Invoke c a) is = small-action MAX_SESSIONS a is.1
small-event params events.Join is = tt
small-event params (events.Give number) is = tt
small-event params (events.Lie cloud c op key stamp say) is = tt
small-event params (events.Tick c) is = tt
small-event params (events.Stop c) is = tt
