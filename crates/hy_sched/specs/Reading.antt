-- Reading the text of a schedule: the schedule, or the first fault.
use Rattle.std.specs.Prelude.{ℕ, ◌+◌, ◌-◌, true, ◌&&◌, nat_le, if◌then◌else◌, List, [], ◌∷◌, map, codes, Result, Ok, Err}
use Rattle.std.specs.Str.{bytes_eq}
use Rattle.hy_base.specs.declared.fault.Cause.{Cause}
use Rattle.hy_base.specs.declared.fault.Cause.TheVariants.{NoHeader, BadParams, BadNumber, TooManyOpen, TooManyLines}
use Rattle.hy_base.specs.declared.fault.TextFault.{TextFault}
use Rattle.hy_base.specs.declared.limits.TheConstants.{MAX_CLOUDS, MAX_COUNT, MAX_EVENTS, MAX_F, MAX_K, MAX_SESSIONS}
use Rattle.hy_base.specs.Results.{◌>>=◌}
use Rattle.hy_base.specs.Shape.{cloud_count}
use Rattle.hy_record.specs.declared.action.Action.{Action}
use Rattle.hy_text.specs.Action.{action_from}
use Rattle.hy_text.specs.declared.action.Verbs.TheVariants.{All}
use Rattle.hy_text.specs.Clouds.{cloud_set_of}
use Rattle.hy_text.specs.Kind.{Kind, items_from, item_from}
use Rattle.hy_text.specs.Line.{lines_of, first_word, later_words}
use Rattle.hy_text.specs.OpenLine.{Rest, opened}
use Rattle.hy_text.specs.Slot.{keyword, number_of, key_word, end_of}
use Rattle.hy_text.specs.Stamp.{stamp_from}
use Rattle.hy_text.specs.Table.{value_named}
use Rattle.hy_sched.specs.declared.event.Event.{Event}
use Rattle.hy_sched.specs.declared.event.Event.TheVariants as events
use Rattle.hy_sched.specs.declared.event_kind.EventKind.{EventKind}
use Rattle.hy_sched.specs.declared.event_kind.EventKind.TheVariants.{Open, Do, Invoke, Give, Lie, Tick, Stop}
use Rattle.hy_sched.specs.declared.params.Params.{Params}
use Rattle.hy_sched.specs.declared.schedule.Schedule.{Schedule}
use Rattle.hy_sched.specs.Params.{is_liar}
use Rattle.hy_sched.specs.Ranges.{is_join}
use Rattle.hy_sched.specs.Say.{say_from}
use Rattle.hy_sched.specs.Text.{event_word}

-- ---- the first line

-- a number in a range, after its name
unfoldable pub named_number : List ℕ → ℕ → ℕ → List (List ℕ) → Result (ℕ × List (List ℕ)) Cause
named_number name low high words =
    keyword name (first_word words) >>= λ _.
    number_of low high (first_word (later_words words)) >>= λ number.
    Ok (number, later_words (later_words words))

-- the parameters of a store: all words
unfoldable pub params_of_words : List (List ℕ) → Result Params Cause
params_of_words words =
    named_number (codes "f") 0 MAX_F words >>= λ f.
    named_number (codes "k") 1 MAX_K f.1 >>= λ k.
    keyword (codes "liars") (first_word k.1) >>= λ _.
    cloud_set_of (cloud_count f.0 k.0 - 1) (first_word (later_words k.1)) >>= λ liars.
    end_of (later_words (later_words k.1)) >>= λ _.
    Ok (record { f = f.0; k = k.0; liars = liars })

-- one cause for whatever is wrong with the parameters
abbrev pub as_bad_params : Result Params Cause → Result Params Cause
as_bad_params (Ok params) = Ok params
as_bad_params (Err cause) = Err BadParams

-- the words of the first line: the first two are judged before the rest
unfoldable pub header_of : List ℕ → List (List ℕ) → Result Params Cause
header_of name words =
    if bytes_eq name (codes "hybris") && bytes_eq (first_word words) (codes "1")
    then as_bad_params (params_of_words (later_words words)) else Err NoHeader

-- ---- the words of an event

-- all kinds of events
abbrev pub event_kinds : List EventKind
event_kinds = Open ∷ Do ∷ Invoke ∷ Give ∷ Lie ∷ Tick ∷ Stop ∷ []

-- the slot of a Byzantine cloud
unfoldable pub liar_of : Params → List ℕ → Result ℕ Cause
liar_of params word =
    number_of 0 (MAX_CLOUDS - 1) word >>= λ cloud. if is_liar params cloud then Ok cloud else Err BadNumber

-- a number in a range: all words
unfoldable pub number_of_words : ℕ → ℕ → List (List ℕ) → Result ℕ Cause
number_of_words low high words =
    number_of low high (first_word words) >>= λ number. end_of (later_words words) >>= λ _. Ok number

-- a client, and what it is asked for: all words
unfoldable pub request_of_words : List (List ℕ) → Result (ℕ × Action) Cause
request_of_words words =
    number_of 1 MAX_SESSIONS (first_word words) >>= λ client.
    action_from All MAX_SESSIONS (later_words words) >>= λ action.
    end_of action.1 >>= λ _.
    Ok (client, action.0)

-- the answer of a Byzantine cloud: all words
unfoldable pub lie_of_words : Params → List (List ℕ) → Result Event Cause
lie_of_words params words =
    liar_of params (first_word words) >>= λ cloud.
    number_of 1 MAX_SESSIONS (first_word (later_words words)) >>= λ client.
    number_of 1 MAX_COUNT (first_word (later_words (later_words words))) >>= λ op.
    key_word (first_word (later_words (later_words (later_words words)))) >>= λ key.
    stamp_from 1 MAX_SESSIONS (later_words (later_words (later_words (later_words words)))) >>= λ stamp.
    say_from stamp.1 >>= λ say.
    end_of say.1 >>= λ _.
    Ok (events.Lie cloud client op key stamp.0 say.0)

-- an event of a kind, of the words after that of the kind
unfoldable pub event_by : Params → EventKind → List (List ℕ) → Result Event Cause
event_by params Open words = end_of words >>= λ _. Ok events.Join
event_by params Do words = request_of_words words >>= λ asked. Ok (events.Do asked.0 asked.1)
event_by params Invoke words = request_of_words words >>= λ asked. Ok (events.Invoke asked.0 asked.1)
event_by params Give words = number_of_words 1 MAX_COUNT words >>= λ number. Ok (events.Give number)
event_by params Lie words = lie_of_words params words
event_by params Tick words = number_of_words 1 MAX_SESSIONS words >>= λ client. Ok (events.Tick client)
event_by params Stop words = number_of_words 1 MAX_SESSIONS words >>= λ client. Ok (events.Stop client)

-- an event, of its first word and the words after it
unfoldable pub event_of : Params → List ℕ → List (List ℕ) → Result Event Cause
event_of params word words = value_named event_word event_kinds word >>= λ kind. event_by params kind words

-- ---- the kinds of lines

-- the first line
abbrev pub header_line : Kind (Unit {0}) Params
header_line = record {
  is_due = λ before word. true;
  read = λ before word words. header_of word words;
  next = λ before params. before;
}

-- what stands before an event: the parameters of the store, so many events, and so many clients that joined
pub record Before : Type 0 where
  pub params : Params
  pub count : ℕ
  pub joined : ℕ

-- what stands before the first event
abbrev pub before_all : Params → Before
before_all params = record { params = params; count = 0; joined = 0 }

-- one client more joins only where there is room for it
abbrev pub room_for : ℕ → Event → Result (Unit {0}) Cause
room_for joined event = if is_join event && nat_le MAX_SESSIONS joined then Err TooManyOpen else Ok tt

-- how many clients joined, with this event
abbrev pub joined_with : ℕ → Event → ℕ
joined_with joined event = if is_join event then joined + 1 else joined

-- an event where so much stands before it
unfoldable pub event_at : Before → List ℕ → List (List ℕ) → Result Event Cause
event_at before word words =
    if nat_le MAX_EVENTS before.count then Err TooManyLines
    else event_of before.params word words >>= λ event. room_for before.joined event >>= λ _. Ok event

-- the lines of events
abbrev pub event_lines : Kind Before Event
event_lines = record {
  is_due = λ before word. true;
  read = event_at;
  next = λ before event.
      record { params = before.params; count = before.count + 1; joined = joined_with before.joined event };
}

-- ---- the whole text

-- the lines of a schedule
unfoldable pub schedule_at : Rest → Result Schedule TextFault
schedule_at rest =
    item_from NoHeader header_line tt rest.number rest.lines >>= λ header.
    items_from event_lines (before_all header.0) header.1.number header.1.lines >>= λ events.
    Ok (record { params = header.0; events = events.0 })

-- the schedule that the text is, or the first fault of the text
unfoldable pub schedule_of : List ℕ → Result Schedule TextFault
schedule_of text = schedule_at (record { number = 1; lines = map opened (lines_of text) })
