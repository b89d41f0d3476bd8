-- The text of a schedule: a first line for the store, and a line for each event, the oldest first.
use Rattle.std.specs.Prelude.{◌≡◌, ℕ, List, [], ◌∷◌, ◌++◌, map, codes}
use Rattle.std.specs.Fmt.{decimal}
use Rattle.hy_record.specs.Clouds.{clouds_of}
use Rattle.hy_text.specs.Action.{action_words}
use Rattle.hy_text.specs.Clouds.{cloud_word}
use Rattle.hy_text.specs.Line.{text_of}
use Rattle.hy_text.specs.Stamp.{stamp_words}
use Rattle.hy_sched.specs.declared.event.Event.{Event}
use Rattle.hy_sched.specs.declared.event.Event.TheVariants as events
use Rattle.hy_sched.specs.declared.event_kind.EventKind.{EventKind}
use Rattle.hy_sched.specs.declared.event_kind.EventKind.TheVariants.{Open, Do, Invoke, Give, Lie, Tick, Stop}
use Rattle.hy_sched.specs.declared.params.Params.{Params}
use Rattle.hy_sched.specs.declared.schedule.Schedule.{Schedule}
use Rattle.hy_sched.specs.Ranges.{IsSchedule}
use Rattle.hy_sched.specs.Say.{say_words}

-- the words of the parameters
abbrev pub params_words : Params → List (List ℕ)
params_words params =
    codes "f" ∷ decimal params.f ∷ codes "k" ∷ decimal params.k
    ∷ codes "liars" ∷ cloud_word (clouds_of params.liars) ∷ []

-- the first line
abbrev pub header_row : Params → List (List ℕ)
header_row params = codes "hybris" ∷ codes "1" ∷ params_words params

-- the first word of an event of a kind
abbrev pub event_word : EventKind → List ℕ
event_word Open = codes "open"
event_word Do = codes "do"
event_word Invoke = codes "invoke"
event_word Give = codes "give"
event_word Lie = codes "lie"
event_word Tick = codes "tick"
event_word Stop = codes "stop"

-- the kind of an event
abbrev pub event_kind : Event → EventKind
event_kind events.Join = Open
event_kind (events.Do client action) = Do
event_kind (events.Invoke client action) = Invoke
event_kind (events.Give number) = Give
event_kind (events.Lie cloud client op key stamp say) = Lie
event_kind (events.Tick client) = Tick
event_kind (events.Stop client) = Stop

-- the words of an event after its first
abbrev pub event_words : Event → List (List ℕ)
event_words events.Join = []
event_words (events.Do client action) = decimal client ∷ action_words action
event_words (events.Invoke client action) = decimal client ∷ action_words action
event_words (events.Give number) = decimal number ∷ []
event_words (events.Lie cloud client op key stamp say) =
    decimal cloud ∷ decimal client ∷ decimal op ∷ key ∷ (stamp_words stamp ++ say_words say)
event_words (events.Tick client) = decimal client ∷ []
event_words (events.Stop client) = decimal client ∷ []

-- the line of an event
abbrev pub event_row : Event → List (List ℕ)
event_row event = event_word (event_kind event) ∷ event_words event

-- the lines of a schedule
abbrev pub schedule_rows : Schedule → List (List (List ℕ))
schedule_rows schedule = header_row schedule.params ∷ map event_row schedule.events

-- the text of a schedule
abbrev pub schedule_text : Schedule → List ℕ
schedule_text schedule = text_of (schedule_rows schedule)

-- the text is that of a schedule
abbrev pub IsScheduleText : List ℕ → Type 0
IsScheduleText text = (schedule : Schedule) × IsSchedule schedule × (text ≡ schedule_text schedule)
