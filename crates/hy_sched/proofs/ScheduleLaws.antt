-- The two laws of the text of a schedule: what is read is spelled so, and what is spelled so is read.
use Rattle.std.proofs.Common.{◌≡◌, ℕ, ◌+◌, ◌<◌, ◌≤◌, Bool, true, false, cond, ◌&&◌, nat_le, List, [], ◌∷◌, ◌++◌, length, map, Result, Ok, Err, refl, sym, ap, subst, ◌∙◌, arith, append-nil}
use Rattle.std.specs.Prelude.{IfOk}
use Rattle.std.specs.List.{AllByRecursion, list_all}
use Rattle.std.proofs.lemmas.Bool.{and_from, leb-false, lt-leb}
use Rattle.std.proofs.lemmas.List.Sums.{sum_by-cons}
use Rattle.hy_base.specs.Results.{◌>>=◌}
use Rattle.hy_base.specs.declared.fault.Cause.{Cause}
use Rattle.hy_base.specs.declared.fault.Cause.TheVariants.{NoHeader, TooManyOpen, TooManyLines}
use Rattle.hy_base.specs.declared.fault.TextError.{TextError}
use Rattle.hy_base.specs.declared.fault.TextError.TheVariants as errors
use Rattle.hy_base.specs.declared.fault.TextFault.{TextFault}
use Rattle.hy_base.specs.declared.limits.TheConstants.{MAX_EVENTS, MAX_SESSIONS}
use Rattle.hy_base.proofs.Results.{bind_ok, ok_is}
use Rattle.hy_text.specs.Gives.{GivesText, at_line, next_number}
use Rattle.hy_text.specs.Kind.{is_next_due, item_in, items_from, item_from}
use Rattle.hy_text.specs.Line.{Line, lines_of, is_row}
use Rattle.hy_text.specs.OpenLine.{OpenLine, Rest, opened}
use Rattle.hy_text.proofs.ItemRows.{rows_in, all_ended, line_of_row, lines_written, lines_written-rows, text_of-rows, item_ok, IsRowOf, Takes, ReadsAgain, FitAlong, state_after, items_take, items_again}
use Rattle.hy_text.proofs.Rows.{lines_of-text_of}
use Rattle.hy_text.proofs.Slots.{at_line_ok}
use Rattle.hy_sched.specs.declared.event.Event.{Event}
use Rattle.hy_sched.specs.declared.event.Event.TheVariants as events
use Rattle.hy_sched.specs.declared.params.Params.{Params}
use Rattle.hy_sched.specs.declared.schedule.Schedule.{Schedule}
use Rattle.hy_sched.specs.Params.{IsParams}
use Rattle.hy_sched.specs.Ranges.{is_join, joined_count, IsTextEvent, IsSchedule}
use Rattle.hy_sched.specs.Reading.{before_all, header_line, Before, event_of, room_for, joined_with, event_at, event_lines, schedule_at, schedule_of}
use Rattle.hy_sched.specs.Text.{header_row, event_row, schedule_rows, schedule_text, IsScheduleText}
use Rattle.hy_sched.proofs.EventRows.{event_takes, event_again, event_is_row}
use Rattle.hy_sched.proofs.HeaderRows.{header_takes, header_again, header_is_row}

-- ---- the line of an event

-- the event is in range in this store, and there is room for it
record FitsAfter (before : Before) (event : Event) : Type 0 where
  params : IsParams before.params
  range : IsTextEvent before.params event
  few : before.count < MAX_EVENTS
  room : (is_join event && nat_le MAX_SESSIONS before.joined) ≡ false

-- a store can have these parameters
abbrev HasParams : Before → Type 0
HasParams before = IsParams before.params

barred : {A : Type 0} (t : Bool) (cause : Cause) (read : Result A Cause) (x : A) → cond t (Err cause) read ≡ Ok x → (t ≡ false) × (read ≡ Ok x)
barred true cause read x e = absurd cc
barred false cause read x e = (refl, e)

event_line_takes : Takes event_lines event_row FitsAfter HasParams
unfolding event_at
event_line_takes before keyword words event holds due e =
    let counts = barred (nat_le MAX_EVENTS before.count) TooManyLines (event_of before.params keyword words >>= λ event. room_for before.joined event >>= λ _. Ok event) event e in
    let read = bind_ok (event_of before.params keyword words) (λ event. room_for before.joined event >>= λ _. Ok event) event counts.1 in
    let room = bind_ok (room_for before.joined read.0) (λ _. Ok read.0) event read.2 in
    let below = leb-false MAX_EVENTS before.count counts.0 in
    let spells = event_takes before.params keyword words read.0 read.1 in
    subst (IsRowOf event_row FitsAfter before (keyword ∷ words)) (ok_is read.0 event room.2)
    (record {
      row = spells.row;
      fits = record {
        params = holds;
        range = spells.fits;
        few = omega arith;
        room = (barred (is_join read.0 && nat_le MAX_SESSIONS before.joined) TooManyOpen (Ok tt) room.0 room.1).0;
      };
    })

event_line_again : ReadsAgain event_lines event_row FitsAfter
unfolding event_at
event_line_again before event fits =
    (refl, rw (lt-leb MAX_EVENTS before.count fits.few, event_again before.params event fits.params fits.range, fits.room) refl)

-- ---- all lines of events

-- the events are in range, and there is room for all
record HasRoom (before : Before) (list : List Event) : Type 0 where
  range : AllByRecursion (IsTextEvent before.params) list
  few : before.count + length list ≤ MAX_EVENTS
  joined : before.joined + joined_count list ≤ MAX_SESSIONS

joined-more : (joined : ℕ) (event : Event) (list : List Event) → joined_with joined event + joined_count list ≡ joined + joined_count (event ∷ list)
joined-more joined events.Join list = simp sum_by-cons (omega arith)
joined-more joined (events.Do client action) list = simp sum_by-cons (omega arith)
joined-more joined (events.Invoke client action) list = simp sum_by-cons (omega arith)
joined-more joined (events.Give number) list = simp sum_by-cons (omega arith)
joined-more joined (events.Lie cloud client op key stamp say) list = simp sum_by-cons (omega arith)
joined-more joined (events.Tick client) list = simp sum_by-cons (omega arith)
joined-more joined (events.Stop client) list = simp sum_by-cons (omega arith)

-- so many clients joined after an event that there was room for
joined-within : (joins full : Bool) (joined : ℕ) → (joins && full) ≡ false → (full ≡ false → joined < MAX_SESSIONS) → joined ≤ MAX_SESSIONS → cond joins (joined + 1) joined ≤ MAX_SESSIONS
joined-within true full joined room below within = let less = below room in omega arith
joined-within false full joined room below within = within

has_room : (before : Before) (list : List Event) → before.count ≤ MAX_EVENTS → before.joined ≤ MAX_SESSIONS → FitAlong event_lines FitsAfter before list → HasRoom before list
has_room before [] few within fits = record { range = tt; few = omega arith; joined = omega arith }
has_room before (event ∷ list) few within fits =
    let one : FitsAfter before event = fits.0 in
    let joined = joined-within (is_join event) (nat_le MAX_SESSIONS before.joined) before.joined one.room (λ e. leb-false MAX_SESSIONS before.joined e) within in
    let more = has_room (event_lines.next before event) list (omega (arith, one.few)) joined fits.1 in
    record {
      range = (one.range, more.range);
      few = omega (arith, more.few);
      joined = omega (arith, more.joined, joined-more before.joined event list);
    }

has_room_for : (joined : ℕ) (event : Event) → joined_with joined event ≤ MAX_SESSIONS → (is_join event && nat_le MAX_SESSIONS joined) ≡ false
has_room_for joined events.Join within = lt-leb MAX_SESSIONS joined (omega arith)
has_room_for joined (events.Do client action) within = refl
has_room_for joined (events.Invoke client action) within = refl
has_room_for joined (events.Give number) within = refl
has_room_for joined (events.Lie cloud client op key stamp say) within = refl
has_room_for joined (events.Tick client) within = refl
has_room_for joined (events.Stop client) within = refl

fit_along : (before : Before) (list : List Event) → IsParams before.params → HasRoom before list → FitAlong event_lines FitsAfter before list
fit_along before [] params room = tt
fit_along before (event ∷ list) params room =
    let sums = joined-more before.joined event list in
    let few : before.count + length (event ∷ list) ≤ MAX_EVENTS = room.few in
    let all : before.joined + joined_count (event ∷ list) ≤ MAX_SESSIONS = room.joined in (
      record { params = params; range = room.range.0; few = omega arith; room = has_room_for before.joined event (omega arith) },
      fit_along (event_lines.next before event) list params (record { range = room.range.1; few = omega arith; joined = omega arith }),
    )

-- an event is due wherever a line is left
none_left : (before : Before) (lines : List OpenLine) → is_next_due event_lines before lines ≡ false → lines ≡ []
none_left before [] other = refl
none_left before (line ∷ lines) other = absurd cc

-- ---- the first line

-- the line is the row of these parameters, with its end, and those after it are left
record IsHeader (line : OpenLine) (lines : List OpenLine) (read : Params × Rest) : Type 0 where
  row : line.keyword ∷ line.words ≡ header_row read.0
  fits : IsParams read.0
  ended : line.ended ≡ true
  left : lines ≡ read.1.lines

header_line_takes : (number : ℕ) (line : OpenLine) (lines : List OpenLine) (read : Params × Rest) → item_from NoHeader header_line tt number (line ∷ lines) ≡ Ok read → IsHeader line lines read
header_line_takes number line lines read e =
    let rest : Rest = record { number = next_number number; lines = lines } in
    let here = bind_ok (at_line number (item_in header_line tt line)) (λ params. Ok (params, rest)) read e in
    let parts = item_ok header_line tt line here.0 (at_line_ok number (item_in header_line tt line) here.0 here.1) in
    let header = header_takes line.keyword line.words here.0 parts.1 in
    subst (IsHeader line lines) (ok_is (here.0, rest) read here.2) (record { row = header.0; fits = header.1; ended = parts.0; left = refl })

-- ---- what is read is the text of a schedule

-- the lines are those of the text of a schedule
record AreScheduleLines (lines : List OpenLine) (schedule : Schedule) : Type 0 where
  rows : rows_in lines ≡ schedule_rows schedule
  ended : all_ended lines ≡ true
  fits : IsSchedule schedule

events_take : (params : Params) (number : ℕ) (lines : List OpenLine) (read : List Event × Rest) → IsParams params → items_from event_lines (before_all params) number lines ≡ Ok read
    → (rows_in lines ≡ map event_row read.0) × (all_ended lines ≡ true) × HasRoom (before_all params) read.0
events_take params number lines read fits e =
    let all = items_take event_lines event_row FitsAfter HasParams event_line_takes (λ before event holds. holds) (before_all params) number lines read fits e in
    let none = none_left (state_after event_lines (before_all params) read.0) read.1.lines all.other in (
      all.rows ∙ ap (λ (left : List OpenLine). map event_row read.0 ++ rows_in left) none ∙ append-nil (map event_row read.0),
      all.ended (ap all_ended none),
      has_room (before_all params) read.0 (omega arith) (omega arith) all.fits,
    )

schedule_lines_take : (number : ℕ) (lines : List OpenLine) (schedule : Schedule) → schedule_at (record { number = number; lines = lines }) ≡ Ok schedule → AreScheduleLines lines schedule
unfolding schedule_at
schedule_lines_take number [] schedule e = absurd cc
schedule_lines_take number (line ∷ lines) schedule e =
    let header = bind_ok (item_from NoHeader header_line tt number (line ∷ lines)) _ schedule e in
    let params : Params = header.0.0 in
    let rest : Rest = header.0.1 in
    let list = bind_ok (items_from event_lines (before_all params) rest.number rest.lines) (λ list. Ok (record { params = params; events = list.0 })) schedule header.2 in
    let h = header_line_takes number line lines header.0 header.1 in
    let all = events_take params rest.number rest.lines list.0 h.fits list.1 in
    let rows : rows_in lines ≡ map event_row list.0.0 = ap rows_in h.left ∙ all.0 in
    subst (AreScheduleLines (line ∷ lines)) (ok_is (record { params = params; events = list.0.0 }) schedule list.2)
    (record {
      rows = ap (λ (row : List (List ℕ)). row ∷ rows_in lines) h.row ∙ ap (λ (more : List (List (List ℕ))). header_row params ∷ more) rows;
      ended = and_from line.ended (all_ended lines) h.ended (ap all_ended h.left ∙ all.1);
      fits = record { params = h.fits; events = all.2.range; few = omega (arith, all.2.few); joined = omega (arith, all.2.joined) };
    })

pub schedule_takes : (text : List ℕ) (schedule : Schedule) → schedule_of text ≡ Ok schedule → IsSchedule schedule × (text ≡ schedule_text schedule)
unfolding schedule_of
schedule_takes text schedule e =
    let all = schedule_lines_take 1 (map opened (lines_of text)) schedule e in
    (all.fits, text_of-rows text (schedule_rows schedule) all.rows all.ended)

-- ---- the text of a schedule is read

events_are_rows : (params : Params) (list : List Event) → IsParams params → AllByRecursion (IsTextEvent params) list → list_all is_row (map event_row list) ≡ true
events_are_rows params [] fits are = refl
events_are_rows params (event ∷ list) fits are = and_from (is_row (event_row event)) _ (event_is_row params event fits are.0) (events_are_rows params list fits are.1)

events_again : (params : Params) (number : ℕ) (list : List Event) → IsParams params → HasRoom (before_all params) list
    → (last : ℕ) × (items_from event_lines (before_all params) number (lines_written (map event_row list)) ≡ Ok (list, record { number = last; lines = [] }))
events_again params number list fits room =
    let all = items_again event_lines event_row FitsAfter event_line_again (before_all params) number list [] (fit_along (before_all params) list fits room) refl in
    let lines : lines_written (map event_row list) ≡ map (λ (event : Event). line_of_row (event_row event)) list ++ [] =
    ap lines_written (sym (append-nil (map event_row list))) ∙ lines_written-rows event_row list [] in
    (all.0, ap (items_from event_lines (before_all params) number) lines ∙ all.1)

schedule_lines_again : (schedule : Schedule) → IsSchedule schedule → schedule_at (record { number = 1; lines = lines_written (schedule_rows schedule) }) ≡ Ok schedule
unfolding schedule_at
schedule_lines_again schedule is =
    let room : HasRoom (before_all schedule.params) schedule.events = record { range = is.events; few = omega (arith, is.few); joined = omega (arith, is.joined) } in
    let all = events_again schedule.params (next_number 1) schedule.events is.params room in
    rw (header_again schedule.params is.params, all.1) refl

pub schedule_again : (schedule : Schedule) → IsSchedule schedule → schedule_of (schedule_text schedule) ≡ Ok schedule
unfolding schedule_of
schedule_again schedule is =
    let rows = lines_of-text_of (schedule_rows schedule)
    (and_from (is_row (header_row schedule.params)) _ (header_is_row schedule.params is.params) (events_are_rows schedule.params schedule.events is.params is.events)) in
    ap (λ (lines : List Line). schedule_at (record { number = 1; lines = map opened lines })) rows ∙ schedule_lines_again schedule is

-- ---- the reader's clauses

-- what is read is the text of the schedule
pub is_found : (text : List ℕ) (result : Result Schedule TextError) → GivesText result (schedule_of text) → IfOk result (λ schedule. IsSchedule schedule × (text ≡ schedule_text schedule))
is_found text (Ok schedule) gives = schedule_takes text schedule gives
is_found text (Err error) gives = tt

-- the text of a schedule has no fault
pub is_refused : (text : List ℕ) (fault : TextFault) → GivesText (Err (errors.Fault fault)) (schedule_of text) → IsScheduleText text → ⊥
is_refused text fault gives spelled =
    let read : schedule_of text ≡ Ok spelled.0 = ap schedule_of spelled.2 ∙ schedule_again spelled.0 spelled.1 in
    absurd cc
