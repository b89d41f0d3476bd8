-- The lines of the events so far.
use Rattle.std.proofs.Common.{◌≡◌, ◌++◌, map, take}
use Rattle.hy_text.specs.Line.{text_of}
use Rattle.hy_sched.specs.Text.{event_row}
use Rattle.hy_sched.proofs.writing.push_events.Given as goal

abbrev pub invariant-loop-event : goal.invariant-loop-event
invariant-loop-event l = l.out.items ≡ l.initial.out.items ++ text_of (map event_row (take l.event-index l.events))
