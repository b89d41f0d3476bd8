-- The course of an operation: what has become of it since it began.
use Rattle.std.specs.Prelude.{◌≡◌, ℕ, ◌+◌, Bool, true, false, ◌==◌, ◌&&◌, ◌||◌, List, [], ◌∷◌, length, Option, Some, None, slice_index_or, is_some, if◌then◌else◌}
use Rattle.std.specs.Option.{option_map, option_or}
use Rattle.hy_record.specs.Stamp.{Timestamp, stamp_lt}
use Rattle.hy_meta.specs.Service.{stamp_of_record, record_after}
use Rattle.hy_protocol.specs.Read.{Version, version_of}
use Rattle.hy_protocol.specs.Write.{first_has}
use Rattle.hy_record.specs.Record.{RecordValue}
use Rattle.hy_protocol.specs.Inputs.{has_of}
use Rattle.hy_trace.specs.Deeds.{Params, Deed, Joined, Began, Handed, Served, Granted, Stopped, Nothing, served, inputs_of}
use Rattle.hy_trace.specs.History as history
use Rattle.hy_trace.specs.Points.{Update, first_update, is_own, version_made, was_applied}
use Rattle.hy_log.specs.declared.course.Returned.{Returned}
use Rattle.hy_log.specs.declared.course.FirstUpdate.{FirstUpdate}
use Rattle.hy_log.specs.declared.course.Course.{Course}
use Rattle.hy_log.specs.declared.course.News.{News}
use Rattle.hy_log.specs.declared.course.News.TheVariants.{Heard, Replied, Updated}
use Rattle.hy_log.specs.declared.notes.Note.{Note}
use Rattle.hy_log.specs.declared.effects.Heard as effects
use Rattle.hy_log.specs.declared.effects.Return.{Return}
use Rattle.hy_log.specs.declared.effects.Updated as updates

-- nothing has become of the operation
abbrev pub fresh : Course
fresh = record { returned = None; first = None; first_made = 0; version = None; made = 0; updated = None; is_applied = false }

-- the timestamp is above the one known, or none is known
abbrev pub is_newer : Option Timestamp → Timestamp → Bool
is_newer None stamp = true
is_newer (Some known) stamp = stamp_lt known stamp

-- the course after what the operation met
abbrev pub noted : News → Course → Course
noted (Heard stamp made) course =
    record {
      returned = course.returned;
      first = option_or course.first (Some stamp);
      first_made = if is_some course.first then course.first_made else made;
      version = if is_newer course.version stamp then Some stamp else course.version;
      made = if is_newer course.version stamp then made else course.made;
      updated = course.updated;
      is_applied = course.is_applied;
    }
noted (Replied at reply) course =
    record {
      returned = Some (record { at = at; reply = reply });
      first = course.first;
      first_made = course.first_made;
      version = course.version;
      made = course.made;
      updated = course.updated;
      is_applied = course.is_applied;
    }
noted (Updated at is_applied found) course =
    record {
      returned = course.returned;
      first = course.first;
      first_made = course.first_made;
      version = course.version;
      made = course.made;
      updated = option_or course.updated (Some (record { at = at; is_applied = is_applied; found = found }));
      is_applied = is_applied || course.is_applied;
    }

-- what an operation meets where it is told the record
abbrev pub note_of_heard : Option effects.Heard → Option Note
note_of_heard None = None
note_of_heard (Some h) = Some (record { client = h.client; op = h.op; news = Heard h.stamp h.made })

-- what an operation meets where it replies, at this step
abbrev pub note_of_return : ℕ → Option Return → Option Note
note_of_return at None = None
note_of_return at (Some r) = Some (record { client = r.client; op = r.op; news = Replied at r.reply })

-- what an operation meets where its update is served, at this step
abbrev pub note_of_update : ℕ → Option updates.Updated → Option Note
note_of_update at None = None
note_of_update at (Some u) = Some (record { client = u.client; op = u.op; news = Updated at u.is_applied u.found })

-- the course of this operation after a note, which may be of another one
abbrev pub noted_by : Option Note → ℕ → ℕ → Course → Course
noted_by None c o course = course
noted_by (Some note) c o course = if note.client == c && note.op == o then noted note.news course else course

-- the course at this number in the list of a client; past its end nothing was noted
abbrev pub course_in : List Course → ℕ → Course
course_in courses o = slice_index_or courses o fresh

-- the course of this operation of the client in the lists of all
abbrev pub course_at : List (List Course) → ℕ → ℕ → Course
course_at clients c o = course_in (slice_index_or clients c []) o

-- when an operation returned, as it is kept
abbrev pub kept_return : history.Return → Returned
kept_return r = record { at = r.at; reply = r.reply }

abbrev pub version_stamp : Version → Timestamp
version_stamp v = stamp_of_record v.rec

-- the timestamp of the key's record before the deed of the step
unfoldable pub stamp_before : List Deed → List ℕ → ℕ → Timestamp
stamp_before [] key step = stamp_of_record None
stamp_before (d ∷ before) key step =
    if step == length before + 1 then stamp_of_record (record_after (served before) key) else stamp_before before key step

abbrev pub kept_update : List Deed → Update → FirstUpdate
kept_update t u = record { at = u.step; is_applied = u.is_applied; found = stamp_before t u.key u.step }

-- where the first answer was made that told the record, after an input that tells this record or none, and was made at this step
abbrev pub earlier_made : Option (Option RecordValue) → Option (Option RecordValue) → ℕ → ℕ → ℕ
earlier_made (Some held) has made old = old
earlier_made None None made old = old
earlier_made None (Some held) made old = made

-- the step at which the service made the answer that told an operation the record first
unfoldable pub first_made : ℕ → ℕ → List Deed → ℕ
first_made client op [] = 0
first_made client op (Handed c o made cue ∷ before) =
    if c == client && o == op
    then earlier_made (first_has (inputs_of client op before)) (has_of cue) made (first_made client op before)
    else first_made client op before
first_made client op (Served ask ∷ before) = first_made client op before
first_made client op (Joined ∷ before) = first_made client op before
first_made client op (Began c o a ∷ before) = first_made client op before
first_made client op (Granted ask ∷ before) = first_made client op before
first_made client op (Stopped c ∷ before) = first_made client op before
first_made client op (Nothing ∷ before) = first_made client op before

-- the course of an operation in a trace
unfoldable pub course_of : Params → List Deed → ℕ → ℕ → Course
course_of p t c o =
    record {
      returned = option_map kept_return (history.return_of p c o t);
      first = option_map stamp_of_record (first_has (inputs_of c o t));
      first_made = first_made c o t;
      version = option_map version_stamp (version_of (inputs_of c o t));
      made = version_made c o t;
      updated = option_map (kept_update t) (first_update (is_own c o) t);
      is_applied = was_applied (served t) c o;
    }

-- each operation's course is that of the trace
abbrev pub AreCourses : Params → List Deed → List (List Course) → Type 0
AreCourses p t clients = (c o : ℕ) → course_at clients c o ≡ course_of p t c o
