-- When a session may do a step, and what it is told: the answers are those of the log that it has then seen.
use Rattle.std.specs.Prelude.{◌≡◌, ℕ, ◌*◌, ◌<◌, Bool, true, false, ◌++◌, List, Option, Some, None}
use Rattle.hy_record.specs.Stamp.{Timestamp, next_stamp}
use Rattle.hy_record.specs.Record.{RecordValue}
use Rattle.hy_shared.specs.Rows.{FitsLayout, record_words}
use Rattle.hy_record.specs.declared.action.Reply.{Reply}
use Rattle.hy_points.specs.Atomic.{no_stamp, writes, logged_stamp, IsAtomicLog}
use Rattle.hy_points.specs.Stamps.{reply_stamp}
use Rattle.hy_shared.specs.declared.running.Running.{Running}
use Rattle.hy_shared.specs.declared.said.Seen.{Seen}
use Rattle.hy_shared.specs.declared.said.Said.{Said}
use Rattle.hy_shared.specs.declared.said.Said.TheVariants.{Applied, Kept}
use Rattle.hy_shared.specs.declared.event.Event.TheVariants.{Ask, Set, End}
use Rattle.hy_points.specs.Lookups.{setting}
use Rattle.hy_shared.specs.declared.layout.Layout.{Layout}
use Rattle.hy_shared.specs.declared.view.View.{View}
use Rattle.hy_shared.specs.Layout.{client_of}
use Rattle.hy_shared.specs.Events.{points_of, key_name}
use Rattle.hy_shared.specs.declared.event.Event.{Event}
use Rattle.std.specs.List.{AllByRecursion, slice_get}
use Rattle.hy_shared.specs.Rule.{IsWriting, IsOther, IsWithin, Begins}
use Rattle.hy_shared.specs.Sessions.{SessionValue, SeesHistory, MayReply}

-- an operation runs, and may return with the reply
pub record MayFinish (before : SessionValue) (answer : Reply) : Type 0 where
  pub running : Running
  pub runs : before.running ≡ Some running
  pub may : MayReply before.client before.seen running answer

-- the operation returned
pub record Finishes (before : SessionValue) (answer : Reply) (after : SessionValue) : Type 0 where
  pub running : Running
  pub ran : before.running ≡ Some running
  pub sees : SeesHistory before (End running.row (reply_stamp answer)) after
  pub begun : after.begun ≡ before.begun
  pub idle : after.running ≡ None

-- an operation runs that has not written
pub record MayRead (before : SessionValue) : Type 0 where
  pub running : Running
  pub runs : before.running ≡ Some running
  pub not_set : running.set ≡ None

-- the timestamp of what was seen
abbrev pub seen_stamp : Option Seen → Timestamp
seen_stamp None = no_stamp
seen_stamp (Some seen) = seen.stamp

-- what was seen is a writing of the log
abbrev pub IsSeenIn : SessionValue → ℕ → Option Seen → Type 0
IsSeenIn after key None = Unit {0}
IsSeenIn after key (Some seen) =
    (0 < seen.stamp.sn) × (seen.row < after.table.layout.clients * after.table.layout.ops) × IsWriting after.seen key seen.row seen.stamp

-- the operation has read the head of its key
pub record Looks (before : SessionValue) (answer : Option Seen) (after : SessionValue) : Type 0 where
  pub running : Running
  pub ran : before.running ≡ Some running
  pub sees : SeesHistory before (Ask running.row (seen_stamp answer)) after
  pub begun : after.begun ≡ before.begun
  pub runs : after.running ≡ Some (record { row = running.row; key = running.key; act = running.act; found = Some (seen_stamp answer); set = running.set })
  pub written : IsSeenIn after running.key answer

-- a write runs that has read and not written, and the record may be written: it is of the table's shape, and its
-- timestamp is the next of its client after the one read last
pub record MayUpdate (before : SessionValue) (rec : RecordValue) : Type 0 where
  pub running : Running
  pub runs : before.running ≡ Some running
  pub is_write : writes running.act ≡ true
  pub not_set : running.set ≡ None
  pub found : Timestamp
  pub read : running.found ≡ Some found
  pub next : next_stamp found before.client ≡ Some rec.stamp
  pub fits : FitsLayout before.table.layout rec

abbrev pub is_applied : Said → Bool
is_applied Applied = true
is_applied (Kept stamp) = false

-- where it was refused, the answer is the record's timestamp
abbrev pub IsKeptAt : Timestamp → Said → Type 0
IsKeptAt held Applied = Unit {0}
IsKeptAt held (Kept stamp) = stamp ≡ held

-- the operation has written to the head of its key
pub record Raises (before : SessionValue) (stamp : Timestamp) (words : List ℕ) (answer : Said) (after : SessionValue) : Type 0 where
  pub running : Running
  pub ran : before.running ≡ Some running
  pub sees : SeesHistory before (Set running.row running.key stamp (is_applied answer) words) after
  pub begun : after.begun ≡ before.begun
  pub runs : after.running ≡ Some (record { row = running.row; key = running.key; act = running.act; found = running.found; set = Some stamp })
  pub kept : IsKeptAt (logged_stamp (points_of (before.seen ++ sees.between)) (key_name running.key)) answer

-- it has written this record
abbrev pub Updates : SessionValue → RecordValue → Said → SessionValue → Type 0
Updates before rec answer after = Raises before rec.stamp (record_words rec) answer after

-- the log that a session has then seen begins with its own and with the other's, and has no new event of its client;
-- its operations stay
pub record MergesViews (other before after : SessionValue) : Type 0 where
  pub table : after.table ≡ before.table
  pub client : after.client ≡ before.client
  pub begun : after.begun ≡ before.begun
  pub running : after.running ≡ before.running
  pub between : List Event
  pub seen : after.seen ≡ before.seen ++ between
  pub others : AllByRecursion (IsOther before.table.layout before.client) between
  pub met : Begins other.seen after.seen
  pub atomic : IsAtomicLog (points_of after.seen)
  pub within : AllByRecursion (IsWithin before.table.layout before.table.layout.clients) after.seen

-- the row is one of the view's client, which has written no record with it
pub record OwnsRow (z : Layout) (v : View) (row : ℕ) : Type 0 where
  pub client : client_of z row ≡ v.number
  pub inside : row < z.clients * z.ops
  pub unset : setting (points_of v.seen) row ≡ None

-- the number is the word at this place of each record that the log has of the row
abbrev pub IsWordOf : List Event → ℕ → ℕ → ℕ → Type 0
IsWordOf log row i n = (place key : ℕ) (stamp : Timestamp) (applied : Bool) (words : List ℕ) (v : ℕ)
    → slice_get log place ≡ Some (Set row key stamp applied words) → slice_get words i ≡ Some v → n ≡ v
