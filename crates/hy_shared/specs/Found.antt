-- What a reading found is a writing of the log.
use Rattle.std.specs.Prelude.{◌≡◌, ℕ, ◌*◌, ◌<◌, Bool, List, Option, Some, None}
use Rattle.std.specs.List.{slice_get}
use Rattle.hy_record.specs.Stamp.{Timestamp}
use Rattle.hy_points.specs.Atomic.{no_stamp}
use Rattle.hy_shared.specs.declared.layout.Layout.{Layout}
use Rattle.hy_shared.specs.declared.event.Event.{Event}
use Rattle.hy_shared.specs.declared.event.Event.TheVariants.{Ask, Set}
use Rattle.hy_shared.specs.declared.running.Running.{Running}
use Rattle.hy_shared.specs.declared.said.Seen.{Seen}
use Rattle.hy_shared.specs.declared.found.Found.{Found}
use Rattle.hy_shared.specs.Rows.{IsRowOf, FitsLayout}
use Rattle.hy_shared.specs.Recorded.{HasRecord}
use Rattle.hy_shared.specs.Sessions.{SessionValue, SeesHistory}

-- the log has a writing of the key with this row and these words, which are those of a record
abbrev pub IsWritten : Layout → List Event → ℕ → ℕ → Timestamp → List ℕ → Type 0
IsWritten z log key row stamp words = (place : ℕ) × (applied : Bool) × (slice_get log place ≡ Some (Set row key stamp applied words)) × IsRowOf z stamp words

-- there is such a writing
abbrev pub HasWritten : Layout → List Event → ℕ → ℕ → Timestamp → Type 0
HasWritten z log key row stamp = (words : List ℕ) × IsWritten z log key row stamp words

abbrev pub seen_of : Found → Seen
seen_of found = record { stamp = found.rec.stamp; row = found.row }

-- the timestamp of what was found
abbrev pub found_stamp : Option Found → Timestamp
found_stamp None = no_stamp
found_stamp (Some found) = found.rec.stamp

-- the operation of the row has written this very record to the key, and both are of the table
pub record IsFound (after : SessionValue) (key : ℕ) (found : Found) : Type 0 where
  pub row_in : found.row < after.table.layout.clients * after.table.layout.ops
  pub written : HasRecord after.seen key found.row found.rec
  pub fits : FitsLayout after.table.layout found.rec

abbrev pub IsFoundIn : SessionValue → ℕ → Option Found → Type 0
IsFoundIn after key None = Unit {0}
IsFoundIn after key (Some found) = IsFound after key found

-- the operation has read the record of its key
pub record Reads (before : SessionValue) (answer : Option Found) (after : SessionValue) : Type 0 where
  pub running : Running
  pub ran : before.running ≡ Some running
  pub sees : SeesHistory before (Ask running.row (found_stamp answer)) after
  pub begun : after.begun ≡ before.begun
  pub runs : after.running ≡ Some (record { row = running.row; key = running.key; act = running.act; found = Some (found_stamp answer); set = running.set })
  pub recorded : IsFoundIn after running.key answer
