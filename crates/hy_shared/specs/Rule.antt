-- What holds between any two steps on a table.
use Rattle.std.specs.Prelude.{◌≡◌, ◌≢◌, ℕ, ◌<◌, ◌≤◌, Bool, true, false, List, [], ◌++◌, length, slice_index, Some}
use Rattle.std.specs.List.{AllByRecursion, slice_get}
use mathlib.Core.Option.{some}
use lib.ListN.{get_elem?}
use Rattle.atomic_table.specs.Table.{State}
use Rattle.hy_base.specs.declared.limits.TheConstants.{SN_END}
use Rattle.hy_record.specs.Stamp.{Timestamp}
use Rattle.hy_points.specs.Atomic.{IsAtomicLog, logged_stamp}
use Rattle.hy_points.specs.declared.point.ActKind.{ActKind}
use Rattle.hy_points.specs.declared.point.ActKind.TheVariants.{Put, Get, Delete, Swap}
use Rattle.hy_shared.specs.declared.layout.Layout.{Layout}
use Rattle.hy_shared.specs.declared.event.Event.{Event}
use Rattle.hy_shared.specs.declared.event.Event.TheVariants.{Begin, Ask, Set, End}
use Rattle.hy_shared.specs.declared.view.View.{View}
use Rattle.hy_shared.specs.Layout.{client_of, row_place, width, word_count, head_place}
use Rattle.hy_shared.specs.Rows.{IsRowOf}
use Rattle.hy_shared.specs.Events.{points_of, row_in, key_name, event_number, head_word, packed_stamp}

-- a writing has a timestamp of the row's client, and the words of a record
pub record IsWellWritten (z : Layout) (row key : ℕ) (stamp : Timestamp) (words : List ℕ) : Type 0 where
  pub key_in : key < z.keys
  pub client : stamp.cid ≡ client_of z row
  pub some_number : 0 < stamp.sn
  pub number : stamp.sn < SN_END
  pub recorded : IsRowOf z stamp words

-- a read, a put or a delete: a table runs no swaps
abbrev pub is_plain : ActKind → Bool
is_plain Get = true
is_plain Put = true
is_plain Delete = true
is_plain (Swap expected) = false

-- an invocation is of the row's client and of a key of the table, and no swap
abbrev pub IsWellMade : Layout → Event → Type 0
IsWellMade z (Begin row client key act) = (client ≡ client_of z row) × (key < z.keys) × (is_plain act ≡ true)
IsWellMade z (Ask row found) = Unit {0}
IsWellMade z (Set row key stamp applied words) = IsWellWritten z row key stamp words
IsWellMade z (End row stamp) = Unit {0}

-- an event of one of so many clients
pub record IsWithin (z : Layout) (given : ℕ) (event : Event) : Type 0 where
  pub client : client_of z (row_in event) ≤ given
  pub made : IsWellMade z event

-- the event is of another client
abbrev pub IsOther : Layout → ℕ → Event → Type 0
IsOther z client event = client_of z (row_in event) ≢ client

-- the words stand in the row
abbrev pub StandsIn : Layout → List ℕ → ℕ → List ℕ → Type 0
StandsIn z words row written = (i : ℕ) (w : ℕ) → slice_get written i ≡ Some w → slice_index words (row_place z row i) ≡ w

-- the record of a writing stands in its row
abbrev pub IsKept : Layout → List ℕ → Event → Type 0
IsKept z words (Begin row client key act) = Unit {0}
IsKept z words (Ask row found) = Unit {0}
IsKept z words (Set row key stamp applied written) = StandsIn z words row written
IsKept z words (End row stamp) = Unit {0}

-- a view has seen a beginning of the log, which has all events of its own client
pub record IsSeen (z : Layout) (log : List Event) (v : View) : Type 0 where
  pub rest : List Event
  pub begins : log ≡ v.seen ++ rest
  pub others : AllByRecursion (IsOther z v.number) rest

-- the log begins so
abbrev pub Begins : List Event → List Event → Type 0
Begins front log = (rest : List Event) × (log ≡ front ++ rest)

-- what a seat knows is so
pub record IsKnown (z : Layout) (words : List ℕ) (log : List Event) (given : ℕ) (v : View) : Type 0 where
  pub seen : IsSeen z log v
  pub told : Begins v.told log
  pub number : v.number ≤ given
  pub root : v.is_root ≡ true → v.given ≡ given
  pub written : StandsIn z words v.row v.written
  pub few : length v.written ≤ width z
  pub own_row : v.written ≢ [] → client_of z v.row ≡ v.number

-- two seats have different clients, and one of them at most is the root
pub record AreApart (v w : View) : Type 0 where
  pub numbers : v.number ≡ w.number → v.number ≡ 0
  pub roots : v.is_root ≡ true → w.is_root ≡ false

-- the log, and the words that show it
pub record IsShown (z : Layout) (words : List ℕ) (log : List Event) (given : ℕ) : Type 0 where
  pub atomic : IsAtomicLog (points_of log)
  pub within : AllByRecursion (IsWithin z given) log
  pub few : given ≤ z.clients
  pub wide : length words ≡ word_count z
  pub counted : slice_index words 0 ≡ event_number log
  pub heads : (key : ℕ) → key < z.keys → slice_index words (head_place key) ≡ head_word key log
  pub stamps : (key : ℕ) → key < z.keys → logged_stamp (points_of log) (key_name key) ≡ packed_stamp (head_word key log)
  pub rows : AllByRecursion (IsKept z words) log

-- there is a log, which the words show, and of which each seat has seen a beginning
pub record IsTable (z : Layout) (s : State (Unit {0}) View) : Type 0 where
  pub log : List Event
  pub given : ℕ
  pub shown : IsShown z s.words log given
  pub known : (i : ℕ) (v : View) → get_elem? s.views i ≡ some v → IsKnown z s.words log given v
  pub apart : (i j : ℕ) (v w : View) → get_elem? s.views i ≡ some v → get_elem? s.views j ≡ some w → i ≢ j → AreApart v w

-- the view of the first seat: the root, which has given nothing and seen nothing
abbrev pub root_view : View
root_view = record { is_root = true; given = 0; number = 0; seen = []; told = []; row = 0; written = [] }

-- the log has a writing of the key with this row and timestamp
abbrev pub IsWriting : List Event → ℕ → ℕ → Timestamp → Type 0
IsWriting log key row stamp = (i : ℕ) × (applied : Bool) × (words : List ℕ) × (slice_get log i ≡ Some (Set row key stamp applied words))
