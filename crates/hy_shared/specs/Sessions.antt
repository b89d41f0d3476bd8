-- What contracts see of a table, of its root and of its sessions.
use Rattle.std.specs.Prelude.{◌≡◌, ℕ, ◌+◌, ◌<◌, ◌≤◌, true, false, List, [], ◌∷◌, ◌++◌, ◌⊎◌, Option, Some, None}
use Rattle.std.specs.List.{AllByRecursion, slice_get}
use Rattle.std.specs.Option.{option_map}
use Rattle.atomic_table.specs.Seated.{TableId}
use Rattle.hy_record.specs.Stamp.{Timestamp, next_stamp}
use Rattle.hy_points.specs.declared.point.Point.{Point}
use Rattle.hy_points.specs.declared.telling.Asking.{Asking}
use Rattle.hy_points.specs.declared.telling.Setting.{Setting}
use Rattle.hy_points.specs.Lookups.{Beginning, beginning, last_asking, setting, ending, has_ended}
use Rattle.hy_record.specs.declared.action.Reply.{Reply}
use Rattle.hy_record.specs.declared.action.Reply.TheVariants as reply
use Rattle.hy_points.specs.declared.point.ActKind.TheVariants.{Get}
use Rattle.hy_points.specs.Atomic.{IsAtomicLog, writes, no_stamp}
use Rattle.hy_shared.specs.declared.layout.Layout.{Layout}
use Rattle.hy_shared.specs.declared.running.Running.{Running}
use Rattle.hy_shared.specs.declared.event.Event.{Event}
use Rattle.hy_shared.specs.declared.event.Event.TheVariants.{Ask}
use Rattle.hy_shared.specs.declared.view.View.{View}
use Rattle.hy_shared.specs.Layout.{IsLayout, client_of, row_of}
use Rattle.hy_shared.specs.Events.{points_of, key_name}
use Rattle.hy_shared.specs.Recorded.{HasKind}
use Rattle.hy_shared.specs.Rule.{IsOther, IsWithin}

-- which table it is, and the numbers that it was made with
pub record TableValue : Type 0 where
  pub id : TableId
  pub layout : Layout

-- the root of a table, which has given so many numbers
pub record RootValue : Type 0 where
  pub table : TableValue
  pub given : ℕ

-- a session of a client: the operations that it began, the one that runs, and the log that it has seen
pub record SessionValue : Type 0 where
  pub table : TableValue
  pub client : ℕ
  pub begun : ℕ
  pub running : Option Running
  pub seen : List Event

-- the row of the operation that is begun next
abbrev pub next_row : SessionValue → ℕ
next_row s = row_of s.table.layout s.client s.begun

-- what a session's seat knows
abbrev pub session_view : ℕ → List Event → View
session_view client seen = record { is_root = false; given = 0; number = client; seen = seen; told = []; row = 0; written = [] }

-- the running operation, as the log that was seen has it
pub record IsRunning (z : Layout) (client begun : ℕ) (log : List Event) (r : Running) : Type 0 where
  pub begun_some : 0 < begun
  pub row : r.row + 1 ≡ row_of z client begun
  pub key : r.key < z.keys
  pub beginning : Beginning
  pub begins : Rattle.hy_points.specs.Lookups.beginning (points_of log) r.row ≡ Some beginning
  pub client_is : beginning.client ≡ client
  pub key_is : beginning.key ≡ key_name r.key
  pub act_is : beginning.act ≡ r.act
  pub not_ended : has_ended (points_of log) r.row ≡ false
  pub found : option_map (λ (a : Asking). a.found) (last_asking (points_of log) r.row) ≡ r.found
  pub set : option_map (λ (s : Setting). s.stamp) (setting (points_of log) r.row) ≡ r.set

-- the log has nothing of the operation
pub record IsUntouched (ps : List Point) (op : ℕ) : Type 0 where
  pub beginning : Rattle.hy_points.specs.Lookups.beginning ps op ≡ None
  pub asking : last_asking ps op ≡ None
  pub setting : Rattle.hy_points.specs.Lookups.setting ps op ≡ None
  pub ending : Rattle.hy_points.specs.Lookups.ending ps op ≡ None

-- the operation is the running one
abbrev pub IsNow : Option Running → ℕ → Type 0
IsNow running row = (r : Running) × (running ≡ Some r) × (r.row ≡ row)

-- the log that a session has seen is atomic, and has its client's operations as the session knows them
pub record IsSession (z : Layout) (client begun : ℕ) (running : Option Running) (log : List Event) : Type 0 where
  pub layout : IsLayout z
  pub client_some : 1 ≤ client
  pub client_in : client ≤ z.clients
  pub begun_in : begun ≤ z.ops
  pub atomic : IsAtomicLog (points_of log)
  pub within : AllByRecursion (IsWithin z z.clients) log
  -- the rows of later operations are new
  pub fresh : (i : ℕ) → begun ≤ i → i < z.ops → IsUntouched (points_of log) (row_of z client i)
  -- all others have ended
  pub ended : (op : ℕ) (b : Beginning) → client_of z op ≡ client → beginning (points_of log) op ≡ Some b → (IsNow running op → ⊥) → has_ended (points_of log) op ≡ true
  pub runs : (r : Running) → running ≡ Some r → IsRunning z client begun log r

-- the log that a session sees after a step begins with the log that it saw before and ends with the event of the step,
-- is atomic, and has no other new event of the session's client
pub record SeesHistory (before : SessionValue) (event : Event) (after : SessionValue) : Type 0 where
  pub table : after.table ≡ before.table
  pub client : after.client ≡ before.client
  pub between : List Event
  pub seen : after.seen ≡ (before.seen ++ between) ++ event ∷ []
  pub others : AllByRecursion (IsOther before.table.layout before.client) between
  pub atomic : IsAtomicLog (points_of after.seen)
  pub within : AllByRecursion (IsWithin before.table.layout before.table.layout.clients) after.seen

-- the operation read this timestamp
abbrev pub HasRead : List Event → ℕ → Timestamp → Type 0
HasRead log row stamp = (i : ℕ) × (slice_get log i ≡ Some (Ask row stamp))

-- the timestamp is that of no record, or of a deletion of the key
abbrev pub IsAbsence : List Event → ℕ → Timestamp → Type 0
IsAbsence log key stamp = (stamp ≡ no_stamp) ⊎ HasKind log key stamp true

-- the running operation may return with the reply
abbrev pub MayReply : ℕ → List Event → Running → Reply → Type 0
MayReply client log r (reply.Done stamp) = (writes r.act ≡ true) × (r.set ≡ Some stamp)
MayReply client log r (reply.Exhausted stamp) = (writes r.act ≡ true) × (r.set ≡ None) × (r.found ≡ Some stamp) × (next_stamp stamp client ≡ None)
MayReply client log r (reply.Value bytes stamp) = (r.act ≡ Get) × HasRead log r.row stamp × HasKind log r.key stamp false
MayReply client log r (reply.Absent stamp) = (r.act ≡ Get) × HasRead log r.row stamp × IsAbsence log r.key stamp
MayReply client log r (reply.Collected count) = ⊥
MayReply client log r (reply.Swapped stamp) = ⊥
MayReply client log r (reply.Changed stamp) = ⊥

-- what the root's seat knows when it has given so many numbers
abbrev pub root_after : ℕ → View
root_after given = record { is_root = true; given = given; number = 0; seen = []; told = []; row = 0; written = [] }

-- a session that began nothing and has seen nothing
abbrev pub new_session_of : TableValue → ℕ → SessionValue
new_session_of table client = record { table = table; client = client; begun = 0; running = None; seen = [] }
