-- Atomic logs: logs of operations that each read and write the record of their key at one moment.
use Rattle.std.specs.Prelude.{◌≡◌, ℕ, Bool, true, false, ◌&&◌, List, [], ◌∷◌, ◌++◌, Option, Some, None, ◌⊎◌, if◌then◌else◌}
use Rattle.std.specs.List.{filter_map}
use Rattle.std.specs.Option.{option_map_or}
use Rattle.hy_record.specs.Stamp.{Timestamp, stamp_lt, stamp_eq, next_stamp}
use Rattle.hy_points.specs.declared.telling.Asking.{Asking}
use Rattle.hy_points.specs.declared.telling.Setting.{Setting}
use Rattle.hy_points.specs.declared.telling.Trying.{Trying}
use Rattle.hy_points.specs.declared.point.ActKind.{ActKind}
use Rattle.hy_points.specs.declared.point.ActKind.TheVariants.{Put, Get, Delete, Swap}
use Rattle.hy_points.specs.declared.point.Point.{Point}
use Rattle.hy_points.specs.declared.point.Point.TheVariants.{Begin, Ask, Set, Try, End}
use Rattle.hy_points.specs.Lookups.{Beginning, beginning, asking, last_asking, setting, trying, has_ended, is_of_key}

-- each point fits those before it
abbrev pub Continues : (List Point → Point → Type 0) → List Point → List Point → Type 0
Continues Fits before [] = Unit {0}
Continues Fits before (point ∷ later) = Fits before point × Continues Fits (before ++ point ∷ []) later

-- no record
abbrev pub no_stamp : Timestamp
no_stamp = record { sn = 0; cid = 0 }

-- the greatest of the timestamps, or that of no record
abbrev pub greatest_stamp : List Timestamp → Timestamp
greatest_stamp [] = no_stamp
greatest_stamp (stamp ∷ stamps) = if stamp_lt (greatest_stamp stamps) stamp then stamp else greatest_stamp stamps

-- a swap that expects the timestamp
abbrev pub expects : ActKind → Timestamp → Bool
expects Put found = false
expects Get found = false
expects Delete found = false
expects (Swap expected) found = stamp_eq expected found

-- the operation is a swap that expects the timestamp
abbrev pub is_met : List Point → ℕ → Timestamp → Bool
is_met log op found = option_map_or (λ (b : Beginning). expects b.act found) (beginning log op) false

-- the timestamp of an applied writing of the key, or of a try of it that found what it expected
abbrev pub applied_stamp : List Point → List ℕ → Point → Option Timestamp
applied_stamp log key (Begin op client k act) = None
applied_stamp log key (Ask op found) = None
applied_stamp log key (Set op stamp applied) = if applied && is_of_key log key op then Some stamp else None
applied_stamp log key (Try op stamp found) = if is_met log op found && is_of_key log key op then Some stamp else None
applied_stamp log key (End op) = None

-- the timestamp of the key's record after the log: the greatest of those
unfoldable pub logged_stamp : List Point → List ℕ → Timestamp
logged_stamp log key = greatest_stamp (filter_map (applied_stamp log key) log)

-- a put or a delete, which write whatever they find
abbrev pub writes : ActKind → Bool
writes Put = true
writes Delete = true
writes Get = false
writes (Swap expected) = false

-- the operation began so, and has not returned
pub record IsRunning (before : List Point) (op : ℕ) : Type 0 where
  pub begun : Beginning
  pub is_begun : beginning before op ≡ Some begun
  pub not_ended : has_ended before op ≡ false

-- an operation begins once, when its client has no other that runs
pub record FitsBegin (before : List Point) (op client : ℕ) : Type 0 where
  pub is_new : beginning before op ≡ None
  pub is_free : (other : ℕ) (b : Beginning)
      → beginning before other ≡ Some b → b.client ≡ client → has_ended before other ≡ true

-- a reading finds the record, and comes before a writing or a try
pub record FitsAsk (before : List Point) (op : ℕ) (found : Timestamp) : Type 0 where
  pub runs : IsRunning before op
  pub finds : found ≡ logged_stamp before runs.begun.key
  pub not_set : setting before op ≡ None
  pub not_tried : trying before op ≡ None

-- none of the key's operations tried, none wrote
abbrev pub NoneTried : List Point → List ℕ → Type 0
NoneTried log key = (op : ℕ) → is_of_key log key op ≡ true → trying log op ≡ None

abbrev pub NoneSet : List Point → List ℕ → Type 0
NoneSet log key = (op : ℕ) → is_of_key log key op ≡ true → setting log op ≡ None

-- a write writes once, with the next timestamp of its client above what it found last,
-- and is applied where that is above the record; on a key that no swap tried
pub record FitsSet (before : List Point) (op : ℕ) (stamp : Timestamp) (applied : Bool) : Type 0 where
  pub runs : IsRunning before op
  pub is_write : writes runs.begun.act ≡ true
  pub not_set : setting before op ≡ None
  pub ask : Asking
  pub asked : last_asking before op ≡ Some ask
  pub next : next_stamp ask.found runs.begun.client ≡ Some stamp
  pub applies : applied ≡ stamp_lt (logged_stamp before runs.begun.key) stamp
  pub none_tried : NoneTried before runs.begun.key

-- a swap that found what it expects tries once, with the next timestamp of its client above that,
-- and finds the record; on a key that no put or delete wrote
pub record FitsTry (before : List Point) (op : ℕ) (stamp found : Timestamp) : Type 0 where
  pub runs : IsRunning before op
  pub expected : Timestamp
  pub is_swap : runs.begun.act ≡ Swap expected
  pub not_tried : trying before op ≡ None
  pub ask : Asking
  pub asked : last_asking before op ≡ Some ask
  pub as_expected : ask.found ≡ expected
  pub next : next_stamp expected runs.begun.client ≡ Some stamp
  pub finds : found ≡ logged_stamp before runs.begun.key
  pub none_set : NoneSet before runs.begun.key

-- a read returns once it has read; a write once it has written, or where no timestamp is above what it found;
-- a swap once it has tried, or where it found what it does not expect, or no timestamp is above that
abbrev pub MayEnd : List Point → ℕ → ℕ → ActKind → Type 0
MayEnd before op client Get = (ask : Asking) × (asking before op ≡ Some ask)
MayEnd before op client Put =
    ((set : Setting) × (setting before op ≡ Some set))
    ⊎ ((ask : Asking) × (last_asking before op ≡ Some ask) × (next_stamp ask.found client ≡ None))
MayEnd before op client Delete =
    ((set : Setting) × (setting before op ≡ Some set))
    ⊎ ((ask : Asking) × (last_asking before op ≡ Some ask) × (next_stamp ask.found client ≡ None))
MayEnd before op client (Swap expected) =
    ((tried : Trying) × (trying before op ≡ Some tried))
    ⊎ ((ask : Asking) × (last_asking before op ≡ Some ask)
    × ((stamp_eq expected ask.found ≡ false) ⊎ (next_stamp ask.found client ≡ None)))

pub record FitsEnd (before : List Point) (op : ℕ) : Type 0 where
  pub runs : IsRunning before op
  pub may : MayEnd before op runs.begun.client runs.begun.act

-- the point may come after those before it
abbrev pub Fits : List Point → Point → Type 0
Fits before (Begin op client key act) = FitsBegin before op client
Fits before (Ask op found) = FitsAsk before op found
Fits before (Set op stamp applied) = FitsSet before op stamp applied
Fits before (Try op stamp found) = FitsTry before op stamp found
Fits before (End op) = FitsEnd before op

-- the log is atomic
unfoldable pub IsAtomicLog : List Point → Type 0
IsAtomicLog log = Continues Fits [] log

-- no operation reads twice
abbrev pub AsksAnew : List Point → Point → Type 0
AsksAnew before (Begin op client key act) = Unit {0}
AsksAnew before (Ask op found) = asking before op ≡ None
AsksAnew before (Set op stamp applied) = Unit {0}
AsksAnew before (Try op stamp found) = Unit {0}
AsksAnew before (End op) = Unit {0}

unfoldable pub AsksOnce : List Point → Type 0
AsksOnce log = Continues AsksAnew [] log
