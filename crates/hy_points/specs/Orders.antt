-- What an order of a log's operations has to be.
use Rattle.std.specs.Prelude.{◌≡◌, ℕ, Bool, true, false, ◌||◌, ◌&&◌, not, nat_lt, nat_eq, List, [], ◌∷◌, Option, Some, None, Contains, if◌then◌else◌}
use Rattle.std.specs.List.{AllByRecursion, IsDistinct}
use Rattle.std.specs.Option.{option_map_or}
use Rattle.hy_record.specs.Key.{key_eq}
use Rattle.hy_record.specs.Stamp.{Timestamp, stamp_eq}
use Rattle.hy_points.specs.declared.telling.Asking.{Asking}
use Rattle.hy_points.specs.declared.telling.Setting.{Setting}
use Rattle.hy_points.specs.declared.telling.Trying.{Trying}
use Rattle.hy_points.specs.declared.point.ActKind.{ActKind}
use Rattle.hy_points.specs.declared.point.ActKind.TheVariants.{Put, Get, Delete, Swap}
use Rattle.hy_points.specs.declared.point.Point.{Point}
use Rattle.hy_points.specs.Lookups.{Beginning, beginning, asking, setting, trying, ending, has_ended}
use Rattle.hy_points.specs.Atomic.{no_stamp, writes}

-- a write that returned, or was applied
abbrev pub took_effect : Bool → Option Setting → Bool
took_effect ended None = false
took_effect ended (Some set) = set.is_applied || ended

-- a swap that found what it expects when it tried
abbrev pub has_swapped : Timestamp → Option Trying → Bool
has_swapped expected None = false
has_swapped expected (Some tried) = stamp_eq expected tried.found

-- a swap that found what it does not expect
abbrev pub found_another : Timestamp → Option Asking → Option Trying → Bool
found_another expected None None = false
found_another expected (Some ask) None = not (stamp_eq expected ask.found)
found_another expected asked (Some tried) = not (stamp_eq expected tried.found)

-- a read that returned, a write that returned and has written, or one whose writing was applied;
-- a swap that found what it expects when it tried, or returned and found another timestamp
abbrev pub is_listed : List Point → ℕ → ActKind → Bool
is_listed log op Get = has_ended log op
is_listed log op Put = took_effect (has_ended log op) (setting log op)
is_listed log op Delete = took_effect (has_ended log op) (setting log op)
is_listed log op (Swap expected) =
    has_swapped expected (trying log op)
    || (has_ended log op && found_another expected (asking log op) (trying log op))

-- the operation is one of the key, and an order of the key lists it
pub record IsListed (log : List Point) (key : List ℕ) (op : ℕ) : Type 0 where
  pub begun : Beginning
  pub is_begun : beginning log op ≡ Some begun
  pub is_of : key_eq begun.key key ≡ true
  pub is_listed : is_listed log op begun.act ≡ true

-- the first operation returned before the second began
abbrev pub came_before : Option ℕ → Option Beginning → Bool
came_before None began = false
came_before (Some end) None = false
came_before (Some end) (Some began) = nat_lt end began.place

abbrev pub returned_first : List Point → ℕ → ℕ → Bool
returned_first log a b = came_before (ending log a) (beginning log b)

-- no operation stands after one that began after it returned
abbrev pub KeepsTime : List Point → List ℕ → Type 0
KeepsTime log [] = Unit {0}
KeepsTime log (op ∷ later) = AllByRecursion (λ next. returned_first log next op ≡ false) later × KeepsTime log later

-- the operation writes whatever it finds: a put or a delete
abbrev pub is_blind : List Point → ℕ → Bool
is_blind log op = option_map_or (λ (b : Beginning). writes b.act) (beginning log op) false

-- the operation writes: a put, a delete, or a swap that found what it expects when it tried
abbrev pub act_writes : List Point → ℕ → ActKind → Bool
act_writes log op Put = true
act_writes log op Delete = true
act_writes log op Get = false
act_writes log op (Swap expected) = has_swapped expected (trying log op)

abbrev pub is_write : List Point → ℕ → Bool
is_write log op = option_map_or (λ (b : Beginning). act_writes log op b.act) (beginning log op) false

-- the timestamp that it wrote, or tried to
abbrev pub stamp_set : List Point → ℕ → Timestamp
stamp_set log op =
    option_map_or (λ (set : Setting). set.stamp) (setting log op)
    (option_map_or (λ (tried : Trying). tried.stamp) (trying log op) no_stamp)

-- the timestamp that it found: when it tried, else when it read
abbrev pub stamp_found : List Point → ℕ → Timestamp
stamp_found log op =
    option_map_or (λ (tried : Trying). tried.found) (trying log op)
    (option_map_or (λ (ask : Asking). ask.found) (asking log op) no_stamp)

-- the timestamp of the last write, after the operation
abbrev pub last_after : List Point → ℕ → Timestamp → Timestamp
last_after log op last = if is_write log op then stamp_set log op else last

-- each get and each swap found the timestamp of the last write before it, of which this is the one before the first
abbrev pub FindsLastWrites : List Point → Timestamp → List ℕ → Type 0
FindsLastWrites log last [] = Unit {0}
FindsLastWrites log last (op ∷ later) =
    (is_blind log op ≡ false → stamp_found log op ≡ last) × FindsLastWrites log (last_after log op last) later

-- the order lists each operation that it should once and no other, respects real time,
-- and each get and each swap found the timestamp of the last write before it, or none
pub record OrdersLog (log : List Point) (key order : List ℕ) : Type 0 where
  pub complete : (op : ℕ) → IsListed log key op → Contains order op
  pub members : AllByRecursion (IsListed log key) order
  pub distinct : IsDistinct nat_eq order
  pub real_time : KeepsTime log order
  pub reads : FindsLastWrites log no_stamp order
