-- What the index of a log keeps: what is told first of each operation,
-- and the applied writings of each key that raised its record.
use Rattle.std.specs.Prelude.{◌≡◌, ℕ, ◌==◌, ◌-◌, Bool, true, not, List, [], ◌∷◌, ◌++◌, length, Option, Some, None, Vec, if◌then◌else◌}
use Rattle.std.specs.BTreeMap.{is_at}
use Rattle.std.specs.Cmp.Lexicographic.{slice_cmp}
use Rattle.std.specs.List.{find, slice_get}
use Rattle.std.specs.List.Sorted.{IsPartitionedBy}
use Rattle.std.specs.Map.{lookup}
use Rattle.std.specs.Option.{option_map, option_map_or}
use Rattle.std.specs.Ordering.{nat_cmp}
use Rattle.hy_record.specs.Stamp.{Timestamp, stamp_lt}
use Rattle.hy_points.specs.declared.telling.Asking.{Asking}
use Rattle.hy_points.specs.declared.telling.Setting.{Setting}
use Rattle.hy_points.specs.declared.telling.Trying.{Trying}
use Rattle.hy_points.specs.declared.peaks.Peak.{Peak}
use Rattle.hy_points.specs.declared.point.Point.{Point}
use Rattle.hy_points.specs.declared.point.Point.TheVariants.{Begin, Ask, Set, Try, End}
use Rattle.hy_points.specs.Lookups.{first_from, asking_at, setting_at, trying_at, ending_at}
use Rattle.hy_points.specs.Marks.{overwriting}

-- ---- operations

-- what stands under the operation
abbrev pub under : {A : Type 0} → List (ℕ × A) → ℕ → Option A
under entries op = lookup (is_at (nat_cmp op)) entries

-- under each operation stands what the first point tells of it that tells something
abbrev pub AreFirsts : {A : Type 0} → (ℕ → ℕ → Point → Option A) → List Point → List (ℕ × A) → Type 0
AreFirsts pick log entries = (op : ℕ) → under entries op ≡ first_from (pick op) 0 log

-- the key that the operation begins on
abbrev pub key_at : ℕ → ℕ → Point → Option (List ℕ)
key_at op place (Begin o client key act) = if o == op then Some key else None
key_at op place (Ask o found) = None
key_at op place (Set o stamp applied) = None
key_at op place (Try o stamp found) = None
key_at op place (End o) = None

-- ---- applied writings

-- the key and the timestamp of an applied writing of an operation with a key
abbrev pub applied_writing : List (ℕ × List ℕ) → Point → Option (List ℕ × Timestamp)
applied_writing entries (Begin op client key act) = None
applied_writing entries (Ask op found) = None
applied_writing entries (Set op stamp applied) =
    if applied then option_map (λ (key : List ℕ). (key, stamp)) (under entries op) else None
applied_writing entries (Try op stamp found) = None
applied_writing entries (End op) = None

-- the timestamp is above that of the last
abbrev pub is_above_all : List Peak → Timestamp → Bool
is_above_all peaks stamp =
    option_map_or (λ (last : Peak). stamp_lt last.stamp stamp) (slice_get peaks (length peaks - 1)) true

-- with the writing at the place, where it is above all
abbrev pub raised : List Peak → ℕ → Timestamp → List Peak
raised peaks place stamp =
    if is_above_all peaks stamp then peaks ++ record { place = place; stamp = stamp } ∷ [] else peaks

-- the place of the first with a greater timestamp
abbrev pub first_above : Timestamp → List Peak → Option ℕ
first_above stamp peaks =
    option_map (λ (peak : Peak). peak.place) (find (λ (peak : Peak). stamp_lt stamp peak.stamp) peaks)

-- those that are not above a timestamp stand in front of those that are
abbrev pub AreRising : List Peak → Type 0
AreRising peaks = (stamp : Timestamp) → IsPartitionedBy (λ (peak : Peak). not (stamp_lt stamp peak.stamp)) peaks

module _ {Z : Type 0} where
  -- what stands under the key
  abbrev pub peaks_under : List (List ℕ × Vec Peak Z) → List ℕ → List Peak
  peaks_under entries key =
      option_map_or (λ (peaks : Vec Peak Z). peaks.items) (lookup (is_at (slice_cmp nat_cmp key)) entries) []

  -- under each key stand rising writings, of which the first above a timestamp is the log's
  pub record ArePeaks (log : List Point) (entries : List (List ℕ × Vec Peak Z)) : Type 0 where
    pub rising : (key : List ℕ) → AreRising (peaks_under entries key)
    pub first : (key : List ℕ) (stamp : Timestamp)
        → first_above stamp (peaks_under entries key) ≡ overwriting log key stamp

  -- the index is that of the log
  pub record IsIndex (log : List Point) (askings : List (ℕ × Asking)) (settings : List (ℕ × Setting))
      (tryings : List (ℕ × Trying)) (endings : List (ℕ × ℕ)) (peaks : List (List ℕ × Vec Peak Z)) : Type 0 where
    pub asks : AreFirsts asking_at log askings
    pub sets : AreFirsts setting_at log settings
    pub tries : AreFirsts trying_at log tryings
    pub ends : AreFirsts ending_at log endings
    pub raises : ArePeaks log peaks
