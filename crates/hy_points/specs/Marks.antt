-- The marks of a log: each listed operation of a key with its moment.
use Rattle.std.specs.Prelude.{◌≡◌, ℕ, Bool, true, false, ◌&&◌, List, [], ◌∷◌, map, Option, Some, None, Vec, if◌then◌else◌}
use Rattle.std.specs.List.{filter_map}
use Rattle.std.specs.Option.{option_map, option_map_or}
use Rattle.std.specs.Ordering.{nat_cmp, bool_cmp, is_lt, ordering_then}
use Rattle.std.specs.declared.cmp.Ordering.{Ordering}
use Rattle.hy_record.specs.Key.{key_eq}
use Rattle.hy_record.specs.Stamp.{Timestamp, stamp_lt, stamp_eq, stamp_cmp}
use Rattle.hy_points.specs.declared.telling.Asking.{Asking}
use Rattle.hy_points.specs.declared.telling.Setting.{Setting}
use Rattle.hy_points.specs.declared.telling.Trying.{Trying}
use Rattle.hy_points.specs.declared.mark.Mark.{Mark}
use Rattle.hy_points.specs.declared.point.ActKind.{ActKind}
use Rattle.hy_points.specs.declared.point.ActKind.TheVariants.{Put, Get, Delete, Swap}
use Rattle.hy_points.specs.declared.point.Point.{Point}
use Rattle.hy_points.specs.declared.point.Point.TheVariants.{Begin, Ask, Set, Try, End}
use Rattle.std.specs.BTreeMap.{is_at}
use Rattle.std.specs.Cmp.Lexicographic.{slice_cmp}
use Rattle.std.specs.Map.{lookup}
use Rattle.hy_order.specs.Keys.{sorted_keys}
use Rattle.hy_order.specs.declared.order.Order.{Order}
use Rattle.hy_points.specs.Lookups.{first_from, asking, setting, trying, has_ended, is_of_key}

-- the place of an applied writing of the key with a greater timestamp
abbrev pub overwriting_at : List Point → List ℕ → Timestamp → ℕ → Point → Option ℕ
overwriting_at log key stamp place (Begin o client k act) = None
overwriting_at log key stamp place (Ask o found) = None
overwriting_at log key stamp place (Set o s applied) =
    if applied && is_of_key log key o && stamp_lt stamp s then Some place else None
overwriting_at log key stamp place (Try o s found) = None
overwriting_at log key stamp place (End o) = None

-- the place of the first applied writing of the key with a greater timestamp
unfoldable pub overwriting : List Point → List ℕ → Timestamp → Option ℕ
overwriting log key stamp = first_from (overwriting_at log key stamp) 0 log

-- just before the point at the place; at the start where there is none
abbrev pub mark_before : ℕ → Timestamp → Option ℕ → Mark
mark_before op stamp None = record { place = 0; is_at = false; stamp = stamp; reads = false; op = op }
mark_before op stamp (Some place) = record { place = place; is_at = false; stamp = stamp; reads = false; op = op }

-- a write that returned or was applied stands at its writing where that was applied,
-- else just before the first applied writing of its key with a greater timestamp
abbrev pub write_mark : List Point → List ℕ → ℕ → Option Setting → Option Mark
write_mark log key op None = None
write_mark log key op (Some set) =
    if set.is_applied then Some (record { place = set.place; is_at = true; stamp = set.stamp; reads = false; op = op })
    else if has_ended log op then Some (mark_before op set.stamp (overwriting log key set.stamp))
    else None

-- a read that returned stands at its reading
abbrev pub read_mark : Bool → ℕ → Option Asking → Option Mark
read_mark ended op None = None
read_mark ended op (Some ask) =
    if ended then Some (record { place = ask.place; is_at = true; stamp = ask.found; reads = true; op = op }) else None

-- what a swap found first, where it does not expect that
abbrev pub unexpected : Timestamp → Option Asking → Option Asking
unexpected expected None = None
unexpected expected (Some ask) = if stamp_eq expected ask.found then None else Some ask

-- a swap that tried stands there: as a write where it found what it expects, else as a read, where it returned
abbrev pub tried_mark : Bool → Timestamp → ℕ → Trying → Option Mark
tried_mark ended expected op tried =
    if stamp_eq expected tried.found
    then Some (record { place = tried.place; is_at = true; stamp = tried.stamp; reads = false; op = op })
    else read_mark ended op (Some (record { place = tried.place; found = tried.found }))

-- one that did not try, and returned, stands where it found what it does not expect, as a read
abbrev pub swap_mark : Bool → Timestamp → ℕ → Option Asking → Option Trying → Option Mark
swap_mark ended expected op asked None = read_mark ended op (unexpected expected asked)
swap_mark ended expected op asked (Some tried) = tried_mark ended expected op tried

-- the mark of an operation of the key, where it is listed
abbrev pub operation_mark : List Point → List ℕ → ℕ → ActKind → Option Mark
operation_mark log key op Get = read_mark (has_ended log op) op (asking log op)
operation_mark log key op Put = write_mark log key op (setting log op)
operation_mark log key op Delete = write_mark log key op (setting log op)
operation_mark log key op (Swap expected) = swap_mark (has_ended log op) expected op (asking log op) (trying log op)

-- the mark of the operation that begins at the point, where it is one of the key
abbrev pub point_mark : List Point → List ℕ → Point → Option Mark
point_mark log key (Begin op client k act) = if key_eq k key then operation_mark log key op act else None
point_mark log key (Ask op found) = None
point_mark log key (Set op stamp applied) = None
point_mark log key (Try op stamp found) = None
point_mark log key (End op) = None

-- the marks of the key, in the order of the beginnings
unfoldable pub marks_of : List Point → List ℕ → List Mark
marks_of log key = filter_map (point_mark log key) log

-- a mark in its place among marks in order
abbrev pub insert_by : {A : Type 0} → (A → A → Ordering) → A → List A → List A
insert_by cmp x [] = x ∷ []
insert_by cmp x (first ∷ others) = if is_lt (cmp first x) then first ∷ insert_by cmp x others else x ∷ first ∷ others

-- the list in order
abbrev pub sorted_by : {A : Type 0} → (A → A → Ordering) → List A → List A
sorted_by cmp [] = []
sorted_by cmp (x ∷ xs) = insert_by cmp x (sorted_by cmp xs)

-- by moment, and at one moment by timestamp
abbrev pub moment_cmp : Mark → Mark → Ordering
moment_cmp a b =
    ordering_then (nat_cmp a.place b.place) (ordering_then (bool_cmp a.is_at b.is_at)
    (ordering_then (stamp_cmp a.stamp b.stamp) (ordering_then (bool_cmp a.reads b.reads) (nat_cmp a.op b.op))))

abbrev pub op_of : Mark → ℕ
op_of mark = mark.op

-- the order of the key: each operation at its moment, and those of one moment by timestamp
unfoldable pub linearization_of : List Point → List ℕ → List ℕ
linearization_of log key = map op_of (sorted_by moment_cmp (marks_of log key))

-- by timestamp, a write before the reads that found it, and these by their moments
abbrev pub stamp_first_cmp : Mark → Mark → Ordering
stamp_first_cmp a b =
    ordering_then (stamp_cmp a.stamp b.stamp) (ordering_then (bool_cmp a.reads b.reads)
    (ordering_then (nat_cmp a.place b.place) (ordering_then (bool_cmp a.is_at b.is_at) (nat_cmp a.op b.op))))

-- the same operations by timestamp
unfoldable pub order_by_stamp : List Point → List ℕ → List ℕ
order_by_stamp log key = map op_of (sorted_by stamp_first_cmp (marks_of log key))

-- the key that the point begins an operation on
abbrev pub begun_key : Point → Option (List ℕ)
begun_key (Begin op client key act) = Some key
begun_key (Ask op found) = None
begun_key (Set op stamp applied) = None
begun_key (Try op stamp found) = None
begun_key (End op) = None

-- the keys on which the log begins operations
abbrev pub begun_keys : List Point → List (List ℕ)
begun_keys log = filter_map begun_key log

-- the order of the key
abbrev pub order_at : List Point → List ℕ → Order
order_at log key = record { key = key; ops = linearization_of log key }

-- the order of each key on which the log begins an operation, by the keys' order
abbrev pub orders_of : List Point → List Order
orders_of log = map (order_at log) (sorted_keys (begun_keys log))

-- the mark of the operation that begins at the point, with its key
abbrev pub own_mark : List Point → Point → Option (List ℕ × Mark)
own_mark log (Begin op client key act) =
    option_map {U = List ℕ × Mark} (λ (mark : Mark). (key, mark)) (operation_mark log key op act)
own_mark log (Ask op found) = None
own_mark log (Set op stamp applied) = None
own_mark log (Try op stamp found) = None
own_mark log (End op) = None

module _ {Z : Type 0} where
  -- the marks that stand under the key
  abbrev pub marks_under : List (List ℕ × Vec Mark Z) → List ℕ → List Mark
  marks_under entries key =
      option_map_or (λ (marks : Vec Mark Z). marks.items) (lookup (is_at (slice_cmp nat_cmp key)) entries) []

  -- the order of the key by the marks that stand under it
  abbrev pub order_under : List (List ℕ × Vec Mark Z) → List ℕ → Order
  order_under entries key = record { key = key; ops = map op_of (sorted_by moment_cmp (marks_under entries key)) }

  -- under each key stand its marks
  abbrev pub AreGrouped : List Point → List (List ℕ × Vec Mark Z) → Type 0
  AreGrouped log entries = (key : List ℕ) → marks_under entries key ≡ marks_of log key
