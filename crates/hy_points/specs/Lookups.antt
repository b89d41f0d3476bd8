-- What a log has of an operation: the first point of each kind, with its place.
use Rattle.std.specs.Prelude.{ℕ, ◌+◌, ◌==◌, Bool, false, List, [], ◌∷◌, Option, Some, None, is_some, if◌then◌else◌}
use Rattle.std.specs.Option.{option_or, option_map_or}
use Rattle.hy_record.specs.Key.{key_eq}
use Rattle.hy_points.specs.declared.point.ActKind.{ActKind}
use Rattle.hy_points.specs.declared.point.Point.{Point}
use Rattle.hy_points.specs.declared.point.Point.TheVariants.{Begin, Ask, Set, Try, End}
use Rattle.hy_points.specs.declared.telling.Asking.{Asking}
use Rattle.hy_points.specs.declared.telling.Setting.{Setting}
use Rattle.hy_points.specs.declared.telling.Trying.{Trying}

-- what the first point tells that tells something, where the first of the list stands at this place
abbrev pub first_from : {A : Type 0} → (ℕ → Point → Option A) → ℕ → List Point → Option A
first_from pick place [] = None
first_from pick place (point ∷ later) = option_or (pick place point) (first_from pick (place + 1) later)

-- what the last such point tells
abbrev pub last_from : {A : Type 0} → (ℕ → Point → Option A) → ℕ → List Point → Option A
last_from pick place [] = None
last_from pick place (point ∷ later) = option_or (last_from pick (place + 1) later) (pick place point)

-- where an operation began, by whom, on which key, and what it does
pub record Beginning : Type 0 where
  pub place : ℕ
  pub client : ℕ
  pub key : List ℕ
  pub act : ActKind

-- the beginning of the operation
abbrev pub beginning_at : ℕ → ℕ → Point → Option Beginning
beginning_at op place (Begin o client key act) =
    if o == op then Some (record { place = place; client = client; key = key; act = act }) else None
beginning_at op place (Ask o found) = None
beginning_at op place (Set o stamp applied) = None
beginning_at op place (Try o stamp found) = None
beginning_at op place (End o) = None

-- a reading of the operation
abbrev pub asking_at : ℕ → ℕ → Point → Option Asking
asking_at op place (Begin o client key act) = None
asking_at op place (Ask o found) = if o == op then Some (record { place = place; found = found }) else None
asking_at op place (Set o stamp applied) = None
asking_at op place (Try o stamp found) = None
asking_at op place (End o) = None

-- a writing of the operation
abbrev pub setting_at : ℕ → ℕ → Point → Option Setting
setting_at op place (Begin o client key act) = None
setting_at op place (Ask o found) = None
setting_at op place (Set o stamp applied) =
    if o == op then Some (record { place = place; stamp = stamp; is_applied = applied }) else None
setting_at op place (Try o stamp found) = None
setting_at op place (End o) = None

-- a try of the operation
abbrev pub trying_at : ℕ → ℕ → Point → Option Trying
trying_at op place (Begin o client key act) = None
trying_at op place (Ask o found) = None
trying_at op place (Set o stamp applied) = None
trying_at op place (Try o stamp found) =
    if o == op then Some (record { place = place; stamp = stamp; found = found }) else None
trying_at op place (End o) = None

-- the return of the operation
abbrev pub ending_at : ℕ → ℕ → Point → Option ℕ
ending_at op place (Begin o client key act) = None
ending_at op place (Ask o found) = None
ending_at op place (Set o stamp applied) = None
ending_at op place (Try o stamp found) = None
ending_at op place (End o) = if o == op then Some place else None

-- the beginning of the operation in the log
unfoldable pub beginning : List Point → ℕ → Option Beginning
beginning log op = first_from (beginning_at op) 0 log

-- its first reading
unfoldable pub asking : List Point → ℕ → Option Asking
asking log op = first_from (asking_at op) 0 log

-- its last reading
unfoldable pub last_asking : List Point → ℕ → Option Asking
last_asking log op = last_from (asking_at op) 0 log

-- its first writing
unfoldable pub setting : List Point → ℕ → Option Setting
setting log op = first_from (setting_at op) 0 log

-- its first try
unfoldable pub trying : List Point → ℕ → Option Trying
trying log op = first_from (trying_at op) 0 log

-- the place of its return
unfoldable pub ending : List Point → ℕ → Option ℕ
ending log op = first_from (ending_at op) 0 log

-- it returned
abbrev pub has_ended : List Point → ℕ → Bool
has_ended log op = is_some (ending log op)

-- it is one of the key
abbrev pub is_of_key : List Point → List ℕ → ℕ → Bool
is_of_key log key op = option_map_or (λ (b : Beginning). key_eq b.key key) (beginning log op) false
