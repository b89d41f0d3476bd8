-- The operations of a history under their keys.
use Rattle.std.specs.Prelude.{◌≡◌, ℕ, List, [], map, Vec}
use Rattle.std.specs.BTreeMap.{is_at}
use Rattle.std.specs.Borrow.{Bor}
use Rattle.std.specs.Cmp.Lexicographic.{slice_cmp}
use Rattle.std.specs.List.{filter}
use Rattle.std.specs.Map.{lookup}
use Rattle.std.specs.Option.{option_map_or}
use Rattle.std.specs.Ordering.{nat_cmp}
use Rattle.hy_order.specs.declared.operation.Operation.{Operation}
use Rattle.hy_order.specs.History.{IsNumberedFrom}
use Rattle.hy_order.specs.Linearization.{is_of_key}

module _ {Z : Type 0} where
  -- the operations that stand under the key, none where it has no entry
  abbrev pub operations_under : List (List ℕ × Vec (Bor Operation) Z) → List ℕ → List Operation
  operations_under entries key =
      option_map_or (λ (ops : Vec (Bor Operation) Z). map (λ (op : Bor Operation). op.now) ops.items) (lookup (is_at (slice_cmp nat_cmp key)) entries) []

  -- under each key stand its operations, in the order of the list
  abbrev pub IsGrouped : List Operation → List (List ℕ × Vec (Bor Operation) Z) → Type 0
  IsGrouped ops entries = (key : List ℕ) → operations_under entries key ≡ filter (is_of_key key) ops

  -- the operations are numbered from 1, and stand under their keys too
  pub record IsIndex (ops : List Operation) (entries : List (List ℕ × Vec (Bor Operation) Z)) : Type 0 where
    pub numbered : IsNumberedFrom 1 ops
    pub grouped : IsGrouped ops entries
