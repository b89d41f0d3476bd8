-- What one pass over the orders of a report finds where they are plainly legal.
use Rattle.std.specs.Prelude.{◌≡◌, ℕ, Bool, true, ◌&&◌, ◌||◌, List, [], ◌∷◌, length, Option, Some, None}
use Rattle.std.specs.List.{AllByRecursion, list_any}
use Rattle.hy_order.specs.declared.operation.Operation.{Operation}
use Rattle.hy_order.specs.declared.order.Order.{Order}
use Rattle.hy_order.specs.Checking.{IsPlace, is_marked}
use Rattle.hy_order.specs.Linearization.{no_register, listed}
use Rattle.hy_order.specs.Violation.{is_listed, stranger_number, repeated_number, early_numbers, wrong_number}
use Rattle.hy_order.specs.WordReaders.{is_above}

-- the order violates nothing but that it may miss an operation
pub record IsSound (ops : List Operation) (order : Order) : Type 0 where
  pub stranger : stranger_number ops order.key order.ops ≡ None
  pub twice : repeated_number order.ops ≡ None
  pub early : early_numbers (listed ops order.ops) ≡ None
  pub wrong : wrong_number no_register (listed ops order.ops) ≡ None

-- one of the orders lists the number
abbrev pub is_listed_among : List Order → ℕ → Bool
is_listed_among orders number = list_any (λ order. is_listed order.ops number) orders

-- the operations that have the mark are those that one of the orders lists
abbrev pub AreMarkedAmong : List Order → List ℕ → Type 0
AreMarkedAmong orders marks =
    (number : ℕ) → IsPlace (length marks) number → is_marked marks 1 number ≡ is_listed_among orders number

-- the operations that have the mark are those that had it before and those of the numbers
abbrev pub AreAlsoMarked : List ℕ → List ℕ → List ℕ → Type 0
AreAlsoMarked numbers old new =
    (number : ℕ) → IsPlace (length new) number → is_marked new 1 number ≡ (is_marked old 1 number || is_listed numbers number)

-- each order is sound, and the operations that have the mark are those that one of them lists
pub record AreSound (ops : List Operation) (orders : List Order) (marks : List ℕ) : Type 0 where
  pub sound : AllByRecursion (IsSound ops) orders
  pub marked : AreMarkedAmong orders marks

-- the keys of the orders stand in increasing order, above the last one
abbrev pub are_rising : Option (List ℕ) → List Order → Bool
are_rising last [] = true
are_rising last (order ∷ orders) = is_above last order.key && are_rising (Some order.key) orders
