-- What the checker keeps on its way through a history and an order.
use Rattle.std.specs.Prelude.{◌≡◌, ℕ, ◌-◌, ◌<◌, ◌≤◌, ◌==◌, Bool, ◌&&◌, not, nat_le, if◌then◌else◌, List, [], ◌∷◌, length, slice_index, Option, is_some}
use Rattle.std.specs.List.{AllByRecursion, find}
use Rattle.std.specs.Option.{option_map}
use Rattle.hy_order.specs.declared.operation.End.{End}
use Rattle.hy_order.specs.declared.operation.End.TheVariants.{Replied, Pending}
use Rattle.hy_order.specs.declared.operation.Operation.{Operation}
use Rattle.hy_order.specs.History.{IsNumberedFrom}
use Rattle.hy_order.specs.Linearization.{is_finished, returned_before}
use Rattle.hy_order.specs.Violation.{is_listed}

-- the number is that of one of so many operations, which are numbered from 1
abbrev pub IsPlace : ℕ → ℕ → Type 0
IsPlace count number = (1 ≤ number) × (number ≤ count)

-- each number is that of one of so many operations
abbrev pub ArePlaces : ℕ → List ℕ → Type 0
ArePlaces count numbers = AllByRecursion (IsPlace count) numbers

-- there is one mark for each of the operations, which are numbered from 1
pub record AreMarksOf (ops : List Operation) (marks : List ℕ) : Type 0 where
  pub count : length marks ≡ length ops
  pub numbered : IsNumberedFrom 1 ops

-- each mark is below that of the order
abbrev pub AreBelow : ℕ → List ℕ → Type 0
AreBelow order marks = (place : ℕ) → slice_index marks place < order

-- the operation of the number has the mark of the order
abbrev pub is_marked : List ℕ → ℕ → ℕ → Bool
is_marked marks order number =
    (nat_le 1 number && nat_le number (length marks)) && (slice_index marks (number - 1) == order)

-- the operations that have the mark of the order are those of the numbers
abbrev pub AreMarked : List ℕ → ℕ → List ℕ → Type 0
AreMarked numbers order marks =
    (number : ℕ) → IsPlace (length marks) number → is_marked marks order number ≡ is_listed numbers number

-- the number of the first finished operation that is not among the listed ones
abbrev pub unlisted_number : (ℕ → Bool) → List Operation → Option ℕ
unlisted_number is_among ops =
    option_map (λ (op : Operation). op.number) (find (λ op. is_finished op.end && not (is_among op.number)) ops)

-- the operations from the first on after which one stands that returned before it was invoked
abbrev pub early_part : List Operation → List Operation
early_part [] = []
early_part (op ∷ later) =
    if is_some (find (λ next. returned_before op.invoked next.end) later) then op ∷ later else early_part later

-- the step of the return, or the last step that there is
abbrev pub return_step : End → ℕ
return_step (Replied at reply) = at
return_step (Pending phase have need) = 18446744073709551615
