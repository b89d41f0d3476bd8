-- Operations at the places that their numbers tell.
use Rattle.std.proofs.Common.{◌≡◌, ℕ, zero, suc, ◌+◌, ◌<◌, ◌==◌, List, [], ◌∷◌, Some, None, refl, ◌∙◌, arith, eq-eqb, ne_eqb}
use Rattle.std.proofs.lemmas.Bool.{cond-true, cond-false}
use Rattle.std.specs.List.{slice_get}
use Rattle.hy_order.specs.declared.operation.Operation.{Operation}
use Rattle.hy_order.specs.History.{IsNumberedFrom}
use Rattle.hy_order.specs.Linearization.{operation_at}

-- the operation of a number stands at its place
operation_at-place : (first : ℕ) (ops : List Operation) (number place : ℕ) → IsNumberedFrom first ops → number ≡ first + place → operation_at ops number ≡ slice_get ops place
operation_at-place first [] number place numbered is = refl
operation_at-place first (op ∷ ops) number zero numbered is =
    cond-true (op.number == number) (Some op) (operation_at ops number) (eq-eqb _ _ (omega arith))
operation_at-place first (op ∷ ops) number (suc place) numbered is =
    cond-false (op.number == number) (Some op) (operation_at ops number) (ne_eqb _ _ (λ same. omega arith))
    ∙ operation_at-place (first + 1) ops number place numbered.1 (omega arith)

pub operation_at-slice_get : (ops : List Operation) (number place : ℕ) → IsNumberedFrom 1 ops → number ≡ place + 1 → operation_at ops number ≡ slice_get ops place
operation_at-slice_get ops number place numbered is = operation_at-place 1 ops number place numbered (omega arith)

operation_at-before : (first : ℕ) (ops : List Operation) (number : ℕ) → IsNumberedFrom first ops → number < first → operation_at ops number ≡ None
operation_at-before first [] number numbered below = refl
operation_at-before first (op ∷ ops) number numbered below =
    cond-false (op.number == number) (Some op) (operation_at ops number) (ne_eqb _ _ (λ same. omega arith))
    ∙ operation_at-before (first + 1) ops number numbered.1 (omega arith)

-- no operation has the number 0
pub operation_at-zero : (ops : List Operation) (number : ℕ) → IsNumberedFrom 1 ops → number < 1 → operation_at ops number ≡ None
operation_at-zero ops number numbered below = operation_at-before 1 ops number numbered below
