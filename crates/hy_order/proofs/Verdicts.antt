-- The verdict, by the first find that gives something.
use Rattle.std.proofs.Common.{◌≡◌, ℕ, List, Some, None}
use Rattle.hy_order.specs.declared.verdict.Verdict.TheVariants.{Legal, Missing, Stranger, Twice, Early, Wrong}
use Rattle.hy_order.specs.declared.operation.Operation.{Operation}
use Rattle.hy_order.specs.Linearization.{no_register, listed}
use Rattle.hy_order.specs.Violation.{missing_number, stranger_number, repeated_number, early_numbers, wrong_number, first_violation}

module _ (history : List Operation) (key order : List ℕ) where
  pub Missing-first : (number : ℕ) → missing_number history key order ≡ Some number → Missing number ≡ first_violation history key order
  unfolding first_violation
  Missing-first number missing = rw missing

  pub Stranger-first : (number : ℕ) → missing_number history key order ≡ None → stranger_number history key order ≡ Some number → Stranger number ≡ first_violation history key order
  unfolding first_violation
  Stranger-first number complete stranger = rw (complete, stranger)

  pub Twice-first : (number : ℕ) → missing_number history key order ≡ None → stranger_number history key order ≡ None → repeated_number order ≡ Some number → Twice number ≡ first_violation history key order
  unfolding first_violation
  Twice-first number complete members repeated = rw (complete, members, repeated)

  pub Early-first : (earlier later : ℕ) → missing_number history key order ≡ None → stranger_number history key order ≡ None → repeated_number order ≡ None → early_numbers (listed history order) ≡ Some (earlier, later)
      → Early earlier later ≡ first_violation history key order
  unfolding first_violation
  Early-first earlier later complete members distinct early = rw (complete, members, distinct, early)

  pub Wrong-first : (number : ℕ) → missing_number history key order ≡ None → stranger_number history key order ≡ None → repeated_number order ≡ None → early_numbers (listed history order) ≡ None
      → wrong_number no_register (listed history order) ≡ Some number → Wrong number ≡ first_violation history key order
  unfolding first_violation
  Wrong-first number complete members distinct ordered wrong = rw (complete, members, distinct, ordered, wrong)

  pub Legal-first : missing_number history key order ≡ None → stranger_number history key order ≡ None → repeated_number order ≡ None → early_numbers (listed history order) ≡ None
      → wrong_number no_register (listed history order) ≡ None → Legal ≡ first_violation history key order
  unfolding first_violation
  Legal-first complete members distinct ordered reads = rw (complete, members, distinct, ordered, reads)
