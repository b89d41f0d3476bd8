-- The marks of the numbers so far, none of which stood earlier too where each was new.
use Rattle.std.proofs.Common.{◌≡◌, true, length, take, drop}
use Rattle.hy_order.specs.Checking.{ArePlaces}
use Rattle.hy_order.specs.Plain.{AreAlsoMarked}
use Rattle.hy_order.specs.Violation.{repeated_after, repeated_number}
use Rattle.hy_order.proofs.checker.plain.mark_new.Given as goal

abbrev pub invariant-loop-number : goal.invariant-loop-number
invariant-loop-number l = record {
  marked : AreAlsoMarked (take l.number-index l.numbers) l.initial.marks l.marks;
  new :
      l.new ≡ true
      → ArePlaces (length l.marks) l.numbers
      → repeated_after (take l.number-index l.numbers) (drop l.number-index l.numbers) ≡ repeated_number l.numbers;
}
