use Rattle.std.proofs.Common.{◌≡◌, ◌+◌, length, take, drop}
use Rattle.std.specs.Option.{option_or}
use Rattle.hy_order.specs.Checking.{AreBelow, AreMarked, ArePlaces}
use Rattle.hy_order.specs.Violation.{repeated_after, repeated_number}
use Rattle.hy_order.proofs.checker.marks.mark_listed.Given as goal

abbrev pub invariant-loop-number : goal.invariant-loop-number
invariant-loop-number l = record {
  marked : AreMarked (take l.number-index l.numbers) l.order l.marks;
  below : AreBelow (l.order + 1) l.marks;
  repeated :
      ArePlaces (length l.marks) l.numbers
      → option_or l.repeated (repeated_after (take l.number-index l.numbers) (drop l.number-index l.numbers)) ≡ repeated_number l.numbers;
}
