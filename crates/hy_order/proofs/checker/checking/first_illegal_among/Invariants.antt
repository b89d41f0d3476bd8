use Rattle.std.proofs.Common.{◌≡◌, ◌+◌, drop}
use Rattle.hy_order.specs.Checking.{AreBelow}
use Rattle.hy_order.specs.Violation.{first_illegal}
use Rattle.hy_order.proofs.checker.checking.first_illegal_among.Given as goal

abbrev pub invariant-loop-place : goal.invariant-loop-place
invariant-loop-place l = record {
  below : AreBelow (l.place + 1) l.marks;
  legal : first_illegal l.index (drop l.place l.orders) ≡ first_illegal l.index l.orders;
}
