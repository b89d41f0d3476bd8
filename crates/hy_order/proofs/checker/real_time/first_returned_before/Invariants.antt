use Rattle.std.proofs.Common.{◌≡◌, drop, map}
use Rattle.std.specs.Borrow.{Bor}
use Rattle.hy_order.specs.declared.operation.Operation.{Operation}
use Rattle.hy_order.specs.Violation.{returned_number}
use Rattle.hy_order.proofs.checker.real_time.first_returned_before.Given as goal

abbrev pub invariant-loop-op : goal.invariant-loop-op
invariant-loop-op l =
    returned_number l.step (map (λ (op : Bor Operation). op.now) (drop l.op-index l.listed)) ≡ returned_number l.step (map (λ (op : Bor Operation). op.now) l.listed)
