use Rattle.std.proofs.Common.{◌≡◌, drop, map}
use Rattle.std.specs.Borrow.{Bor}
use Rattle.hy_order.specs.declared.operation.Operation.{Operation}
use Rattle.hy_order.specs.Linearization.{no_register}
use Rattle.hy_order.specs.Violation.{wrong_number}
use Rattle.hy_order.proofs.checker.register.first_wrong.Given as goal

abbrev pub invariant-loop-op : goal.invariant-loop-op
invariant-loop-op l =
    wrong_number l.held (map (λ (op : Bor Operation). op.now) (drop l.op-index l.listed)) ≡ wrong_number no_register (map (λ (op : Bor Operation). op.now) l.listed)
