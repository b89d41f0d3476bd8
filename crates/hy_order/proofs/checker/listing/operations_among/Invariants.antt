use Rattle.std.proofs.Common.{◌≡◌, map, take}
use Rattle.std.specs.Borrow.{Bor}
use Rattle.hy_order.specs.declared.operation.Operation.{Operation}
use Rattle.hy_order.specs.Linearization.{listed}
use Rattle.hy_order.proofs.checker.listing.operations_among.Given as goal

abbrev pub invariant-loop-number : goal.invariant-loop-number
invariant-loop-number l = map (λ (op : Bor Operation). op.now) l.found.items ≡ listed l.ops (take l.number-index l.numbers)
