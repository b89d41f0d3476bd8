use Rattle.std.proofs.Common.{◌≡◌, drop, map}
use Rattle.std.specs.Borrow.{Bor}
use Rattle.hy_order.specs.declared.operation.Operation.{Operation}
use Rattle.hy_order.specs.Checking.{is_marked, unlisted_number}
use Rattle.hy_order.proofs.checker.listing.first_unmarked.Given as goal

abbrev pub invariant-loop-op : goal.invariant-loop-op
invariant-loop-op l =
    unlisted_number (is_marked l.marks l.order) (map (λ (op : Bor Operation). op.now) (drop l.op-index l.ops))
    ≡ unlisted_number (is_marked l.marks l.order) (map (λ (op : Bor Operation). op.now) l.ops)
