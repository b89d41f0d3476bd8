use Rattle.std.proofs.Common.{◌≡◌, ◌≤◌, drop, length, map}
use Rattle.std.specs.Borrow.{Bor}
use Rattle.hy_order.specs.declared.operation.Operation.{Operation}
use Rattle.hy_order.specs.Checking.{early_part}
use Rattle.hy_order.proofs.Listed.{earliest_return}
use Rattle.hy_order.proofs.checker.real_time.early_start.Given as goal

abbrev pub invariant-loop-place : goal.invariant-loop-place
invariant-loop-place l = record {
  within : l.start ≤ length l.listed;
  earliest : l.earliest ≡ earliest_return (drop l.place (map (λ (op : Bor Operation). op.now) l.listed));
  part : drop l.start (map (λ (op : Bor Operation). op.now) l.listed) ≡ early_part (drop l.place (map (λ (op : Bor Operation). op.now) l.listed));
}
