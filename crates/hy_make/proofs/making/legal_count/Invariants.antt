use Rattle.std.proofs.Common.{◌≡◌, take}
use Rattle.std.specs.List.{AllByRecursion}
use Rattle.hy_order.specs.Linearization.{IsLinearized}
use Rattle.hy_make.specs.Making.{legal_count}
use Rattle.hy_make.proofs.making.legal_count.Given as goal

abbrev pub invariant-loop-order : goal.invariant-loop-order
invariant-loop-order l = record {
  counted : l.count ≡ legal_count l.report.history (take l.order-index l.order-items);
  all : AllByRecursion (IsLinearized l.report.history) l.order-items → l.count ≡ l.order-index;
}
