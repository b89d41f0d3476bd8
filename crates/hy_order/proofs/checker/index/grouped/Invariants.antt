use Rattle.std.proofs.Common.{take}
use Rattle.hy_order.specs.Index.{IsGrouped}
use Rattle.hy_order.proofs.checker.index.grouped.Given as goal

abbrev pub invariant-loop-op : goal.invariant-loop-op
invariant-loop-op l = IsGrouped (take l.op-index l.ops) l.by_key.entries
