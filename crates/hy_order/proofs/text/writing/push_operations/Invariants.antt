-- The lines of the operations so far.
use Rattle.std.proofs.Common.{◌≡◌, ◌++◌, map, take}
use Rattle.hy_text.specs.Line.{text_of}
use Rattle.hy_order.specs.Report.{operation_row}
use Rattle.hy_order.proofs.text.writing.push_operations.Given as goal

abbrev pub invariant-loop-op : goal.invariant-loop-op
invariant-loop-op l = l.out.items ≡ l.initial.out.items ++ text_of (map operation_row (take l.op-index l.ops))
