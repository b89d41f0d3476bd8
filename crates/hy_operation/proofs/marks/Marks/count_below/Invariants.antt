use Rattle.std.proofs.Common.{◌≡◌, length}
use Rattle.hy_operation.specs.Marks.{marked_below}
use Rattle.hy_operation.proofs.marks.Marks.count_below.Given as goal

abbrev pub invariant-loop-cloud : goal.invariant-loop-cloud
invariant-loop-cloud l = l.count ≡ length (marked_below l.self l.cloud)
