use Rattle.std.proofs.Common.{◌≡◌}
use Rattle.hy_record.specs.Clouds.{set_of}
use Rattle.hy_operation.specs.Marks.{marked_below}
use Rattle.hy_operation.proofs.marks.Marks.set_below.Given as goal

abbrev pub invariant-loop-cloud : goal.invariant-loop-cloud
invariant-loop-cloud l = l.set ≡ set_of (marked_below l.self l.cloud)
