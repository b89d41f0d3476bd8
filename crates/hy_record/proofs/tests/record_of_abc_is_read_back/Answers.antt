-- One bit is a quorum of one cloud.
use Rattle.std.proofs.Common.{refl}
use Rattle.std.specs.Int.Count.{ones}
use Rattle.hy_record.proofs.tests.record_of_abc_is_read_back.Goals as goal

pub value-requires-clause-quorum : goal.value-requires-clause-quorum
unfolding ones
value-requires-clause-quorum g c = refl
