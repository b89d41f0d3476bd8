use Rattle.hy_record.proofs.CloudSets.{quorum-clouds}
use Rattle.hy_record.proofs.laws.record_lists_a_quorum.Goals as goal

pub returns-clause-count : goal.returns-clause-count
returns-clause-count c = λ r ruled. (quorum-clouds r ruled).0

pub returns-clause-clouds : goal.returns-clause-clouds
returns-clause-clouds c = λ r ruled. (quorum-clouds r ruled).1
