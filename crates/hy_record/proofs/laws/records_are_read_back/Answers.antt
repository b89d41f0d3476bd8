use Rattle.hy_record.proofs.Records.{record_of_again}
use Rattle.hy_record.proofs.laws.records_are_read_back.Goals as goal

pub returns : goal.returns
returns c = λ r ruled. record_of_again r ruled
