use Rattle.hy_record.proofs.Sizes.{length-record_bytes, record_bytes-short}
use Rattle.hy_record.proofs.laws.record_spellings_are_short.Goals as goal

pub returns-clause-size : goal.returns-clause-size
returns-clause-size c = length-record_bytes

pub returns-clause-short : goal.returns-clause-short
returns-clause-short c = record_bytes-short
