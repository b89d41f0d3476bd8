use Rattle.hy_record.proofs.Records.{record_prefix}
use Rattle.hy_record.proofs.laws.record_spellings_are_apart.Goals as goal

pub returns : goal.returns
returns c = λ a b x y r s one other same. record_prefix a b x y r s one other same
