use Rattle.hy_shared.proofs.Telling.{tells}
use Rattle.hy_shared.proofs.laws.words_tell_the_record.Goals as goal

pub returns : goal.returns
returns c = tells
