use Rattle.hy_get.proofs.Rebuilt.{enough-replies}
use Rattle.hy_get.proofs.laws.gets_reply_at_enough_fragments.Goals as goal

pub returns : goal.returns
returns c = enough-replies
