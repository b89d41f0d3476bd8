use Rattle.hy_get.proofs.Rebuilt.{too-few}
use Rattle.hy_get.proofs.laws.gets_await_fragments.Goals as goal

pub returns : goal.returns
returns c = too-few
