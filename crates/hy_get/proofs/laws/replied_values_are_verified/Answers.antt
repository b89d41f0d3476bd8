use Rattle.hy_get.proofs.Rebuilt.{replies-rebuilt}
use Rattle.hy_get.proofs.laws.replied_values_are_verified.Goals as goal

pub returns : goal.returns
returns c = replies-rebuilt
