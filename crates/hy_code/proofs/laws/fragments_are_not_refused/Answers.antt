use Rattle.hy_code.proofs.NotRefused.{not_refused}
use Rattle.hy_code.proofs.laws.fragments_are_not_refused.Goals as goal

pub returns : goal.returns
returns c = not_refused
