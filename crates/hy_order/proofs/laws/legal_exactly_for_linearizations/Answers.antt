use Rattle.hy_order.proofs.Legal.{Legal-IsLinearization}
use Rattle.hy_order.proofs.laws.legal_exactly_for_linearizations.Goals as goal

pub returns : goal.returns
returns c = Legal-IsLinearization
