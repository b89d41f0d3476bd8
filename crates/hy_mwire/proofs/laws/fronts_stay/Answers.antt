use Rattle.hy_mwire.proofs.Fronts.{message-append, fault-append}
use Rattle.hy_mwire.proofs.laws.fronts_stay.Goals as goal

pub returns-clause-message : goal.returns-clause-message
returns-clause-message c = message-append

pub returns-clause-fault : goal.returns-clause-fault
returns-clause-fault c = fault-append
