use Rattle.hy_mwire.proofs.Fronts.{fault_front, front_fault}
use Rattle.hy_mwire.proofs.laws.faults_are_of_their_frame.Goals as goal

pub returns : goal.returns
returns c = λ place bytes wrong are. (fault_front place bytes wrong are, front_fault place bytes wrong are)
