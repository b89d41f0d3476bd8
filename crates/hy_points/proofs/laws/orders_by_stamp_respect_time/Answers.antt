use Rattle.hy_points.proofs.StampLaw.{in-time, finds-writes}
use Rattle.hy_points.proofs.laws.orders_by_stamp_respect_time.Goals as goal

pub returns-clause-time : goal.returns-clause-time
returns-clause-time c = λ history key timely. in-time history key timely

pub returns-clause-reads : goal.returns-clause-reads
returns-clause-reads c = λ history key timely. finds-writes history key timely
