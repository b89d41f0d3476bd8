use Rattle.std.proofs.Common.{ap, map}
use Rattle.hy_trace.specs.Order.{op_of}
use Rattle.hy_trace.specs.Schedule.{trace_of}
use Rattle.hy_trace.proofs.Steps.{schedule-trace}
use Rattle.hy_theorems.proofs.Placed.{orders-same}
use Rattle.hy_theorems.proofs.laws.orders_stand_by_stamp.Goals as goal

pub returns : goal.returns
returns c = λ p schedule key. ap (map op_of) (orders-same p (trace_of p schedule) (schedule-trace p schedule) key)
