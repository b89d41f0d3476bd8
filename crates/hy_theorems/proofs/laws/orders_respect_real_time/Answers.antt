use Rattle.std.proofs.Common.{List, map, sym, subst}
use Rattle.hy_order.specs.Linearization.{RespectsRealTime}
use Rattle.hy_trace.specs.Order.{Mark, op_of}
use Rattle.hy_theorems.proofs.Linear.{real-time}
use Rattle.hy_trace.specs.Schedule.{trace_of}
use Rattle.hy_trace.proofs.Steps.{schedule-trace}
use Rattle.hy_theorems.proofs.Placed.{orders-same}
use Rattle.hy_theorems.proofs.laws.orders_respect_real_time.Goals as goal

pub returns : goal.returns
returns c = λ p schedule key. subst (λ (ms : List Mark). RespectsRealTime (map op_of ms)) (sym (orders-same p (trace_of p schedule) (schedule-trace p schedule) key)) (real-time p (trace_of p schedule) (schedule-trace p schedule) key)
