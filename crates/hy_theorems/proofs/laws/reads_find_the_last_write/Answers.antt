use Rattle.std.proofs.Common.{List, map, sym, subst}
use Rattle.hy_order.specs.Linearization.{no_register, ReadsRegister}
use Rattle.hy_trace.specs.Order.{Mark, op_of}
use Rattle.hy_theorems.proofs.Linear.{reads-register}
use Rattle.hy_trace.specs.Schedule.{trace_of}
use Rattle.hy_trace.proofs.Steps.{schedule-trace}
use Rattle.hy_theorems.proofs.Placed.{orders-same}
use Rattle.hy_theorems.proofs.laws.reads_find_the_last_write.Goals as goal

pub returns : goal.returns
returns c = λ p schedule key shape free bytes_only. subst (λ (ms : List Mark). ReadsRegister no_register (map op_of ms)) (sym (orders-same p (trace_of p schedule) (schedule-trace p schedule) key)) (reads-register p (trace_of p schedule) (schedule-trace p schedule) key shape free bytes_only)
