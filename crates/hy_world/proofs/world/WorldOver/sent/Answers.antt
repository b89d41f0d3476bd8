use Rattle.std.proofs.Common.{rules}
use Rattle.hy_trace.specs.Schedule.{trace_of}
use Rattle.hy_world.proofs.Doing.{sent-count}
use Rattle.hy_world.proofs.world.WorldOver.sent.Goals as goal

pub returns : goal.returns
returns g c = λ p steps r. (let count = sent-count p (trace_of p steps) c.args.self.now.simulation.log r.log_keeps in search rules)
