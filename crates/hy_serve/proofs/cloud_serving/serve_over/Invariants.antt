use Rattle.std.proofs.Common.{◌≡◌}
use Rattle.hy_base.specs.Net.{Adds}
use Rattle.hy_serve.specs.CloudStanding.{IsSome}
use Rattle.hy_serve.specs.CloudWaiting.{Waits}
use Rattle.hy_serve.proofs.cloud_serving.serve_over.Given as goal

abbrev pub invariant-loop-taken : goal.invariant-loop-taken
invariant-loop-taken g l = record {
  plays : Adds g.N.Net.told g.N.Net.tells l.fn.net l.net (Waits l.port l.arrivals l._taken l.server);
  stays : g.N.Net.taking_faults l.net ≡ g.N.Net.taking_faults l.fn.net;
  stands : IsSome l.server;
}
