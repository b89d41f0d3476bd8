use Rattle.std.proofs.Common.{◌≡◌}
use Rattle.hy_base.specs.Net.{Adds}
use Rattle.hy_serve.specs.MetaPlaying.{MetaWaits}
use Rattle.hy_serve.proofs.meta_serving.serve_over.Given as goal

abbrev pub invariant-loop-taken : goal.invariant-loop-taken
invariant-loop-taken g l = record {
  plays : Adds g.N.Net.told g.N.Net.tells l.fn.net l.net (MetaWaits l.port l.arrivals l._taken l.server);
  stays : g.N.Net.taking_faults l.net ≡ g.N.Net.taking_faults l.fn.net;
}
