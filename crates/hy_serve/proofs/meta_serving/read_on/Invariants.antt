use Rattle.std.proofs.Common.{◌≡◌}
use Rattle.hy_base.specs.Net.{Adds}
use Rattle.hy_serve.specs.MetaStanding.{weight_at}
use Rattle.hy_serve.specs.MetaPlaying.{ReadsSome}
use Rattle.hy_serve.proofs.meta_serving.read_on.Given as goal

abbrev pub invariant-messages : goal.invariant-messages
invariant-messages g l = record {
  plays : Adds g.N.Net.told g.N.Net.tells l.fn.net l.net (ReadsSome l.fn.server l.server l.conn);
  taking : g.N.Net.taking_faults l.net ≡ g.N.Net.taking_faults l.fn.net;
}

abbrev pub decreases-messages : goal.decreases-messages
decreases-messages g l = weight_at l.server l.conn
