use Rattle.std.proofs.Common.{◌≡◌, ◌≤◌, ℕ, drop}
use Rattle.hy_base.specs.Net.{Adds}
use Rattle.hy_serve.specs.MetaStanding.{requests_for, weight_at}
use Rattle.hy_serve.specs.MetaPlaying.{Makes}
use Rattle.hy_serve.proofs.meta_serving.send_all.Given as goal

abbrev pub invariant-loop-letter : goal.invariant-loop-letter
invariant-loop-letter g l = record {
  plays : Adds g.N.Net.told g.N.Net.tells l.fn.net l.net (Makes l.fn.server l.server (requests_for l.letters) (requests_for (drop l.letter-index l.letters)));
  taking : g.N.Net.taking_faults l.net ≡ g.N.Net.taking_faults l.fn.net;
  lighter : (c : ℕ) → weight_at l.server c ≤ weight_at l.fn.server c;
}
