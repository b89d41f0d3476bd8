use Rattle.std.proofs.Common.{◌≡◌}
use Rattle.hy_shared.specs.Sessions.{new_session_of}
use Rattle.hy_shared.proofs.tests.last_session.Given as goal

abbrev pub invariant-loop-given : goal.invariant-loop-given
invariant-loop-given l = record {
  table : l.root.table ≡ l.table;
  given : l.root.given ≡ l._given;
  last : l.last ≡ new_session_of l.table l._given;
}
