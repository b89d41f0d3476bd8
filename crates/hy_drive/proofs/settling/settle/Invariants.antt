use Rattle.std.proofs.Common.{◌≡◌, ◌≤◌}
use Rattle.hy_base.specs.Net.{Adds}
use Rattle.hy_drive.specs.Standing.{IsSome}
use Rattle.hy_drive.proofs.Rounds.{Advances}
use Rattle.hy_drive.proofs.settling.settle.Given as goal

abbrev pub invariant-loop-step : goal.invariant-loop-step
invariant-loop-step g l = record {
  plays : Adds g.N.Net.told g.N.Net.tells l.fn.net l.net (Advances l.job l.fn.driver l.driver);
  stands : IsSome l.job l.driver;
  taking : g.N.Net.taking_faults l.net ≡ g.N.Net.taking_faults l.fn.net;
  sending : g.N.Net.sending_faults l.fn.net ≤ g.N.Net.sending_faults l.net;
}
