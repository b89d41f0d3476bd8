use Rattle.std.proofs.Common.{◌≡◌, ◌≤◌}
use Rattle.hy_base.specs.Net.{Adds}
use Rattle.hy_drive.specs.Standing.{IsResting}
use Rattle.hy_drive.proofs.Arrivals.{Stays}
use Rattle.hy_drive.proofs.driving.drive_over.Given as goal

abbrev pub invariant-loop-taken : goal.invariant-loop-taken
invariant-loop-taken g l = record {
  plays : Adds g.N.Net.told g.N.Net.tells l.fn.net l.net (Stays l.job l.fn.driver l.arrivals l._taken l.driver);
  rests : IsResting l.job l.driver;
  taking : g.N.Net.taking_faults l.net ≡ g.N.Net.taking_faults l.fn.net;
  sending : g.N.Net.sending_faults l.fn.net ≤ g.N.Net.sending_faults l.net;
}
