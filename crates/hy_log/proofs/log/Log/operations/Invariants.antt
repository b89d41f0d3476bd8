use Rattle.std.proofs.Common.{◌≡◌, length, take}
use Rattle.hy_log.specs.History.{told_from}
use Rattle.hy_log.proofs.log.Log.operations.Given as goal

abbrev pub invariant-loop-started : goal.invariant-loop-started
invariant-loop-started l = record {
  count : length l.operations.items ≡ l.started-index;
  told : l.operations.items ≡ told_from l.self.courses l.running 1 (take l.started-index l.self.starts.items);
}
