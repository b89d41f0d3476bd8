use Rattle.std.proofs.Common.{◌≡◌, take}
use Rattle.hy_base.specs.Pieces.{total, LacksRun}
use Rattle.hy_base.proofs.pieces.find.Given as goal

abbrev pub invariant-loop-index : goal.invariant-loop-index
invariant-loop-index l = record {
  start : l.start ≡ total (take l.index l.runs);
  others : LacksRun l.conn (take l.index l.runs);
}
