use Rattle.std.proofs.Common.{◌+◌, refl, arith}
use Rattle.hy_base.specs.Pieces.{total}
use Rattle.hy_base.proofs.Runs.{total-more, total-front, LacksRun-more, IsRun-found, not-equal}
use Rattle.hy_base.proofs.pieces.find.Goals as goal

pub loop-index-init : goal.loop-index-init
unfolding total
loop-index-init c = record { start = refl; others = tt }

pub returns-then-run-conn : goal.returns-then-run-conn
returns-then-run-conn c = IsRun-found c.args.runs.now c.args.conn c.loop-index.index c.loop-index.start _ c.loop-index-test.true
    (c.if-run-conn.true) c.loop-index.invariant.others c.loop-index.invariant.start

pub overflow_add-start : goal.overflow_add-start
overflow_add-start c = omega (arith, c.loop-index.invariant.start, total-front c.args.runs.now (c.loop-index.index + 1), total-more c.args.runs.now c.loop-index.index (record { conn = 0; size = 0 }) c.loop-index-test.true, c.requires)

pub loop-index-preserved : goal.loop-index-preserved
loop-index-preserved c = record {
  start = omega (arith, c.loop-index.invariant.start, total-more c.args.runs.now c.loop-index.index (record { conn = 0; size = 0 }) c.loop-index-test.true);
  others = LacksRun-more c.args.conn c.args.runs.now c.loop-index.index (record { conn = 0; size = 0 }) c.loop-index-test.true c.loop-index.invariant.others (not-equal _ _ c.if-run-conn.false);
}
