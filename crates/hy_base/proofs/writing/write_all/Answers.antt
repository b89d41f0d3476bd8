use Rattle.std.proofs.Common.{◌∙◌, arith}
use Rattle.std.proofs.lemmas.Grind.{common_steps}
use Rattle.hy_base.proofs.Appending.{Appends-more}
use Rattle.hy_base.proofs.writing.write_all.Goals as goal

pub loop-written-preserved : goal.loop-written-preserved
loop-written-preserved g c = record {
  within = grind (arith, common_steps);
  added = Appends-more _ (g.K.Sink.written c.loop-written.sink) _ c.args.bytes.now c.loop-written.written c.in_ok-written.field-0 c.loop-written.invariant.added c.in_ok-written.ensures.appends;
  kept = c.in_ok-written.ensures.cause.kept ∙ c.loop-written.invariant.kept;
}
