-- One cloud more of the range is one number more, where it is in the set.
use Rattle.std.proofs.Common.{arith, rules}
use Rattle.hy_text.proofs.CloudBits.{clouds_below-there, clouds_below-absent, clouds_below-all}
use Rattle.hy_text.proofs.clouds.cloud_numbers.Goals as goal
use Rattle.hy_text.proofs.clouds.cloud_numbers.Goals.{then-clouds-cloud-eq1+in_ok-push, else-clouds-cloud-eq1}

pub loop-cloud-preserved : goal.loop-cloud-preserved
loop-cloud-preserved c = elim c.if-clouds-cloud-eq1.branch [
  | then-clouds-cloud-eq1+in_ok-push w ↦ clouds_below-there c.args.clouds c.loop-cloud.cloud c.loop-cloud.numbers.items _ c.loop-cloud.invariant w.if-clouds-cloud-eq1.true (search rules)
  | else-clouds-cloud-eq1 w ↦ clouds_below-absent c.args.clouds c.loop-cloud.cloud c.loop-cloud.numbers.items _ c.loop-cloud.invariant w.if-clouds-cloud-eq1.false (search rules)
]

pub returns : goal.returns
returns c = clouds_below-all c.args.clouds c.loop-cloud.cloud c.loop-cloud.numbers.items c.loop-cloud.invariant (omega arith)
