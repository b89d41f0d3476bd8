use Rattle.std.proofs.Common.{◌∙◌, sym}
use Rattle.hy_code.proofs.Refusals.{repeated_here, repeated_later}
use Rattle.hy_code.proofs.rebuilding.repeated_cloud.Goals as goal

pub returns-then-has_cloud : goal.returns-then-has_cloud
returns-then-has_cloud c =
    sym (repeated_here c.args.picks.now c.loop-i.i c.index-picks-i.result c.loop-i-test.true c.index-picks-i.is c.loop-i.invariant
    (sym c.has_cloud.ensures ∙ c.if-has_cloud.true))

pub loop-i-preserved : goal.loop-i-preserved
loop-i-preserved c =
    repeated_later c.args.picks.now c.loop-i.i c.index-picks-i.result c.loop-i-test.true c.index-picks-i.is c.loop-i.invariant
    (sym c.has_cloud.ensures ∙ c.if-has_cloud.false)
