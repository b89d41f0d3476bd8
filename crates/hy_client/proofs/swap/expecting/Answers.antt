use Rattle.hy_protocol.specs.Swap.{expecting}
use Rattle.hy_client.proofs.Swapping.{each-expects}
use Rattle.hy_client.proofs.swap.expecting.Goals as goal

pub loop-out-preserved : goal.loop-out-preserved
loop-out-preserved c = each-expects (expecting c.args.expected) c.deref_mut-out-items.result.now c.loop-out.out-items c.loop-out.out-index c.out-item.result c.expect.new.out c.loop-out-test.true c.loop-out.invariant.0 c.loop-out.invariant.1 c.expect.ensures
