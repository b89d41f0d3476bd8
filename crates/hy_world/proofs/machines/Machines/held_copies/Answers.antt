use Rattle.hy_trace.specs.Held.{held_of}
use Rattle.hy_world.proofs.Reports.{held-more, held-all}
use Rattle.hy_world.proofs.machines.Machines.held_copies.Goals as goal

pub loop-order-preserved : goal.loop-order-preserved
loop-order-preserved g c = λ p t r.
    held-more (held_of p t) c.args.orders.now c.loop-order.order-index c.order-item.result c.loop-order.copies.items c.push_held.new.copies.items c.held-held.result c.loop-order-test.true c.order-item.is
    c.in_ok-push_held.ensures (c.held-held.ensures p t r) (c.loop-order.invariant p t r)

pub returns : goal.returns
returns g c = λ p t r. held-all (held_of p t) c.args.orders.now c.loop-order.order-index c.loop-order.copies.items c.loop-order-test.false (c.loop-order.invariant p t r)
