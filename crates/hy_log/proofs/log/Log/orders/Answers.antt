use Rattle.std.proofs.Common.{◌∙◌}
use Rattle.hy_log.proofs.Ordered.{told-orders}
use Rattle.hy_log.proofs.log.Log.orders.Goals as goal

pub returns : goal.returns
returns c =
    let log = c.args.self.now in
    λ p t trace keeps. c.in_ok-orders.ensures.orders
    ∙ told-orders p t log.posts.items log.starts.items log.courses log.steps c.in_ok-places.places trace keeps c.in_ok-places.ensures c.in_ok-orders.ensures.sorted
