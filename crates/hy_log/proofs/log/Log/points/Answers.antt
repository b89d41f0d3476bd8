use Rattle.std.proofs.Common.{map, sym, ap, subst, ◌∙◌}
use Rattle.hy_points.specs.Atomic.{IsAtomicLog, AsksOnce}
use Rattle.hy_log.specs.Points.{point_at}
use Rattle.hy_log.specs.RunOrders.{OrdersRun}
use Rattle.hy_log.proofs.Timing.{told-points}
use Rattle.hy_log.proofs.TraceKeys.{orders-run}
use Rattle.hy_log.proofs.TracePoints.{points-atomic, points-once}
use Rattle.hy_log.proofs.log.Log.points.Goals as goal

pub returns-clause-points : goal.returns-clause-points
returns-clause-points c =
    let log = c.args.self.now in
    λ p t trace keeps. c.of.ensures ∙ c.in_ok-points.ensures ∙ ap (map point_at) (c.deref.ensures.value ∙ c.in_ok-sorted.ensures)
    ∙ told-points p t log.posts.items log.starts.items log.courses log.steps c.in_ok-moments.moments.items trace keeps c.in_ok-moments.ensures

pub returns-clause-atomic : goal.returns-clause-atomic
returns-clause-atomic c = λ p t trace keeps. subst IsAtomicLog (sym (returns-clause-points c p t trace keeps)) (points-atomic p t trace)

pub returns-clause-once : goal.returns-clause-once
returns-clause-once c = λ p t trace keeps. subst AsksOnce (sym (returns-clause-points c p t trace keeps)) (points-once p t trace)

pub returns-clause-order : goal.returns-clause-order
returns-clause-order c = λ p t trace keeps. subst (OrdersRun p t) (sym (returns-clause-points c p t trace keeps)) (orders-run p t trace)
