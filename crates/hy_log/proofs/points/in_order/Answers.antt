use Rattle.std.proofs.Common.{rules}
use Rattle.std.proofs.lemmas.List.Sorted.{answers_always}
use Rattle.hy_points.proofs.Sorting.{sort-inserts}
use Rattle.hy_log.specs.Points.{step_cmp}
use Rattle.hy_log.proofs.Timing.{steps-total}
use Rattle.hy_log.proofs.points.in_order.Goals as goal

pub returns : goal.returns
returns c =
    sort-inserts step_cmp steps-total c.args.moments.items c.sort_by_key.new.self.items
    (c.in_ok-sort_by_key.ensures.sorted (λ m. m.step) (answers_always _ _ _ (λ f a r g h. search rules)))
    (c.sort_by_key.ensures.stable (λ m. m.step) (answers_always _ _ _ (λ f a r g h. search rules)))
