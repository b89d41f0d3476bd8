use Rattle.hy_points.proofs.Moments.{moment_total}
use Rattle.hy_points.specs.Marks.{moment_cmp}
use Rattle.hy_points.proofs.Sorting.{sort-inserts}
use Rattle.hy_points.proofs.ordering.in_order.Goals as goal

pub returns : goal.returns
returns c = sort-inserts moment_cmp moment_total _ _ c.in_ok-sort.ensures.sorted c.in_ok-sort.ensures.stable
