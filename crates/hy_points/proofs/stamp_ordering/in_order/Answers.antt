use Rattle.hy_points.specs.Stamps.{told_cmp}
use Rattle.hy_points.proofs.Sorting.{sort-inserts}
use Rattle.hy_points.proofs.StampLaw.{told_total}
use Rattle.hy_points.proofs.stamp_ordering.in_order.Goals as goal

pub returns : goal.returns
returns c = sort-inserts told_cmp told_total _ _ c.in_ok-sort.ensures.sorted c.in_ok-sort.ensures.stable
