-- What the orders by the points of a run are.
use Rattle.std.specs.Prelude.{◌≡◌, ℕ, List}
use Rattle.hy_points.specs.declared.point.Point.{Point}
use Rattle.hy_points.specs.Marks.{order_at, orders_of}
use Rattle.hy_trace.specs.Deeds.{Params, Deed}
use Rattle.hy_trace.specs.Report.{order_of, report_of}

-- the order of each key by the points is that of the trace, and together they are the orders of its report
pub record OrdersRun (p : Params) (t : List Deed) (points : List Point) : Type 0 where
  pub order : (key : List ℕ) → order_at points key ≡ order_of p t key
  pub orders : orders_of points ≡ (report_of p t).orders
