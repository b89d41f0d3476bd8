-- The orders by the points of a trace are those of its report.
use Rattle.std.proofs.Common.{◌≡◌, ℕ, List, map, reverse, Some, refl, sym, ap, subst, ◌∙◌, inl, inr}
use Rattle.std.proofs.lemmas.Option.{none-some, same_Some}
use Rattle.hy_record.specs.declared.action.Action.{Action}
use Rattle.hy_record.specs.declared.action.Action.TheVariants as asked
use Rattle.hy_order.specs.declared.operation.Operation.{Operation}
use Rattle.hy_order.specs.declared.order.Order.{Order}
use Rattle.hy_order.specs.Keys.{register_key, register_keys}
use Rattle.hy_points.specs.declared.point.ActKind.{ActKind}
use Rattle.hy_points.specs.declared.point.Point.{Point}
use Rattle.hy_points.specs.declared.point.Point.TheVariants as points
use Rattle.hy_points.specs.Marks.{begun_key, begun_keys, order_at}
use Rattle.hy_points.specs.Runs.{Run, IsPointOf}
use Rattle.hy_points.proofs.Listing.{in-map}
use Rattle.hy_points.proofs.OneOrder.{all-of, AreAmong}
use Rattle.hy_points.proofs.SortedKeys.{picked-in, of-picked, of-mapped, keys-same}
use Rattle.hy_trace.specs.Deeds.{Params, Deed}
use Rattle.hy_trace.specs.History.{Begun, begun_of, operation_of, history_of}
use Rattle.hy_trace.specs.Report.{order_of, keys_of}
use Rattle.hy_trace.specs.Trace.{IsTrace}
use Rattle.hy_theorems.specs.Writing.{Change, Puts, Deletes, Swaps, change_action}
use Rattle.hy_theorems.proofs.Beginnings.{begun-in}
use Rattle.hy_log.specs.Points.{point_at, points_of}
use Rattle.hy_log.specs.RunOrders.{OrdersRun}
use Rattle.hy_log.proofs.Ordered.{map-same}
use Rattle.hy_log.proofs.TraceOrders.{order-is}
use Rattle.hy_log.proofs.TracePoints.{step_of, among-reverse, in_order, are-moments, HasBegun, began-all}
use Rattle.hy_log.proofs.TraceRuns.{change_run, get_run, run_by, IsRun, kind}

begun-of : (q : Point) (key : List ℕ) → begun_key q ≡ Some key → (op : ℕ) × (client : ℕ) × (act : ActKind) × (q ≡ points.Begin op client key act)
begun-of (points.Begin op client k act) key is = (op, client, act, ap (λ (x : List ℕ). points.Begin op client x act) (same_Some k key is))
begun-of (points.Ask op found) key is = absurd (none-some key is)
begun-of (points.Set op stamp applied) key is = absurd (none-some key is)
begun-of (points.Try op stamp found) key is = absurd (none-some key is)
begun-of (points.End op) key is = absurd (none-some key is)

begins-key : (q : Point) (op client : ℕ) (k key : List ℕ) (act : ActKind) → q ≡ points.Begin op client k act → k ≡ key → begun_key q ≡ Some key
begins-key q op client k key act is same = ap begun_key is ∙ ap Some same

write-key : (key : List ℕ) (change : Change) → register_key (change_action key change) ≡ Some key
write-key key (Puts v) = refl
write-key key Deletes = refl
write-key key (Swaps e v) = refl

module _ (p : Params) (t : List Deed) where
  -- the key of a run is the one that its operation names
  run-key : (run : Run) → (is : IsRun p t run) → register_key is.b.start.action ≡ Some run.key
  run-key run is = elim (kind p t run is) [
    | inl w ↦ ap register_key w.action_is ∙ write-key run.key w.change
    | inr w ↦ ap register_key w.action_is
  ]

  run-of : (b : Begun) (key : List ℕ) (a : Action) → register_key a ≡ Some key → (run : Run) × (run_by p t b a ≡ Some run) × (run.key ≡ key)
  run-of b key (asked.Put k v) is = (change_run p t b k (Puts v), refl, same_Some k key is)
  run-of b key (asked.Delete k) is = (change_run p t b k Deletes, refl, same_Some k key is)
  run-of b key (asked.Swap k e v) is = (change_run p t b k (Swaps e v), refl, same_Some k key is)
  run-of b key (asked.Get k) is = (get_run p t b k, refl, same_Some k key is)
  run-of b key (asked.Collect k) is = absurd (none-some key is)

module _ (p : Params) (t : List Deed) (trace : IsTrace p t) where
  -- the points begin operations on the keys that the history names
  logged-key : AreAmong (begun_keys (points_of p t)) (register_keys (history_of p t))
  unfolding points_of history_of
  logged-key key there =
      let q = of-picked begun_key (map point_at (in_order p t trace)) key there in
      let m = of-mapped point_at (in_order p t trace) q.0 q.1 in
      let begins = begun-of q.0 key q.2 in
      let r = (are-moments p t trace).tells m.0 m.1 in
      let b = r.1.b in
      let of : IsPointOf r.0 (step_of m.0) (points.Begin begins.0 begins.1 key begins.2) = subst (IsPointOf r.0 (step_of m.0)) (m.2 ∙ begins.3) r.2 in
      picked-in (λ (op : Operation). register_key op.action) (map (operation_of p t) (reverse (begun_of t))) (operation_of p t b) key
      (in-map (operation_of p t) (reverse (begun_of t)) b (among-reverse (begun_of t) b (begun-in b.client b.op t b.start r.1.began)))
      (run-key p t r.0 r.1 ∙ ap Some (sym of.2))

  named-key : AreAmong (register_keys (history_of p t)) (begun_keys (points_of p t))
  unfolding points_of history_of
  named-key key there =
      let op = of-picked (λ (op : Operation). register_key op.action) (map (operation_of p t) (reverse (begun_of t))) key there in
      let b = of-mapped (operation_of p t) (reverse (begun_of t)) op.0 op.1 in
      let began = all-of (HasBegun p t trace) (reverse (begun_of t)) b.0 (began-all p t trace) b.1 in
      let r = run-of p t b.0 key b.0.start.action (ap (λ (x : Operation). register_key x.action) b.2 ∙ op.2) in
      let is : IsRun p t r.0 = record { b = b.0; began = began; is = r.1 } in
      let m = (are-moments p t trace).has r.0 r.0.begun (points.Begin r.0.op r.0.client r.0.key r.0.act) is (refl, refl, refl, refl, refl) in
      picked-in begun_key (map point_at (in_order p t trace)) (point_at m.0) key (in-map point_at (in_order p t trace) m.0 m.1) (begins-key (point_at m.0) r.0.op r.0.client r.0.key key r.0.act m.3 r.2)

  order-same : (key : List ℕ) → order_at (points_of p t) key ≡ order_of p t key
  order-same key = (let made : List ℕ → Order = λ ops. record { key = key; ops = ops } in ap made (order-is p t trace key))

  -- the orders by the points are those of the run
  pub orders-run : OrdersRun p t (points_of p t)
  orders-run = record {
    order = order-same;
    orders = ap (map (order_at (points_of p t))) (keys-same (begun_keys (points_of p t)) (register_keys (history_of p t)) logged-key named-key)
        ∙ map-same (order_at (points_of p t)) (order_of p t) (keys_of p t) order-same;
  }
