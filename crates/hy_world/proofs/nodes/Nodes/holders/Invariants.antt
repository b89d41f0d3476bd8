use Rattle.std.proofs.Common.{◌≡◌, ℕ, ◌<◌, ◌&&◌, nat_lt, List}
use Rattle.hy_operation.specs.Marks.{is_marked}
use Rattle.hy_trace.specs.Deeds.{Params, Deed}
use Rattle.hy_world.specs.Nodes.{NodesStand}
use Rattle.hy_world.specs.Holders.{is_holder}
use Rattle.hy_world.proofs.nodes.Nodes.holders.Given as goal

abbrev pub invariant-loop-cloud : goal.invariant-loop-cloud
invariant-loop-cloud l = (p : Params) (t : List Deed) → NodesStand p t l.self → (i : ℕ) → i < 16 → is_marked l.marks i ≡ (nat_lt i l.cloud && is_holder p t l.key l.rec i)
