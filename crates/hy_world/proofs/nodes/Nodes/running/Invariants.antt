use Rattle.std.proofs.Common.{◌≡◌, List, map}
use Rattle.std.specs.List.{range_with_len}
use Rattle.hy_trace.specs.Deeds.{Params, Deed}
use Rattle.hy_world.specs.Nodes.{NodesStand}
use Rattle.hy_world.proofs.Progressing.{progress_at}
use Rattle.hy_world.proofs.nodes.Nodes.running.Given as goal

abbrev pub invariant-loop-seat : goal.invariant-loop-seat
invariant-loop-seat l = (p : Params) (t : List Deed) → NodesStand p t l.self → l.running.items ≡ map (progress_at p t) (range_with_len 0 l.seat-index)
