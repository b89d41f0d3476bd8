use Rattle.std.proofs.Common.{◌≡◌, List, map, take}
use Rattle.std.specs.List.{filter_map}
use Rattle.hy_trace.specs.Deeds.{Params, Deed}
use Rattle.hy_trace.specs.Held.{held_of}
use Rattle.hy_world.specs.Machines.{MachinesStand}
use Rattle.hy_world.specs.Reporting.{order_key}
use Rattle.hy_world.proofs.machines.Machines.held_copies.Given as goal

abbrev pub invariant-loop-order : goal.invariant-loop-order
invariant-loop-order g l = (p : Params) (t : List Deed) → MachinesStand g.M.Meta.served g.M.Meta.given p t l.self → l.copies.items ≡ filter_map (held_of p t) (map order_key (take l.order-index l.orders))
