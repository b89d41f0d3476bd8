use Rattle.std.proofs.Common.{◌≡◌, [], length}
use Rattle.std.specs.List.{All}
use Rattle.hy_cloud.specs.Objects.{StandsForWishes}
use Rattle.hy_world.proofs.nodes.Nodes.empty_clouds.Given as goal

abbrev pub invariant-loop-i : goal.invariant-loop-i
invariant-loop-i l = record { count : length l.clouds.items ≡ l._i; empty : All (λ cloud. StandsForWishes cloud []) l.clouds.items }
