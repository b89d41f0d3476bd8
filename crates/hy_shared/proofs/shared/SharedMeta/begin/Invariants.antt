use Rattle.std.proofs.Common.{◌≡◌, ◌+◌, ◌≤◌}
use Rattle.hy_shared.specs.declared.event.Event.TheVariants.{Begin}
use Rattle.hy_shared.specs.Events.{event_number}
use Rattle.hy_shared.specs.Moves.{Appends}
use Rattle.hy_shared.proofs.shared.SharedMeta.begin.Given as goal

abbrev pub ghosts-count_begin : goal.ghosts-count_begin
ghosts-count_begin a = record {
  tells = λ before found after. Appends a.self.now.layout before (Begin a._row a._client a._key a._act.now) after × (found + 1 ≡ event_number after.seen) × (found ≤ 16777214);
}
