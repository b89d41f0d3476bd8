use Rattle.std.proofs.Common.{◌≡◌}
use Rattle.std.specs.List.{flat_map, range_with_len}
use Rattle.hy_code.specs.Fragments.{row_at}
use Rattle.hy_code.proofs.rebuilding.parts_joined.Given as goal

abbrev pub invariant-loop-part : goal.invariant-loop-part
invariant-loop-part l = l.value.items ≡ flat_map (row_at l.fragment_size l.picks) (range_with_len 0 l.part)
