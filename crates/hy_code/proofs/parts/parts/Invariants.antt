use Rattle.std.proofs.Common.{◌≡◌, map}
use Rattle.std.specs.List.{range_with_len}
use Rattle.hy_code.specs.Fragments.{part_of}
use Rattle.hy_code.proofs.parts.parts.Given as goal

abbrev pub invariant-loop-number : goal.invariant-loop-number
invariant-loop-number l = l.parts.items ≡ map (part_of l.value l.size) (range_with_len 0 l.number)
