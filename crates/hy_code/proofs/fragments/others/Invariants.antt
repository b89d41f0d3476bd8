use Rattle.std.proofs.Common.{◌≡◌, ◌-◌}
use Rattle.std.specs.List.{flat_map, range_with_len}
use Rattle.hy_code.specs.Fragments.{fragment_of}
use Rattle.hy_code.proofs.fragments.others.Given as goal

abbrev pub invariant-loop-cloud : goal.invariant-loop-cloud
invariant-loop-cloud l = l.bytes.items ≡ flat_map (fragment_of l.value l.k) (range_with_len l.k (l.cloud - l.k))
