use Rattle.std.proofs.Common.{◌≡◌, vec_len}
use Rattle.hy_shared.proofs.tests.hashes_of.Given as goal

abbrev pub invariant-loop-i : goal.invariant-loop-i
invariant-loop-i l = record { many : vec_len l.hashes ≡ l.i }
