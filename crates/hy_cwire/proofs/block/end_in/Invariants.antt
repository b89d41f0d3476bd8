use Rattle.std.proofs.Common.{◌≡◌, ◌<◌, ◌≤◌, ◌++◌, ℕ, false, take}
use Rattle.hy_cwire.specs.Block.{ends_head}
use Rattle.hy_cwire.proofs.block.end_in.Given as goal

abbrev pub invariant-loop-i : goal.invariant-loop-i
invariant-loop-i l = (n : ℕ) → 0 < n → n ≤ l.i → ends_head (l.before ++ take n l.piece) ≡ false
