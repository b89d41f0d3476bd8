use Rattle.std.proofs.Common.{◌≡◌, take, length}
use Rattle.hy_code.proofs.Rows.{rows_sum}
use Rattle.hy_code.proofs.polynomials.add_each.Given as goal

abbrev pub invariant-loop-i : goal.invariant-loop-i
invariant-loop-i l = l.out ≡ rows_sum (length l.fn.out) l.picks l.cloud (take l.i l.picks)
