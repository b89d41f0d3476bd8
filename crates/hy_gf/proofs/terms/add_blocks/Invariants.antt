use Rattle.std.proofs.Common.{◌*◌}
use Rattle.hy_gf.specs.Row.{IsAdded}
use Rattle.hy_gf.proofs.terms.add_blocks.Given as goal

abbrev pub invariant-loop-block : goal.invariant-loop-block
invariant-loop-block g l = IsAdded (g.R.Terms.term l.terms) (32 * l.block) l.initial.out l.out
