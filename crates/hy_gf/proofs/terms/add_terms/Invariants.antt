use Rattle.hy_gf.specs.Row.{IsAdded}
use Rattle.hy_gf.proofs.terms.add_terms.Given as goal

abbrev pub invariant-loop-place : goal.invariant-loop-place
invariant-loop-place g l = IsAdded (g.R.Terms.term l.terms) l.place l.fn.out l.out
