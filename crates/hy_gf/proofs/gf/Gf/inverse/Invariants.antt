use Rattle.std.proofs.Common.{◌≡◌}
use Rattle.hy_gf.specs.GfLaws.{square, squares}
use Rattle.hy_gf.proofs.gf.Gf.inverse.Given as goal

abbrev pub invariant-loop-doubling : goal.invariant-loop-doubling
invariant-loop-doubling l = (l.square ≡ square l._doubling l.fn.self) × (l.inverse ≡ squares l._doubling l.fn.self)
