-- There is room for every field that a head can have.
use Rattle.std.proofs.Common.{length, arith, ap, ◌∙◌, append-nil, inr, refl}
use Rattle.httparse.specs.Grammar.{print_response}
use Rattle.hy_cwire.proofs.FieldCounts.{response_fields}
use Rattle.hy_cwire.proofs.say_head.read_long_say.Goals as goal

pub returns : goal.returns
returns c = λ some. inr (
  λ h reads. let over = c.in-NoRoom.ensures.no_room refl h reads in
      let size = ap length (reads.1 ∙ append-nil (print_response h)) in
      omega (arith, over, size, response_fields h, c.requires, c.deref_mut.ensures.len, c.in_ok-all.ensures),
  refl,
)
