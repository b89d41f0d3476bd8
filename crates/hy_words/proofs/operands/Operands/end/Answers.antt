-- An operand that is left before the option is one too many.
use Rattle.std.proofs.Common.{arith}
use Rattle.hy_words.proofs.Places.{one_left}
use Rattle.hy_words.proofs.operands.Operands.end.Goals as goal

pub returns-in-len1-up : goal.returns-in-len1-up
returns-in-len1-up c =
    let left = one_left c.self.inside.front.now c.self.inside.back.now (omega (arith, c.in-len1-up.len_at_least)) in
    let seen = c.self.view_is in
    cc
