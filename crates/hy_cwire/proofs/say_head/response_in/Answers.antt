use Rattle.std.proofs.Common.{◌≡◌, [], length, drop, sym, ap, arith, length-drop}
use Rattle.httparse.proofs.GrammarLemmas.{response_unique}
use Rattle.hy_cwire.proofs.say_head.response_in.Goals as goal

pub returns-else-spans-block-clause-no_head : goal.returns-else-spans-block-clause-no_head
returns-else-spans-block-clause-no_head c =
    let within = rw c.in-Ok-Complete.field-0-is at c.in-Ok-Complete.ensures.within in
    let at = rw c.in-Ok-Complete.field-0-is at c.in-Ok-Complete.ensures.complete in
    λ is h reads. let same = response_unique c.args.block.now h at.0 [] _ reads at.1.reads in
    let longer : length (drop c.in-Ok-Complete.spans.len c.args.block.now) ≡ 0 = sym (ap length same.1) in
    omega (arith, longer, within.section.len_fits, c.if-spans-block.false, length-drop c.in-Ok-Complete.spans.len c.args.block.now)
