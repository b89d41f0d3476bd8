use Rattle.std.proofs.Common.{◌≡◌, true, sym, ◌∙◌, arith}
use Rattle.std.proofs.lemmas.Grind.{common_steps}
use Rattle.std.specs.Prelude.{None}
use Rattle.hy_order.specs.Plain.{are_rising}
use Rattle.hy_order.proofs.PlainOrders.{plainly_legal}
use Rattle.hy_order.proofs.checker.plain.is_plain.Goals as goal

pub returns : goal.returns
returns c = λ finished.
    let sound : c.in_ok-sound.sound ≡ true = grind (arith, common_steps) in
    let rising : are_rising None c.args.orders.now ≡ true = grind (arith, common_steps) in
    plainly_legal c.args.ops.now c.args.orders.now c.are_sound.new.marks c.requires.marks.numbered (c.in_ok-sound.ensures sound) rising (sym c.are_finished_marked.ensures ∙ finished)
