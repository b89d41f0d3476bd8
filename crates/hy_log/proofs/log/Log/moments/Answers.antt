use Rattle.std.proofs.Common.{◌<◌, [], ◌∷◌, ◌++◌, length, get_or, take, sym, ap, ◌∙◌, arith}
use Rattle.std.proofs.lemmas.Grind.{common_steps}
use Rattle.std.proofs.lemmas.List.{take_more, length-take-le}
use Rattle.hy_log.proofs.Timing.{timed-more}
use Rattle.hy_log.proofs.log.Log.moments.Goals as goal

pub loop-index-preserved : goal.loop-index-preserved
loop-index-preserved c =
    let starts = c.args.self.now.starts.items in
    let place = c.loop-index.index in
    let started = c.started-item.result in
    let within : place < length starts = grind (arith, common_steps) in
    let number = c.in_ok-number.ensures in
    timed-more c.args.self.now.courses starts place c.in_ok-number.number started c.loop-index.moments.items c.append.new.self.items
    (omega (arith, number)) (length-take-le place starts (omega (arith, within)))
    (take_more starts place started within ∙ ap (λ x. take place starts ++ x ∷ []) (sym (c.started-item.is ∙ ap (λ x. get_or x place started) c.deref-started-items.ensures.value)))
    c.loop-index.invariant (c.in_ok-append.ensures.items ∙ ap (λ ms. c.loop-index.moments.items ++ ms) c.in_ok-own.ensures)
