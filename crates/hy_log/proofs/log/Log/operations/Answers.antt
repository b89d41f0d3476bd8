use Rattle.std.proofs.Common.{◌<◌, [], ◌∷◌, ◌++◌, length, get_or, take, sym, ap, ◌∙◌, arith}
use Rattle.std.proofs.lemmas.Grind.{common_steps}
use Rattle.std.proofs.lemmas.List.{take_more, length-take-le}
use Rattle.hy_log.proofs.Telling.{told-more}
use Rattle.hy_log.proofs.log.Log.operations.Goals as goal

pub loop-started-preserved : goal.loop-started-preserved
loop-started-preserved c =
    let starts = c.args.self.now.starts.items in
    let place = c.loop-started.started-index in
    let started = c.started-item.result in
    let within : place < length starts = grind (arith, common_steps) in
    let count = c.loop-started.invariant.count in
    let number = c.in_ok-number.ensures in
    let len = c.len.ensures in
    record {
      count = grind (arith, common_steps);
      told = told-more c.args.self.now.courses c.args.running.now starts place c.in_ok-number.number started c.loop-started.operations.items c.push.new.self.items c.in_ok-operation.field-0
          (omega (arith, count, number, len)) (length-take-le place starts (omega (arith, within)))
          (take_more starts place started within ∙ ap (λ x. take place starts ++ x ∷ []) (sym (c.started-item.is ∙ ap (λ x. get_or x place started) c.deref-started-items.ensures.value)))
          c.loop-started.invariant.told c.in_ok-operation.ensures c.in_ok-push.ensures.items;
    }
