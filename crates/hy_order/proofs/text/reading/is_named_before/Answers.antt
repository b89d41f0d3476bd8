use Rattle.std.proofs.Common.{◌≡◌, arith, sym, ap, ◌∙◌, option_copied}
use Rattle.std.proofs.lemmas.Grind.{common_steps}
use Rattle.std.proofs.lemmas.Option.{gets}
use Rattle.std.specs.List.{slice_get}
use Rattle.hy_order.specs.Due.{names_key}
use Rattle.hy_order.proofs.DueKeys.{named-there}
use Rattle.hy_order.proofs.text.reading.is_named_before.Goals as goal

pub returns : goal.returns
returns c = λ named.
    let looked : option_copied c.get.result ≡ slice_get c.args.ops.now c.in-Some.last.now = grind (arith, common_steps, gets) in
    named-there c.args.ops.now c.in-Some.last.now c.args.key.now
    (sym (ap (names_key c.args.key.now) looked) ∙ sym c.names_key-named.ensures ∙ named)
