-- One operation more names one key more, one that was named before, or none.
use Rattle.std.proofs.Common.{sym, ap, ◌∙◌}
use Rattle.hy_order.specs.Keys.{sorted_keys}
use Rattle.hy_order.proofs.DueKeys.{due-absent, due-again, due-there}
use Rattle.hy_order.proofs.text.reading.add_key.Goals as goal

pub returns-in_default : goal.returns-in_default
returns-in_default c =
    c.requires.earlier
    ∙ ap sorted_keys (sym (due-absent c.args.ops.now c.args.place c.index-ops-place.result c.requires.within c.index-ops-place.is (sym c.in_default.ensures)))

pub returns-then-is_named_before : goal.returns-then-is_named_before
returns-then-is_named_before c =
    c.requires.earlier
    ∙ due-again c.args.ops.now c.args.place c.index-ops-place.result c.requires.within c.index-ops-place.is c.in-Some.key.now
    (sym c.in-Some.ensures) (c.is_named_before.ensures c.if-is_named_before.true)

pub returns : goal.returns
returns c =
    due-there c.args.ops.now c.args.place c.index-ops-place.result c.requires.within c.index-ops-place.is c.in-Some.key.now c.args.keys.now.keys _
    (sym c.in-Some.ensures) c.requires.earlier c.in_ok-insert.ensures.keys
