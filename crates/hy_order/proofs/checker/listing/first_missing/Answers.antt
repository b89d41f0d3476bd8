use Rattle.std.proofs.Common.{List, map, ap, sym, ◌∙◌}
use Rattle.std.specs.Borrow.{Bor}
use Rattle.hy_order.specs.declared.operation.Operation.{Operation}
use Rattle.hy_order.specs.Checking.{is_marked, unlisted_number}
use Rattle.hy_order.proofs.Marking.{missing-none, unlisted-missing}
use Rattle.hy_order.proofs.checker.listing.first_missing.Goals as goal

pub returns-in_err-ops : goal.returns-in_err-ops
returns-in_err-ops c = λ numbers are.
    c.from_residual.ensures ∙ sym (missing-none c.args.index.now c.args.key.now numbers c.in_err-ops.ensures.none)

pub returns : goal.returns
returns c = λ numbers are.
    c.first_unmarked.ensures
    ∙ ap (λ (ops : List (Bor Operation)). unlisted_number (is_marked c.args.marks.now c.args.order) (map (λ (op : Bor Operation). op.now) ops)) c.deref.ensures.value
    ∙ ap (unlisted_number (is_marked c.args.marks.now c.args.order)) c.in_ok-ops.ensures.some
    ∙ unlisted-missing c.args.key.now numbers c.args.marks.now c.args.order are c.args.index.now c.requires.count c.requires.numbered
