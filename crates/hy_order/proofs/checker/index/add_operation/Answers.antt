use Rattle.std.proofs.Common.{◌≡◌, [], ◌∷◌, ◌++◌, map, unwrap_or, ap, ◌∙◌, arith}
use Rattle.std.specs.Borrow.{Bor}
use Rattle.std.specs.BTreeMap.{is_at}
use Rattle.std.specs.Cmp.Lexicographic.{slice_cmp}
use Rattle.std.specs.Map.{lookup}
use Rattle.std.specs.Ordering.{nat_cmp}
use Rattle.hy_order.specs.declared.operation.Operation.{Operation}
use Rattle.hy_order.specs.History.{key_of_action}
use Rattle.hy_order.specs.Index.{operations_under}
use Rattle.hy_order.proofs.Grouping.{operations_under-added, operations_under-more}
use Rattle.hy_order.proofs.checker.index.add_operation.Goals as goal

pub returns : goal.returns
returns c = λ key.
    let more : map (λ (op : Bor Operation). op.now) c.push.new.self.items ≡ operations_under c.args.by_key.now.entries (key_of_action c.args.op.now.action) ++ c.args.op.now ∷ [] =
    operations_under-more c.args.by_key.now.entries c.args.op (key_of_action c.args.op.now.action) c.new.result c.or_insert-ops.result.now c.push.new.self
    c.new.ensures.items
    (c.or_insert-ops.ensures.value
    ∙ ap (λ found. unwrap_or found c.new.result) c.in_ok-by_key.ensures.value
    ∙ ap (λ key. unwrap_or (lookup (is_at (slice_cmp nat_cmp key)) c.args.by_key.now.entries) c.new.result) c.key_of_action.ensures)
    c.in_ok-push.ensures.items in
    let update = ((c.in_ok-by_key.ensures.update).0 c.push.new.self).0 key in
    operations_under-added _ _ c.args.op.now c.push.new.self key (grind (arith, update, c.key_of_action.ensures)) more
