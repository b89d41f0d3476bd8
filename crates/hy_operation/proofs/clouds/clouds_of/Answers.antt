use Rattle.std.proofs.Common.{ℕ, List, ◌∙◌, sym, ap}
use Rattle.std.specs.Prelude.{◌==◌, ◌++◌, ◌∷◌, []}
use Rattle.std.specs.Int.{bit_at}
use Rattle.hy_operation.proofs.Filters.{filter-passes, filter-skips}
use Rattle.hy_operation.proofs.clouds.clouds_of.Goals as goal
use Rattle.hy_operation.proofs.clouds.clouds_of.Goals.{then-has+in_ok-push, else-has}

pub loop-cloud-preserved : goal.loop-cloud-preserved
loop-cloud-preserved c = elim c.if-has.branch [
  | then-has+in_ok-push w ↦ rw w.clouds-is (w.in_ok-push.ensures.items ∙ ap (λ (xs : List ℕ). xs ++ c.loop-cloud.cloud ∷ []) c.loop-cloud.invariant ∙ sym (filter-passes (λ cloud. bit_at c.args.set cloud == 1) c.loop-cloud.cloud (sym c.has.ensures ∙ w.if-has.true)))
  | else-has w ↦ rw w.clouds-is (c.loop-cloud.invariant ∙ sym (filter-skips (λ cloud. bit_at c.args.set cloud == 1) c.loop-cloud.cloud (sym c.has.ensures ∙ w.if-has.false)))
]
