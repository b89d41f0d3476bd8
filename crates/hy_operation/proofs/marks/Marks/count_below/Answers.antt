use Rattle.std.proofs.Common.{ℕ, ◌+◌, ◌∙◌, length, sym, ap, arith}
use Rattle.hy_operation.specs.Marks.{is_marked, marked_below}
use Rattle.hy_operation.proofs.Filters.{filter-passes, filter-skips, few-below, length-snoc}
use Rattle.hy_operation.proofs.marks.Marks.count_below.Goals as goal
use Rattle.hy_operation.proofs.marks.Marks.count_below.Goals.{then-has, else-has}

pub overflow_add-count : goal.overflow_add-count
overflow_add-count c = let few = few-below (is_marked c.args.self.now) c.loop-cloud.cloud in omega (arith, few, c.loop-cloud.invariant)

pub loop-cloud-preserved : goal.loop-cloud-preserved
loop-cloud-preserved c = elim c.if-has.branch [
  | then-has w ↦ rw w.count-is (ap (λ (n : ℕ). n + 1) c.loop-cloud.invariant ∙ sym (ap length (filter-passes (is_marked c.args.self.now) c.loop-cloud.cloud (sym c.has.ensures ∙ w.if-has.true)) ∙ length-snoc (marked_below c.args.self.now c.loop-cloud.cloud) c.loop-cloud.cloud))
  | else-has w ↦ rw w.count-is (c.loop-cloud.invariant ∙ sym (ap length (filter-skips (is_marked c.args.self.now) c.loop-cloud.cloud (sym c.has.ensures ∙ w.if-has.false))))
]
