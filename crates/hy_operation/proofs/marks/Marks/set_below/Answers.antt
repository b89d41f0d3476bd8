use Rattle.std.proofs.Common.{ℕ, ◌+◌, ◌∙◌, sym, ap, arith}
use Rattle.hy_record.specs.Clouds.{set_of}
use Rattle.hy_operation.specs.Marks.{is_marked, marked_below}
use Rattle.hy_operation.proofs.Filters.{filter-skips}
use Rattle.hy_operation.proofs.Sets.{set-passes, set-fits}
use Rattle.hy_operation.proofs.marks.Marks.set_below.Goals as goal
use Rattle.hy_operation.proofs.marks.Marks.set_below.Goals.{then-has, else-has}

pub overflow_add-set : goal.overflow_add-set
overflow_add-set c = let fits = set-fits (is_marked c.args.self.now) c.loop-cloud.cloud (omega arith) in omega (arith, fits, c.loop-cloud.invariant, c.bit_of-set.ensures)

pub loop-cloud-preserved : goal.loop-cloud-preserved
loop-cloud-preserved c = elim c.if-has.branch [
  | then-has w ↦ rw w.set-is (ap (λ (n : ℕ). n + w.bit_of-set.result) c.loop-cloud.invariant ∙ ap (λ (n : ℕ). set_of (marked_below c.args.self.now c.loop-cloud.cloud) + n) w.bit_of-set.ensures ∙ sym (set-passes (is_marked c.args.self.now) c.loop-cloud.cloud (sym c.has.ensures ∙ w.if-has.true)))
  | else-has w ↦ rw w.set-is (c.loop-cloud.invariant ∙ sym (ap set_of (filter-skips (is_marked c.args.self.now) c.loop-cloud.cloud (sym c.has.ensures ∙ w.if-has.false))))
]
