use Rattle.std.proofs.Common.{◌≡◌, ℕ, sym, ◌∙◌, subst, length, rules}
use Rattle.std.proofs.lemmas.Bool.{false≢true}
use Rattle.hy_order.specs.Checking.{ArePlaces}
use Rattle.hy_order.proofs.Passing.{AreAlsoMarked-next, repeated_after-new}
use Rattle.hy_order.proofs.checker.plain.mark_new.Goals as goal
use Rattle.hy_order.proofs.checker.plain.mark_new.Goals.{then-was_marked, else-was_marked}

pub loop-number-preserved : goal.loop-number-preserved
loop-number-preserved c =
    let same : length c.mark.new.marks ≡ length c.loop-number.marks = search rules in
    record {
      marked =
          AreAlsoMarked-next c.args.numbers.now c.loop-number.number-index c.loop-number-test.true c.args.marks.now c.loop-number.marks c.mark.new.marks same
          c.loop-number.invariant.marked c.mark.ensures.marked;
      new = λ is_new places.
          elim c.if-was_marked.branch [
            | then-was_marked w ↦ absurd (false≢true (sym w.new-is ∙ is_new))
            | else-was_marked w ↦
                let before : ArePlaces (length c.loop-number.marks) c.args.numbers.now = subst (λ (count : ℕ). ArePlaces count c.args.numbers.now) same places in
                repeated_after-new c.args.numbers.now c.loop-number.number-index c.loop-number-test.true c.args.marks.now c.loop-number.marks
                c.loop-number.invariant.marked before (sym c.is_marked-was_marked.ensures ∙ w.if-was_marked.false)
                ∙ c.loop-number.invariant.new (sym w.new-is ∙ is_new) before
          ];
    }
