use Rattle.std.proofs.Common.{◌≡◌, ℕ, length}
use Rattle.hy_log.specs.Courses.{course_in}
use Rattle.hy_log.proofs.courses.reach_operation.Given as goal

abbrev pub invariant-loop-number : goal.invariant-loop-number
invariant-loop-number l = record {
  far : length l.courses.items ≡ l._number;
  same : (o : ℕ) → course_in l.courses.items o ≡ course_in l.initial.courses.items o;
}
