use Rattle.std.proofs.Common.{◌≡◌, ℕ, length}
use Rattle.hy_log.specs.Courses.{course_at}
use Rattle.hy_log.proofs.courses.reach_client.Given as goal

abbrev pub invariant-loop-number : goal.invariant-loop-number
invariant-loop-number l = record {
  far : length l.clients.items ≡ l._number;
  same : (c o : ℕ) → course_at l.clients.items c o ≡ course_at l.initial.clients.items c o;
}
