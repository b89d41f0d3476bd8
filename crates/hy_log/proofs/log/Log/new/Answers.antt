use Rattle.std.proofs.Common.{refl, sym, ap, ◌∙◌}
use Rattle.hy_log.specs.Courses.{course_at}
use Rattle.hy_log.specs.Log.{posted_of, started_of}
use Rattle.hy_log.proofs.Coursing.{course-start}
use Rattle.hy_log.proofs.log.Log.new.Goals as goal

pub returns : goal.returns
unfolding posted_of started_of
returns c = λ p. record {
  posts_are = c.new.ensures.items;
  starts_are = c.new-2.ensures.items;
  courses_are = λ trace. λ client op. ap (λ x. course_at x client op) c.new-3.ensures ∙ sym (course-start p client op);
  steps_are = refl;
}
