-- The laws hold of what the definition answers.
use Rattle.std.proofs.Common.{ap, subst, ◌∙◌}
use Rattle.hy_text.specs.Gives.{GivesText}
use Rattle.hy_sched.specs.Reading.{schedule_of}
use Rattle.hy_sched.proofs.ScheduleLaws.{is_found, is_refused, schedule_again}
use Rattle.hy_sched.proofs.reading.read_schedule.Goals as goal

pub returns-clause-found : goal.returns-clause-found
returns-clause-found c = is_found c.args.text.now c.read_text.result c.read_text.ensures

pub returns-clause-only : goal.returns-clause-only
returns-clause-only c = λ schedule is e. subst (GivesText c.read_text.result) (ap schedule_of e ∙ schedule_again schedule is) c.read_text.ensures

pub returns-clause-refused : goal.returns-clause-refused
returns-clause-refused c = λ fault e. is_refused c.args.text.now fault (subst (λ result. GivesText result (schedule_of c.args.text.now)) e c.read_text.ensures)
