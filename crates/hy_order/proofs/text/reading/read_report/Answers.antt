-- The laws hold of what the definition answers.
use Rattle.std.proofs.Common.{ap, subst, ◌∙◌}
use Rattle.hy_text.specs.Gives.{GivesText}
use Rattle.hy_order.specs.ReportReading.{report_of}
use Rattle.hy_order.proofs.ReportLaws.{is_found, is_refused, report_again}
use Rattle.hy_order.proofs.text.reading.read_report.Goals as goal

pub returns-clause-found : goal.returns-clause-found
returns-clause-found c = is_found c.args.text.now c.read_text.result c.read_text.ensures

pub returns-clause-only : goal.returns-clause-only
returns-clause-only c = λ report is e. subst (GivesText c.read_text.result) (ap report_of e ∙ report_again report is) c.read_text.ensures

pub returns-clause-refused : goal.returns-clause-refused
returns-clause-refused c = λ fault e. is_refused c.args.text.now fault (subst (λ result. GivesText result (report_of c.args.text.now)) e c.read_text.ensures)
