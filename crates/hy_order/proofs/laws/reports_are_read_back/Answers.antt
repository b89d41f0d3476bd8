use Rattle.hy_order.proofs.ReportLaws.{report_again}
use Rattle.hy_order.proofs.laws.reports_are_read_back.Goals as goal

pub returns : goal.returns
returns c = report_again
