-- What the check of a text answers.
use Rattle.std.specs.Prelude.{◌≡◌, ℕ, List, Some, Result, Ok, Err, length}
use Rattle.hy_base.specs.declared.fault.TextFault.{TextFault}
use Rattle.hy_order.specs.Linearization.{IsReportLinearizable}
use Rattle.hy_order.specs.Report.{report_text}
use Rattle.hy_order.specs.ReportRanges.{IsReport}
use Rattle.hy_order.specs.ReportReading.{report_of}
use Rattle.hy_order.specs.Violation.{first_illegal}
use Rattle.hy_order.specs.declared.verdict.Verdict.{Verdict}
use Rattle.hy_order.specs.declared.report.Report.{Report}
use Rattle.hy_top.specs.Line.{legal_line}
use Rattle.hy_top.specs.declared.status.Status.{Status}
use Rattle.hy_top.specs.declared.status.Status.TheVariants.{BadInput, Illegal, NoMemory}

-- the text is that of a report in which each order is linearizable; the output tells how many orders there are
pub record IsFoundLegal (text output : List ℕ) : Type 0 where
  pub report : Report
  pub ranges : IsReport report
  pub spelled : text ≡ report_text report
  pub linearizable : IsReportLinearizable report
  pub told : output ≡ legal_line (length report.orders)

-- the text is that of a report that is not linearizable; its first illegal order is of this key and has this verdict
pub record IsFoundIllegal (text key : List ℕ) (verdict : Verdict) : Type 0 where
  pub report : Report
  pub ranges : IsReport report
  pub spelled : text ≡ report_text report
  pub first : first_illegal report.history report.orders ≡ Some (key, verdict)
  pub other : ¬ IsReportLinearizable report

-- the text is that of no report, and this is its first fault
pub record IsNoReport (text : List ℕ) (fault : TextFault) : Type 0 where
  pub first : report_of text ≡ Err fault
  pub other : (report : Report) → IsReport report → text ≡ report_text report → ⊥

-- what the check of a text answers
abbrev pub Checks : List ℕ → Result (List ℕ) Status → Type 0
Checks text (Ok output) = IsFoundLegal text output
Checks text (Err (Illegal key verdict)) = IsFoundIllegal text key verdict
Checks text (Err (BadInput fault)) = IsNoReport text fault
Checks text (Err NoMemory) = Unit {0}
Checks text (Err other) = ⊥
