-- What was written is the text of the report of the schedule that was read.
use Rattle.std.proofs.Common.{◌≡◌, ◌≤◌, ◌∙◌, length, ap, subst, sym}
use Rattle.std.specs.Prelude.{All}
use Rattle.hy_record.specs.Clouds.{clouds_of}
use Rattle.hy_order.specs.Linearization.{IsReportLinearizable}
use Rattle.hy_order.specs.Report.{report_text}
use Rattle.hy_order.specs.declared.report.Report.{Report}
use Rattle.hy_world.specs.Promises.{ListsCurrent}
use Rattle.hy_world.specs.Schedules.{params_of, trace_of_schedule, report_of_schedule}
use Rattle.hy_top.proofs.text_job.replay_text.Goals as goal

pub returns : goal.returns
returns c =
    let schedule = c.in_ok-schedule.schedule in
    let is : c.in_ok-report.report ≡ report_of_schedule schedule = c.in_ok-report.ensures.report in
    record {
      schedule = schedule;
      ranges = c.in_ok-schedule.ensures.found.0;
      spelled = sym c.bytes.ensures ∙ c.in_ok-schedule.ensures.found.1;
      report = c.in_ok-write_report.ensures ∙ ap report_text is;
      linearizable = λ free. subst IsReportLinearizable is (c.in_ok-report.ensures.linearizable free);
      retrievable = λ liars. subst (λ (r : Report). All (λ held. schedule.params.k ≤ length (clouds_of held.clouds)) r.held) is (c.in_ok-report.ensures.retrievable liars);
      listed = subst (λ (r : Report). ListsCurrent (params_of schedule.params) (trace_of_schedule schedule) r.held) is c.in_ok-report.ensures.listed;
      promises = c.in_ok-report.ensures.promises;
    }
