-- Each row is computed.
use Rattle.std.proofs.Common.{refl}
use Rattle.hy_record.specs.Stamp.{stamp_lt, stamp_eq}
use Rattle.hy_record.specs.Key.{key_eq}
use Rattle.hy_record.specs.Clouds.{clouds_of}
use Rattle.hy_meta.specs.Service.{is_judged, record_after, record_stamp}
use Rattle.hy_meta.specs.Watches.{fired_watches, watches_of, is_passed}
use Rattle.hy_meta.specs.Meta.{judged_answer, last_swap, service_answers}
use Rattle.hy_protocol.specs.Inputs.{addresses}
use Rattle.hy_protocol.specs.Write.{first_has, since_has, own_stamp, acknowledging_clouds, value_record, hashes_of, record_with, record_at, update_of, write_reply_at, write_reply, write_sends}
use Rattle.hy_protocol.specs.Swap.{swap_reply_at, swap_reply, swap_sends}
use Rattle.hy_protocol.specs.Read.{version_of, first_valid, valid_picks, failed_clouds, timeouts, failed_attempts, answer_for, read_reply, read_sends}
use Rattle.hy_protocol.specs.Operations.{sends_of, replied}
use Rattle.hy_protocol.specs.Progress.{write_progress, read_progress, progress_of}
use Rattle.hy_protocol.specs.Cloud.{is_named, bytes_held, cloud_answer}
use Rattle.hy_trace.specs.Deeds.{served, granted, inputs_of, start_of, reply_of, begun, joined, is_up}
use Rattle.hy_trace.specs.Messages.{sent_at, messages_of, step_of}
use Rattle.hy_trace.specs.Schedule.{hand, is_free, deed_of, trace_of}
use Rattle.hy_trace.specs.History.{return_of, begun_of, history_of}
use Rattle.hy_trace.specs.Points.{is_earlier, version_made, first_update, write_point, changed_point, was_applied}
use Rattle.hy_trace.specs.Order.{mark_of, insert_mark, sorted_marks, is_later, linearization_of}
use Rattle.hy_trace.proofs.rows.worked_rows_are_told.Goals as goal

pub returns : goal.returns
unfolding stamp_lt stamp_eq key_eq clouds_of is_judged record_after record_stamp judged_answer last_swap service_answers fired_watches watches_of is_passed addresses first_has since_has own_stamp acknowledging_clouds value_record hashes_of record_with record_at update_of write_reply_at write_reply write_sends swap_reply_at swap_reply swap_sends version_of first_valid valid_picks failed_clouds timeouts failed_attempts answer_for read_reply read_sends sends_of replied write_progress read_progress progress_of is_named bytes_held cloud_answer served granted inputs_of start_of reply_of begun joined is_up sent_at messages_of step_of hand is_free deed_of trace_of return_of begun_of history_of is_earlier version_made first_update write_point changed_point was_applied mark_of insert_mark sorted_marks is_later linearization_of
returns c = record {
  put_step_by_step = (refl, refl);
  repeated_update_is_kept = (refl, refl);
  repeated_ack_counts_once = (refl, refl);
  overwritten_put_orders_first = (refl, refl);
  update_after_client_stopped = (refl, refl);
  lying_ack_counts = (refl, refl);
  honest_ack_is_sent = (refl, refl);
  tick_reaches_spare_clouds = (refl, refl);
  gets_of_absent_key = (refl, refl);
  get_stands_where_its_answer_was_made = (refl, refl);
  delete_then_get = (refl, refl);
  busy_client_ignores_invoke = (refl, refl);
  swap_sequence = (refl, refl);
  repeated_swap_acts_once = (refl, refl);
  competing_swaps = (refl, refl);
  keys_are_kept_apart = (refl, refl);
}
