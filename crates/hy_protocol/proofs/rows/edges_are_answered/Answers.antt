-- Each row is computed.
use Rattle.std.proofs.Common.{refl}
use Rattle.hy_record.specs.Stamp.{stamp_lt, stamp_eq}
use Rattle.hy_record.specs.Key.{key_eq}
use Rattle.hy_record.specs.Clouds.{clouds_of}
use Rattle.hy_record.specs.Record.{is_valid_fragment}
use Rattle.hy_protocol.specs.Inputs.{addresses, inputs_for}
use Rattle.hy_protocol.specs.Operations.{sends_of, replied}
use Rattle.hy_protocol.specs.Progress.{write_progress, read_progress, collect_progress, progress_of}
use Rattle.hy_protocol.specs.Turns.{own_turn, turn_of, put_turn, settled_progress, put_progress, get_progress, collect_progress_of}
use Rattle.hy_protocol.specs.Session.{is_idle, is_running, takes, session_after, session_invoked, session_stopped, session_progress}
use Rattle.hy_protocol.specs.Write.{first_has, since_has, own_stamp, acknowledging_clouds, value_record, hashes_of, record_with, record_at, update_of, write_reply_at, write_reply, write_sends}
use Rattle.hy_protocol.specs.Read.{version_of, first_valid, valid_picks, failed_clouds, timeouts, failed_attempts, answer_for, read_reply, read_sends, refresh_count}
use Rattle.hy_protocol.specs.Collect.{first_olds, since_olds, deleting_clouds, forget_at, forget_of, collect_reply, collect_sends}
use Rattle.hy_protocol.proofs.rows.edges_are_answered.Goals as goal

pub returns-clause-write : goal.returns-clause-write
unfolding stamp_lt stamp_eq first_has since_has own_stamp acknowledging_clouds value_record hashes_of record_with record_at update_of write_reply_at write_reply write_sends
returns-clause-write c = record {
  deletes = refl;
  deleted = refl;
  kept = refl;
  above_the_record = refl;
  exhausted = refl;
  nothing_sent = refl;
  second_answer = refl;
  first_answer_counts = refl;
  early_timeout = refl;
  late_timeout = refl;
  timeout_after_the_reply = refl;
  early_ack = refl;
  ack_of_another_timestamp = refl;
  failed_store = refl;
  ack_of_no_cloud = refl;
}

pub returns-clause-coded : goal.returns-clause-coded
unfolding stamp_lt stamp_eq first_has since_has own_stamp acknowledging_clouds value_record hashes_of record_with record_at update_of write_reply_at write_reply write_sends
returns-clause-coded c = record {
  fragments = refl;
  one_of_two = refl;
  both = refl;
}

pub returns-clause-read : goal.returns-clause-read
unfolding stamp_lt stamp_eq clouds_of value_record is_valid_fragment version_of first_valid valid_picks failed_clouds timeouts failed_attempts answer_for read_reply read_sends refresh_count
returns-clause-read c = record {
  early_timeout = refl;
  timeout_is_a_failure = refl;
  timeouts_end_in_a_watch = refl;
  watches_again = refl;
  timeout_behind_the_news = refl;
  cut_body_is_a_failure = refl;
  cut_body_is_no_value = refl;
  foreign_cloud_is_no_failure = refl;
  older_record = refl;
  newer_deletion = refl;
  news_of_another_version = refl;
}

pub returns-clause-collection : goal.returns-clause-collection
unfolding stamp_eq first_olds since_olds deleting_clouds forget_at forget_of collect_reply collect_sends
returns-clause-collection c = record {
  early_timeout = refl;
  timeout = refl;
  late_timeout = refl;
  repeated_gone = refl;
  early_gone = refl;
}

pub returns-clause-turns : goal.returns-clause-turns
unfolding key_eq addresses inputs_for own_turn turn_of put_turn settled_progress put_progress get_progress collect_progress_of write_progress read_progress collect_progress stamp_lt stamp_eq first_has since_has own_stamp acknowledging_clouds value_record hashes_of record_with record_at update_of write_reply_at write_reply write_sends clouds_of is_valid_fragment version_of first_valid valid_picks failed_clouds timeouts failed_attempts answer_for read_reply read_sends refresh_count first_olds since_olds deleting_clouds forget_at forget_of collect_reply collect_sends
returns-clause-turns c = record {
  other_operation = refl;
  other_client = refl;
  other_key = refl;
  awaits_the_record = refl;
  awaits_clouds = refl;
  awaits_the_update = refl;
  stands_at_the_reply = refl;
  fetches = refl;
  watches = refl;
  rereads = refl;
  drops = refl;
  forgets = refl;
}

pub returns-clause-session : goal.returns-clause-session
unfolding key_eq addresses is_idle is_running takes session_after session_invoked session_stopped session_progress sends_of replied progress_of write_progress stamp_lt stamp_eq first_has since_has own_stamp acknowledging_clouds value_record hashes_of record_with record_at update_of write_reply_at write_reply write_sends
returns-clause-session c = record {
  begins = refl;
  busy = refl;
  runs = refl;
  takes_its_own = refl;
  passes_over_others = refl;
  idle_again = refl;
  takes_nothing_then = refl;
  tells_nothing_then = refl;
  stopped = refl;
  begins_no_more = refl;
}
