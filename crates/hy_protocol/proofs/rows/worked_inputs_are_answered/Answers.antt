-- Each row is computed.
use Rattle.std.proofs.Common.{refl}
use Rattle.hy_record.specs.Stamp.{stamp_lt, stamp_eq}
use Rattle.hy_record.specs.Key.{key_eq}
use Rattle.hy_record.specs.Clouds.{clouds_of}
use Rattle.hy_protocol.specs.Inputs.{addresses}
use Rattle.hy_protocol.specs.Write.{first_has, since_has, own_stamp, acknowledging_clouds, value_record, hashes_of, record_with, record_at, update_of, write_reply_at, write_reply, write_sends}
use Rattle.hy_protocol.specs.Swap.{swap_reply_at, swap_reply, swap_sends}
use Rattle.hy_protocol.specs.Read.{version_of, first_valid, valid_picks, failed_clouds, timeouts, failed_attempts, answer_for, read_reply, read_sends, refresh_count}
use Rattle.hy_protocol.specs.Collect.{first_olds, since_olds, deleting_clouds, forget_at, forget_of, collect_reply, collect_sends}
use Rattle.hy_protocol.specs.Cloud.{is_named, bytes_held, cloud_answer}
use Rattle.hy_protocol.proofs.rows.worked_inputs_are_answered.Goals as goal

pub returns-clause-put : goal.returns-clause-put
unfolding stamp_lt stamp_eq addresses first_has since_has own_stamp acknowledging_clouds value_record hashes_of record_with record_at update_of write_reply_at write_reply write_sends
returns-clause-put c = record { start = refl; fragments = refl; one_ack = refl; repeated_ack = refl; timeout = refl; quorum = refl; late_ack = refl; unanswered = refl; reply = refl; unasked = refl }

pub returns-clause-swap : goal.returns-clause-swap
unfolding stamp_lt stamp_eq first_has since_has own_stamp acknowledging_clouds value_record hashes_of record_with record_at update_of swap_reply_at swap_reply swap_sends
returns-clause-swap c = record { start = refl; fragment = refl; asks_expecting = refl; swapped = refl; changed_later = refl; no_update_answer = refl; unasked = refl; changed_at_once = refl; silent = refl; stays_silent = refl; stays_changed = refl }

pub returns-clause-get : goal.returns-clause-get
unfolding stamp_lt stamp_eq clouds_of value_record version_of first_valid valid_picks failed_clouds timeouts failed_attempts answer_for read_reply read_sends refresh_count
returns-clause-get c = record { start = refl; absent = refl; first_holder = refl; next_holder = refl; repeated_miss = refl; all_missed = refl; news = refl; repeated_news = refl; refreshed_once = refl }

pub returns-clause-collection : goal.returns-clause-collection
unfolding stamp_eq first_olds since_olds deleting_clouds forget_at forget_of collect_reply collect_sends
returns-clause-collection c = record { deletes = refl; one_gone = refl; forgets = refl; reply = refl; nothing = refl }

pub returns-clause-cloud : goal.returns-clause-cloud
unfolding stamp_eq key_eq is_named bytes_held cloud_answer
returns-clause-cloud c = record { first = refl; same = refl; other = refl; kept = refl; other_name = refl; deleted = refl; gone_again = refl }
