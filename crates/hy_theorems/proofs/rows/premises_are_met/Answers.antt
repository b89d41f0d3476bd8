-- Each premise is computed, but that one string alone was hashed.
use Rattle.std.proofs.Common.{ℕ, List, [], ◌∷◌, Some, refl, subst, inl, inr, arith}
use Rattle.hy_record.specs.Stamp.{stamp_lt, stamp_eq}
use Rattle.hy_record.specs.Key.{key_eq}
use Rattle.hy_record.specs.Clouds.{clouds_of}
use Rattle.hy_meta.specs.Service.{record_after, record_stamp, is_old, known_stamps, old_list, insert_stamp, outdates, has_stamp}
use Rattle.hy_meta.specs.Watches.{fired_watches, watches_of, is_passed}
use Rattle.hy_meta.specs.Meta.{service_answers}
use Rattle.hy_protocol.specs.Inputs.{addresses}
use Rattle.hy_protocol.specs.Write.{first_has, since_has, own_stamp, acknowledging_clouds, value_record, hashes_of, record_with, record_at, update_of, write_reply_at, write_reply, write_sends}
use Rattle.hy_protocol.specs.Read.{version_of, first_valid, valid_picks, failed_clouds, timeouts, failed_attempts, answer_for, read_reply, read_sends, refresh_count}
use Rattle.hy_protocol.specs.Collect.{first_olds, since_olds, deleting_clouds, forget_at, forget_of, collect_reply, collect_sends}
use Rattle.hy_protocol.specs.Operations.{sends_of, replied}
use Rattle.hy_protocol.specs.Progress.{write_progress, read_progress, progress_of}
use Rattle.hy_protocol.specs.Cloud.{is_named, bytes_held, cloud_answer}
use Rattle.hy_trace.specs.Deeds.{Joined, served, granted, inputs_of, start_of, reply_of, begun, joined, is_up}
use Rattle.hy_trace.specs.Messages.{sent_at, messages_of, step_of, IsSent}
use Rattle.hy_trace.specs.Schedule.{hand, is_free, deed_of, trace_of}
use Rattle.hy_trace.specs.History.{return_of, begun_of, history_of}
use Rattle.hy_trace.specs.Points.{is_earlier, version_made, first_update, write_point, was_applied, applied_count}
use Rattle.hy_trace.specs.Order.{mark_of, insert_mark, sorted_marks, is_later, linearization_of}
use Rattle.hy_record.specs.declared.action.Action.TheVariants as asked
use Rattle.hy_record.specs.declared.turn.Cue.TheVariants as cues
use Rattle.hy_record.specs.declared.cloud.CloudSay.TheVariants.{Missing}
use Rattle.hy_gf.specs.Gf.{IsElement}
use Rattle.hy_code.specs.Polynomial.{AreElements}
use Rattle.hy_trace.specs.Rows.{one_cloud, a, stamp}
use Rattle.hy_theorems.specs.Rows.{trace, put_delete_get, get_start, first_record}
use Rattle.hy_theorems.proofs.Listing.{IsIn}
use Rattle.hy_theorems.specs.Writing.{Puts}
use Rattle.hy_theorems.proofs.Premises.{put_values, bodies_of, one-string, value-in}
use Rattle.hy_theorems.proofs.rows.premises_are_met.Goals as goal

pub returns : goal.returns
unfolding stamp_lt stamp_eq key_eq clouds_of record_after record_stamp service_answers fired_watches watches_of is_passed addresses first_has since_has own_stamp acknowledging_clouds value_record hashes_of record_with record_at update_of write_reply_at write_reply write_sends version_of first_valid valid_picks failed_clouds timeouts failed_attempts answer_for read_reply read_sends sends_of replied write_progress read_progress progress_of is_named bytes_held cloud_answer served granted inputs_of start_of reply_of begun joined is_up sent_at messages_of step_of hand is_free deed_of trace_of return_of begun_of history_of is_earlier version_made first_update write_point was_applied mark_of insert_mark sorted_marks is_later linearization_of is_old known_stamps old_list insert_stamp outdates has_stamp refresh_count first_olds since_olds deleting_clouds forget_at forget_of collect_reply collect_sends IsSent applied_count put_values bodies_of
returns c = record {
  shape = record { faults = omega arith; some = omega arith; parts = omega arith };
  free = one-string one_cloud (trace one_cloud put_delete_get) (1 ∷ []) refl refl refl refl;
  bytes = λ c o s value is stores. only value (value-in c o (trace one_cloud put_delete_get) s value is stores);
  liars = omega arith;
  current = refl;
  value = refl;
  reported = (_, refl);
  writing = record { start = record { action = asked.Put a (1 ∷ []); before = Joined ∷ Joined ∷ [] }; began = refl; change = Puts (1 ∷ []); action_is = refl; met = tt; own = refl };
  deleted = inr (inr (inr (inr (inl (inl refl)))));
  get = record { began = refl; action_is = refl };
  refreshes = refl;
  before = refl;
  since = refl;
  none_lies = omega arith;
  starves = record {
    start = get_start;
    get = record { began = refl; action_is = refl };
    pending = refl;
    version = record { rec = Some (first_record (0 ∷ []) 0); since = cues.Cloud (record { client = 2; op = 1; cloud = 0; key = a; stamp = stamp 1 1; say = Missing }) ∷ [] };
    follows = refl;
    record_is = refl;
    answered = (λ honest. refl, tt);
  };
}
  where
    only : (value : List ℕ) → IsIn ((1 ∷ []) ∷ []) value → AreElements IsElement value
    only value (inl is) = subst (AreElements IsElement) is (omega arith, tt)
    only value (inr none) = absurd none
