-- The write protocol: puts and deletes. All is said of the inputs of one write, the newest first.
use Rattle.std.specs.Prelude.{ℕ, ◌==◌, not, nat_le, List, [], ◌∷◌, length, map, filter, Option, Some, None, is_some, if◌then◌else◌}
use Rattle.std.specs.List.{list_any, range_with_len}
use Rattle.std.specs.Option.{option_or, option_and_then}
use Rattle.sha2.specs.Sha256.{sha256}
use Rattle.hy_record.specs.declared.message.MetaAsk.TheVariants as asks
use Rattle.hy_record.specs.declared.action.Reply.{Reply}
use Rattle.hy_record.specs.declared.action.Reply.TheVariants as told
use Rattle.hy_record.specs.Stamp.{Timestamp, next_stamp}
use Rattle.hy_base.specs.Shape.{cloud_count, quorum_size}
use Rattle.hy_record.specs.Record.{RecordValue, tombstone, record_of_value}
use Rattle.hy_record.specs.Clouds.{set_of}
use Rattle.hy_meta.specs.Service.{stamp_of_record}
use Rattle.hy_code.specs.Fragments.{fragment_of}
use Rattle.hy_record.specs.declared.turn.Cue.{Cue}
use Rattle.hy_record.specs.declared.turn.Out.{Out}
use Rattle.hy_record.specs.declared.turn.Out.TheVariants as outs
use Rattle.hy_record.specs.declared.cloud.CloudAct.TheVariants as acts
use Rattle.hy_protocol.specs.declared.plan.PutPlan.{PutPlan}
use Rattle.hy_protocol.specs.Inputs.{has_of, is_update_answer, is_tick, is_stored, is_answer}

-- what the first answer told of the record
unfoldable pub first_has : List Cue → Option (Option RecordValue)
first_has [] = None
first_has (cue ∷ before) = option_or (first_has before) (has_of cue)

-- the inputs after that answer
unfoldable pub since_has : List Cue → List Cue
since_has [] = []
since_has (cue ∷ before) = if is_some (first_has before) then cue ∷ since_has before else []

-- the timestamp of a write upon a record
abbrev pub stamp_upon : ℕ → Option RecordValue → Option Timestamp
stamp_upon client held = next_stamp (stamp_of_record held) client

-- the timestamp of the write, once the record is known
unfoldable pub own_stamp : PutPlan → List Cue → Option Timestamp
own_stamp plan inputs = option_and_then (stamp_upon plan.client) (first_has inputs)

-- the clouds that acknowledged the fragment of this timestamp
unfoldable pub acknowledging_clouds : PutPlan → Timestamp → List Cue → List ℕ
acknowledging_clouds plan stamp inputs =
    filter (λ cloud. list_any (is_answer is_stored stamp cloud) (since_has inputs)) (range_with_len 0 (cloud_count plan.f plan.k))

-- the hashes of a value: one for all clouds, or one for each
unfoldable pub hashes_of : List ℕ → ℕ → ℕ → List (List ℕ)
hashes_of value f k = if k == 1 then sha256 value ∷ [] else map (λ cloud. sha256 (fragment_of value k cloud)) (range_with_len 0 (cloud_count f k))

-- the record of a value that these clouds hold
unfoldable pub value_record : Timestamp → List ℕ → ℕ → ℕ → List ℕ → RecordValue
value_record stamp value f k clouds = record_of_value stamp (length value) f k (set_of clouds) (hashes_of value f k)

-- the record of the write: a deletion's at once, a value's where a quorum of clouds has acknowledged
unfoldable pub record_with : PutPlan → List Cue → Option (List ℕ) → Timestamp → Option RecordValue
record_with plan inputs None stamp = Some (tombstone stamp)
record_with plan inputs (Some value) stamp =
    if nat_le (quorum_size plan.f plan.k) (length (acknowledging_clouds plan stamp inputs))
    then Some (value_record stamp value plan.f plan.k (acknowledging_clouds plan stamp inputs))
    else None

-- the record that the write can send now
unfoldable pub record_at : PutPlan → List Cue → Option RecordValue
record_at plan inputs = option_and_then (record_with plan inputs plan.value) (own_stamp plan inputs)

-- the record that the write sent: the first that it could
unfoldable pub update_of : PutPlan → List Cue → Option RecordValue
update_of plan [] = None
update_of plan (cue ∷ before) = option_or (update_of plan before) (record_at plan (cue ∷ before))

-- no timestamp is left above the record
abbrev pub exhausted_by : PutPlan → Option (Option RecordValue) → Option Reply
exhausted_by plan None = None
exhausted_by plan (Some held) = if is_some (stamp_upon plan.client held) then None else Some (told.Exhausted (stamp_of_record held))

-- the update was served
abbrev pub done_by : Option RecordValue → Cue → Option Reply
done_by None cue = None
done_by (Some r) cue = if is_update_answer cue then Some (told.Done r.stamp) else None

-- the reply at this input
unfoldable pub write_reply_at : PutPlan → Cue → List Cue → Option Reply
write_reply_at plan cue before = option_or (done_by (update_of plan before) cue) (exhausted_by plan (first_has (cue ∷ before)))

-- the reply of the write: the first that there was
unfoldable pub write_reply : PutPlan → List Cue → Option Reply
write_reply plan [] = None
write_reply plan (cue ∷ before) = option_or (write_reply plan before) (write_reply_at plan cue before)

-- to each of these clouds its fragment
abbrev pub puts_to : PutPlan → Option (List ℕ) → Option Timestamp → List ℕ → List Out
puts_to plan (Some value) (Some stamp) clouds =
    map (λ cloud. outs.Cloud (record { client = plan.client; op = plan.op; cloud = cloud; wish = record { key = plan.key; stamp = stamp; act = acts.Put (fragment_of value plan.k cloud) } })) clouds
puts_to plan (Some value) None clouds = []
puts_to plan None stamp clouds = []

-- a request for the record
abbrev pub read_of : PutPlan → List Out
read_of plan = outs.Meta (asks.Read plan.client plan.op plan.key) ∷ []

-- a request to make this the record
abbrev pub update_with : PutPlan → RecordValue → List Out
update_with plan r = outs.Meta (asks.Update plan.client plan.op plan.key r) ∷ []

-- the clouds that have acknowledged so far
abbrev pub acknowledged_so_far : PutPlan → List Cue → Option Timestamp → List ℕ
acknowledged_so_far plan inputs None = []
acknowledged_so_far plan inputs (Some stamp) = acknowledging_clouds plan stamp inputs

-- the clouds of the store that have not
abbrev pub missing_so_far : PutPlan → List Cue → Option Timestamp → List ℕ
missing_so_far plan inputs None = []
missing_so_far plan inputs (Some stamp) =
    filter (λ cloud. not (list_any (is_answer is_stored stamp cloud) (since_has inputs))) (range_with_len 0 (cloud_count plan.f plan.k))

-- what is sent where no update is sent: the fragments to a quorum at the first answer, and again to those that have not acknowledged
abbrev pub earlier_sends : PutPlan → Cue → List Cue → Option (Option RecordValue) → List Out
earlier_sends plan cue before None =
    if is_some (has_of cue) then puts_to plan plan.value (own_stamp plan (cue ∷ before)) (range_with_len 0 (quorum_size plan.f plan.k))
    else if is_tick cue then read_of plan
    else []
earlier_sends plan cue before (Some held) =
    if is_tick cue then puts_to plan plan.value (own_stamp plan before) (missing_so_far plan before (own_stamp plan before))
    else []

-- what is sent at this input, by the record that was sent before, and the one that can be sent now
abbrev pub sends_by : PutPlan → Cue → List Cue → Option RecordValue → Option RecordValue → List Out
sends_by plan cue before (Some r) now = if is_tick cue then update_with plan r else []
sends_by plan cue before None (Some r) = update_with plan r
sends_by plan cue before None None = earlier_sends plan cue before (first_has before)

-- what the write sends at its last input
unfoldable pub write_sends : PutPlan → List Cue → List Out
write_sends plan [] = read_of plan
write_sends plan (cue ∷ before) = if is_some (write_reply plan before) then [] else sends_by plan cue before (update_of plan before) (record_at plan (cue ∷ before))
