-- The read protocol. All is said of the inputs of one read, the newest first.
use Rattle.std.specs.Prelude.{ℕ, ◌+◌, ◌-◌, Bool, false, ◌&&◌, ◌==◌, not, nat_lt, nat_le, List, [], ◌∷◌, length, map, filter, take, slice_get, Option, Some, None, is_some, if◌then◌else◌}
use Rattle.std.specs.List.{list_any, range_with_len, filter_map}
use Rattle.std.specs.Option.{option_or, option_map}
use Rattle.hy_record.specs.declared.message.MetaAsk.TheVariants as asks
use Rattle.hy_record.specs.declared.action.Reply.{Reply}
use Rattle.hy_record.specs.declared.action.Reply.TheVariants as told
use Rattle.hy_record.specs.Stamp.{Timestamp, stamp_lt, stamp_eq}
use Rattle.hy_base.specs.Shape.{cloud_count}
use Rattle.hy_record.specs.Record.{RecordValue, is_tombstone, is_valid_fragment}
use Rattle.hy_record.specs.Clouds.{clouds_of}
use Rattle.hy_meta.specs.Service.{stamp_of_record}
use Rattle.hy_code.specs.Fragments.{rebuilt_value}
use Rattle.hy_code.specs.declared.pick.Pick.{Pick}
use Rattle.hy_record.specs.declared.turn.Cue.{Cue}
use Rattle.hy_record.specs.declared.turn.Cue.TheVariants as cues
use Rattle.hy_record.specs.declared.turn.Out.{Out}
use Rattle.hy_record.specs.declared.turn.Out.TheVariants as outs
use Rattle.hy_record.specs.declared.cloud.CloudAct.TheVariants as acts
use Rattle.hy_record.specs.declared.cloud.CloudSay.{CloudSay}
use Rattle.hy_record.specs.declared.cloud.CloudSay.TheVariants.{Stored, Conflict, Body, Missing, Gone, Bad}
use Rattle.hy_protocol.specs.declared.plan.GetPlan.{GetPlan}
use Rattle.hy_protocol.specs.Inputs.{has_of, is_fired, is_tick, is_answer}

-- the version that a read follows: a record, or none, and the inputs after the answer that told it
pub record Version : Type 0 where
  pub rec : Option RecordValue
  pub since : List Cue

-- the version after an input that tells this record, or none
abbrev pub newer_version : Option Version → Cue → Option (Option RecordValue) → Option Version
newer_version None cue None = None
newer_version None cue (Some r) = Some (record { rec = r; since = [] })
newer_version (Some v) cue None = Some (record { rec = v.rec; since = cue ∷ v.since })
newer_version (Some v) cue (Some r) =
    if stamp_lt (stamp_of_record v.rec) (stamp_of_record r) then Some (record { rec = r; since = [] })
    else Some (record { rec = v.rec; since = cue ∷ v.since })

-- the version: the first record among those with the greatest timestamp
unfoldable pub version_of : List Cue → Option Version
version_of [] = None
version_of (cue ∷ before) = newer_version (version_of before) cue (has_of cue)

-- the answer has bytes that the cloud was given to hold
abbrev pub is_valid_body : RecordValue → ℕ → CloudSay → Bool
is_valid_body r cloud (Body bytes) = is_valid_fragment r cloud bytes
is_valid_body r cloud (Stored fresh) = false
is_valid_body r cloud Conflict = false
is_valid_body r cloud Missing = false
is_valid_body r cloud Gone = false
is_valid_body r cloud (Bad code) = false

-- the bytes of a valid answer of the cloud
abbrev pub valid_bytes : RecordValue → ℕ → CloudSay → Option (List ℕ)
valid_bytes r cloud (Body bytes) = if is_valid_fragment r cloud bytes then Some bytes else None
valid_bytes r cloud (Stored fresh) = None
valid_bytes r cloud Conflict = None
valid_bytes r cloud Missing = None
valid_bytes r cloud Gone = None
valid_bytes r cloud (Bad code) = None

-- those that this input brings of the cloud
abbrev pub valid_in : RecordValue → ℕ → Cue → Option (List ℕ)
valid_in r cloud (cues.Cloud reply) = if reply.cloud == cloud && stamp_eq reply.stamp r.stamp then valid_bytes r cloud reply.say else None
valid_in r cloud (cues.Meta say) = None
valid_in r cloud cues.Tick = None

-- the first valid bytes of the cloud
unfoldable pub first_valid : RecordValue → ℕ → List Cue → Option (List ℕ)
first_valid r cloud [] = None
first_valid r cloud (cue ∷ before) = option_or (first_valid r cloud before) (valid_in r cloud cue)

-- the clouds that gave valid bytes, with the first of each
unfoldable pub valid_picks : RecordValue → List Cue → List Pick
valid_picks r since = filter_map (λ cloud. option_map (λ bytes. record { cloud = cloud; bytes = bytes }) (first_valid r cloud since)) (range_with_len 0 (cloud_count r.f r.k))

-- the clouds of the record's list that gave another answer
unfoldable pub failed_clouds : RecordValue → List Cue → List ℕ
failed_clouds r since = filter (λ cloud. list_any (is_answer (λ say. not (is_valid_body r cloud say)) r.stamp cloud) since) (clouds_of r.clouds)

-- the record was superseded, as far as the read knows
abbrev pub has_fired : RecordValue → List Cue → Bool
has_fired r since = list_any (is_fired r.stamp) since

-- the timeouts before that
unfoldable pub timeouts : RecordValue → List Cue → ℕ
timeouts r [] = 0
timeouts r (cue ∷ before) = if is_tick cue && not (has_fired r before) then timeouts r before + 1 else timeouts r before

-- the attempts that failed: a cloud once, and each of these timeouts
unfoldable pub failed_attempts : RecordValue → List Cue → ℕ
failed_attempts r since = length (failed_clouds r since) + timeouts r since

-- what a read answers for a version
unfoldable pub answer_for : Option RecordValue → List Cue → Option Reply
answer_for None since = Some (told.Absent (record { sn = 0; cid = 0 }))
answer_for (Some r) since =
    if is_tombstone r.kind then Some (told.Absent r.stamp)
    else if nat_le r.k (length (valid_picks r since)) then Some (told.Value (rebuilt_value r.size r.k (take r.k (valid_picks r since))) r.stamp)
    else None

-- what a read answers for the version that it follows
abbrev pub answer_of : Option Version → Option Reply
answer_of None = None
answer_of (Some v) = answer_for v.rec v.since

-- the reply of the read: the first that there was
unfoldable pub read_reply : List Cue → Option Reply
read_reply [] = None
read_reply (cue ∷ before) = option_or (read_reply before) (answer_of (version_of (cue ∷ before)))

-- a request for the record
abbrev pub asks_record : GetPlan → List Out
asks_record plan = outs.Meta (asks.Read plan.client plan.op plan.key) ∷ []

-- requests for what these clouds hold
abbrev pub gets_from : GetPlan → Timestamp → List ℕ → List Out
gets_from plan stamp clouds = map (λ cloud. outs.Cloud (record { client = plan.client; op = plan.op; cloud = cloud; wish = record { key = plan.key; stamp = stamp; act = acts.Get } })) clouds

-- a watch of the record, and requests to all holders
abbrev pub watch_all : GetPlan → RecordValue → List Out
watch_all plan r = outs.Meta (asks.Watch plan.client plan.op plan.key r.stamp) ∷ gets_from plan r.stamp (clouds_of r.clouds)

-- a request to this holder, if there is one
abbrev pub get_at : GetPlan → RecordValue → Option ℕ → List Out
get_at plan r None = []
get_at plan r (Some cloud) = gets_from plan r.stamp (cloud ∷ [])

-- what is sent where the failed attempts rise from one number to another, at a timeout or at an answer: a request to the next holder, or a watch and requests to all
abbrev pub sends_at_rise : GetPlan → RecordValue → Bool → ℕ → ℕ → List Out
sends_at_rise plan r timed_out old new =
    if nat_lt old new then
    (if nat_le new r.f then get_at plan r (slice_get (clouds_of r.clouds) (r.k + new - 1))
    else if (new == r.f + 1) then watch_all plan r
    else if timed_out then watch_all plan r
    else [])
    else []

-- what is sent at an input after the version
abbrev pub sends_since : GetPlan → Option RecordValue → Cue → List Cue → List Out
sends_since plan None cue since = []
sends_since plan (Some r) cue since =
    if has_fired r since && is_tick cue then asks_record plan
    else if not (has_fired r since) && is_fired r.stamp cue then asks_record plan
    else sends_at_rise plan r (is_tick cue) (failed_attempts r since) (failed_attempts r (cue ∷ since))

-- requests to the first holders
abbrev pub first_gets : GetPlan → Option RecordValue → List Out
first_gets plan None = []
first_gets plan (Some r) = gets_from plan r.stamp (take r.k (clouds_of r.clouds))

-- what is sent at an input that leads from one version to the next, or leaves it
abbrev pub sends_to_version : GetPlan → Cue → Option Version → Option Version → List Out
sends_to_version plan cue old None = if is_tick cue then asks_record plan else []
sends_to_version plan cue None (Some new) = first_gets plan new.rec
sends_to_version plan cue (Some old) (Some new) =
    if stamp_lt (stamp_of_record old.rec) (stamp_of_record new.rec) then first_gets plan new.rec
    else sends_since plan old.rec cue old.since

-- what the read sends at its last input
unfoldable pub read_sends : GetPlan → List Cue → List Out
read_sends plan [] = asks_record plan
read_sends plan (cue ∷ before) = if is_some (read_reply (cue ∷ before)) then [] else sends_to_version plan cue (version_of before) (version_of (cue ∷ before))

-- the input is the first news that the read's record was superseded
abbrev pub supersedes : Option RecordValue → List Cue → Cue → Bool
supersedes None since cue = false
supersedes (Some r) since cue = not (has_fired r since) && is_fired r.stamp cue

abbrev pub is_refresh : Option Version → Cue → Bool
is_refresh None cue = false
is_refresh (Some v) cue = supersedes v.rec v.since cue

-- the refreshes: how often the read asked for the record again on such news
unfoldable pub refresh_count : List Cue → ℕ
refresh_count [] = 0
refresh_count (cue ∷ before) = if not (is_some (read_reply before)) && is_refresh (version_of before) cue then refresh_count before + 1 else refresh_count before
