-- What the laws of a get speak of. Inputs are those for the get, the newest first, where nothing else is said.
use Rattle.std.specs.Prelude.{◌≡◌, ℕ, ◌+◌, ◌≤◌, Bool, true, false, List, [], ◌∷◌, ◌++◌, length, take, filter, All, Option, Some, None, if◌then◌else◌}
use Rattle.hy_code.specs.Fragments.{rebuilt_value}
use Rattle.hy_record.specs.declared.action.Reply.{Reply}
use Rattle.hy_record.specs.declared.action.Reply.TheVariants as told
use Rattle.hy_record.specs.declared.turn.Cue.{Cue}
use Rattle.hy_record.specs.declared.turn.Cue.TheVariants as cues
use Rattle.hy_record.specs.declared.turn.Out.{Out}
use Rattle.hy_record.specs.declared.turn.Out.TheVariants as outs
use Rattle.hy_record.specs.Stamp.{Timestamp, stamp_lt}
use Rattle.hy_record.specs.Record.{RecordValue, is_tombstone, IsValidFragment}
use Rattle.hy_meta.specs.Service.{stamp_of_record}
use Rattle.hy_protocol.specs.declared.plan.GetPlan.{GetPlan}
use Rattle.hy_protocol.specs.Inputs.{addresses, has_of}
use Rattle.hy_protocol.specs.Read.{Version, version_of, valid_picks, read_reply, supersedes, read_sends}
use Rattle.hy_get.specs.Standing.{own_inputs}

-- the version is this record, and these inputs came since it was read
abbrev pub follows : RecordValue → List Cue → Option Version
follows r since = Some (record { rec = Some r; since = since })

-- the reply of the value that the fragments rebuild
abbrev pub value_reply : RecordValue → List Cue → Reply
value_reply r since = told.Value (rebuilt_value r.size r.k (take r.k (valid_picks r since))) r.stamp

-- an input that is for the get of this plan, at which it follows this record, holds fragments enough, and had no reply before
pub record HasEnough (plan : GetPlan) (inputs : List Cue) (cue : Cue) (r : RecordValue) (since : List Cue) : Type 0 where
  pub own : addresses plan.client plan.op plan.key cue ≡ true
  pub silent : read_reply (own_inputs plan inputs) ≡ None
  pub version : version_of (cue ∷ own_inputs plan inputs) ≡ follows r since
  pub value : is_tombstone r.kind ≡ false
  pub enough : r.k ≤ length (valid_picks r since)

-- the get was told a record of this timestamp, and the value is what the first valid fragments rebuild that clouds gave after that, each of which the record's hashes verify
pub record IsRebuilt (inputs : List Cue) (value : List ℕ) (stamp : Timestamp) : Type 0 where
  pub rec : RecordValue
  pub older : List Cue
  pub has : Cue
  pub since : List Cue
  pub later : List Cue
  pub stamped : rec.stamp ≡ stamp
  pub was_told : has_of has ≡ Some (Some rec)
  pub parts : inputs ≡ later ++ (since ++ has ∷ older)
  pub enough : rec.k ≤ length (valid_picks rec since)
  pub verified : All (λ pick. IsValidFragment rec pick.cloud pick.bytes) (valid_picks rec since)
  pub rebuilt : value ≡ rebuilt_value rec.size rec.k (take rec.k (valid_picks rec since))

-- how often a get that follows this record asked for it again
unfoldable pub refreshes_since : Option RecordValue → List Cue → ℕ
refreshes_since rec [] = 0
refreshes_since rec (cue ∷ since) = if supersedes rec since cue then refreshes_since rec since + 1 else refreshes_since rec since

-- the input tells a record to follow
abbrev pub is_above : Option Version → Option (Option RecordValue) → Bool
is_above v None = false
is_above None (Some rec) = true
is_above (Some v) (Some rec) = stamp_lt (stamp_of_record v.rec) (stamp_of_record rec)

-- how many versions the get followed
unfoldable pub version_count : List Cue → ℕ
version_count [] = 0
version_count (cue ∷ before) = if is_above (version_of before) (has_of cue) then version_count before + 1 else version_count before

abbrev pub is_cloud_request : Out → Bool
is_cloud_request (outs.Cloud ask) = true
is_cloud_request (outs.Meta ask) = false

abbrev pub is_cloud_answer : Cue → Bool
is_cloud_answer (cues.Cloud reply) = true
is_cloud_answer (cues.Meta say) = false
is_cloud_answer cues.Tick = false

-- how many requests to clouds are among these
abbrev pub request_count : List Out → ℕ
request_count sends = length (filter is_cloud_request sends)

-- the requests to clouds that the get sent upon answers of clouds, since it follows its version
unfoldable pub requests_upon_answers : GetPlan → List Cue → ℕ
requests_upon_answers plan [] = 0
requests_upon_answers plan (cue ∷ before) =
    if is_above (version_of before) (has_of cue) then 0
    else if is_cloud_answer cue then requests_upon_answers plan before + request_count (read_sends plan (cue ∷ before))
    else requests_upon_answers plan before
