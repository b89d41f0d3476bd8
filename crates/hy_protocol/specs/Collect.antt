-- The collector's protocol. All is said of the inputs of one collection, the newest first.
use Rattle.std.specs.Prelude.{ℕ, ◌-◌, not, nat_le, List, [], ◌∷◌, length, map, filter, Option, Some, None, is_some, if◌then◌else◌}
use Rattle.std.specs.List.{list_any, list_all, range_with_len, flat_map}
use Rattle.std.specs.Option.{option_or}
use Rattle.hy_record.specs.declared.message.MetaAsk.TheVariants as asks
use Rattle.hy_record.specs.declared.action.Reply.{Reply}
use Rattle.hy_record.specs.declared.action.Reply.TheVariants as told
use Rattle.hy_record.specs.Stamp.{Timestamp}
use Rattle.hy_base.specs.Shape.{cloud_count}
use Rattle.hy_record.specs.declared.turn.Cue.{Cue}
use Rattle.hy_record.specs.declared.turn.Out.{Out}
use Rattle.hy_record.specs.declared.turn.Out.TheVariants as outs
use Rattle.hy_record.specs.declared.cloud.CloudAct.TheVariants as acts
use Rattle.hy_protocol.specs.declared.plan.CollectPlan.{CollectPlan}
use Rattle.hy_protocol.specs.Inputs.{olds_of, is_forgot, is_tick, is_gone, is_answer}

-- the superseded timestamps, by the first answer
unfoldable pub first_olds : List Cue → Option (List Timestamp)
first_olds [] = None
first_olds (cue ∷ before) = option_or (first_olds before) (olds_of cue)

-- the inputs after that answer
unfoldable pub since_olds : List Cue → List Cue
since_olds [] = []
since_olds (cue ∷ before) = if is_some (first_olds before) then cue ∷ since_olds before else []

-- the clouds that acknowledged the deletion of this timestamp
unfoldable pub deleting_clouds : CollectPlan → Timestamp → List Cue → List ℕ
deleting_clouds plan stamp inputs = filter (λ cloud. list_any (is_answer is_gone stamp cloud) (since_olds inputs)) (range_with_len 0 (cloud_count plan.f plan.k))

-- the timestamps, where enough clouds acknowledged the deletion of each
abbrev pub forget_with : CollectPlan → List Cue → Option (List Timestamp) → Option (List Timestamp)
forget_with plan inputs None = None
forget_with plan inputs (Some []) = None
forget_with plan inputs (Some (stamp ∷ stamps)) =
    if list_all (λ s. nat_le (cloud_count plan.f plan.k - plan.f) (length (deleting_clouds plan s inputs))) (stamp ∷ stamps) then Some (stamp ∷ stamps) else None

-- the timestamps that the service can forget now
unfoldable pub forget_at : CollectPlan → List Cue → Option (List Timestamp)
forget_at plan inputs = forget_with plan inputs (first_olds inputs)

-- the timestamps that the service was asked to forget: the first that it could be asked
unfoldable pub forget_of : CollectPlan → List Cue → Option (List Timestamp)
forget_of plan [] = None
forget_of plan (cue ∷ before) = option_or (forget_of plan before) (forget_at plan (cue ∷ before))

-- the service forgot them
abbrev pub collected_by : Option (List Timestamp) → Cue → Option Reply
collected_by None cue = None
collected_by (Some stamps) cue = if is_forgot cue then Some (told.Collected (length stamps)) else None

-- nothing is superseded
abbrev pub nothing_by : Option (List Timestamp) → Option Reply
nothing_by None = None
nothing_by (Some []) = Some (told.Collected 0)
nothing_by (Some (stamp ∷ stamps)) = None

-- the reply of the collection: the first that there was
unfoldable pub collect_reply : CollectPlan → List Cue → Option Reply
collect_reply plan [] = None
collect_reply plan (cue ∷ before) = option_or (collect_reply plan before) (option_or (collected_by (forget_of plan before) cue) (nothing_by (first_olds (cue ∷ before))))

-- a request for the superseded timestamps
abbrev pub asks_olds : CollectPlan → List Out
asks_olds plan = outs.Meta (asks.Olds plan.client plan.op plan.key) ∷ []

-- a request to forget these
abbrev pub forgets : CollectPlan → List Timestamp → List Out
forgets plan stamps = outs.Meta (asks.Forget plan.client plan.op plan.key stamps) ∷ []

-- deletions of the timestamp, in these clouds
abbrev pub deletes_in : CollectPlan → Timestamp → List ℕ → List Out
deletes_in plan stamp clouds = map (λ cloud. outs.Cloud (record { client = plan.client; op = plan.op; cloud = cloud; wish = record { key = plan.key; stamp = stamp; act = acts.Delete } })) clouds

-- deletions that no cloud acknowledged by these inputs
abbrev pub deletes : CollectPlan → List Cue → List Timestamp → List Out
deletes plan inputs stamps =
    flat_map (λ stamp. deletes_in plan stamp (filter (λ cloud. not (list_any (is_answer is_gone stamp cloud) (since_olds inputs))) (range_with_len 0 (cloud_count plan.f plan.k)))) stamps

-- what is sent where nothing is asked to be forgotten
abbrev pub earlier_collect_sends : CollectPlan → Cue → List Cue → Option (List Timestamp) → Option (List Timestamp) → List Out
earlier_collect_sends plan cue before None None = if is_tick cue then asks_olds plan else []
earlier_collect_sends plan cue before None (Some stamps) = deletes plan (cue ∷ before) stamps
earlier_collect_sends plan cue before (Some stamps) now = if is_tick cue then deletes plan before stamps else []

-- what is sent at this input, by what was asked to be forgotten before, and what can be asked now
abbrev pub collect_sends_by : CollectPlan → Cue → List Cue → Option (List Timestamp) → Option (List Timestamp) → List Out
collect_sends_by plan cue before (Some stamps) now = if is_tick cue then forgets plan stamps else []
collect_sends_by plan cue before None (Some stamps) = forgets plan stamps
collect_sends_by plan cue before None None = earlier_collect_sends plan cue before (first_olds before) (first_olds (cue ∷ before))

-- what the collection sends at its last input
unfoldable pub collect_sends : CollectPlan → List Cue → List Out
collect_sends plan [] = asks_olds plan
collect_sends plan (cue ∷ before) = if is_some (collect_reply plan before) then [] else collect_sends_by plan cue before (forget_of plan before) (forget_at plan (cue ∷ before))
