-- What is known of the timestamps that a collection deletes.
use Rattle.std.specs.Prelude.{◌≡◌, ℕ, ◌-◌, ◌<◌, Bool, not, nat_lt, List, length, map, filter}
use Rattle.std.specs.List.{list_any, range_with_len}
use Rattle.hy_record.specs.Stamp.{Timestamp}
use Rattle.hy_record.specs.declared.turn.Cue.{Cue}
use Rattle.hy_record.specs.declared.turn.Out.{Out}
use Rattle.hy_record.specs.declared.turn.Out.TheVariants as outs
use Rattle.hy_record.specs.declared.cloud.CloudAct.TheVariants as acts
use Rattle.hy_protocol.specs.Inputs.{is_answer, is_gone}
use Rattle.hy_operation.specs.Marks.{is_marked}
use Rattle.hy_operation.specs.declared.issuer.Issuer.{Issuer}
use Rattle.hy_client.specs.declared.target.Target.{Target}

-- a deletion in this cloud
abbrev pub delete_in : Issuer → Timestamp → ℕ → Out
delete_in issuer stamp cloud = outs.Cloud (record { client = issuer.client; op = issuer.op; cloud = cloud; wish = record { key = issuer.key; stamp = stamp; act = acts.Delete } })

-- a deletion in each cloud of the store that has not acknowledged
abbrev pub deletes_of : Issuer → ℕ → Target → List Out
deletes_of issuer clouds target = map (delete_in issuer target.stamp) (filter (λ cloud. not (is_marked target.gone cloud)) (range_with_len 0 clouds))

-- the timestamps
abbrev pub stamps_of : List Target → List Timestamp
stamps_of targets = map (λ target. target.stamp) targets

-- the timestamp is not deleted in enough clouds
abbrev pub is_lacking : Target → Bool
is_lacking target = nat_lt 0 target.lacking

-- the clouds of the store that acknowledged by these inputs
abbrev pub gone_clouds : ℕ → Timestamp → List Cue → List ℕ
gone_clouds clouds stamp since = filter (λ cloud. list_any (is_answer is_gone stamp cloud) since) (range_with_len 0 clouds)

-- the target is as the inputs since the list of timestamps say
pub record IsTarget (clouds enough : ℕ) (since : List Cue) (target : Target) : Type 0 where
  pub gone : (cloud : ℕ) → cloud < clouds → is_marked target.gone cloud ≡ list_any (is_answer is_gone target.stamp cloud) since
  pub lacking : target.lacking ≡ enough - length (gone_clouds clouds target.stamp since)
