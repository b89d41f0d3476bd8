-- What the update of a put says.
use Rattle.std.specs.Prelude.{◌≡◌, ℕ, ◌<◌, true, List, length, All, Some}
use Rattle.std.specs.List.{list_any}
use Rattle.sha2.specs.Sha256.{sha256}
use Rattle.hy_base.specs.Shape.{cloud_count, quorum_size}
use Rattle.hy_code.specs.Fragments.{fragment_of}
use Rattle.hy_record.specs.Clouds.{clouds_of}
use Rattle.hy_record.specs.Record.{RecordValue, hash_of}
use Rattle.hy_record.specs.declared.turn.Cue.{Cue}
use Rattle.hy_protocol.specs.declared.plan.PutPlan.{PutPlan}
use Rattle.hy_protocol.specs.Inputs.{is_answer, is_stored}
use Rattle.hy_protocol.specs.Write.{own_stamp}

-- the record has the write's own timestamp, lists a quorum of clouds that acknowledged it, and has the hash of each cloud's fragment of the value
pub record IsRecordOfPut (plan : PutPlan) (value : List ℕ) (own : List Cue) (r : RecordValue) : Type 0 where
  pub stamp : own_stamp plan own ≡ Some r.stamp
  pub quorum : length (clouds_of r.clouds) ≡ quorum_size plan.f plan.k
  pub acknowledged : All (λ cloud. list_any (is_answer is_stored r.stamp cloud) own ≡ true) (clouds_of r.clouds)
  pub hashes : (cloud : ℕ) → cloud < cloud_count plan.f plan.k → hash_of r cloud ≡ Some (sha256 (fragment_of value plan.k cloud))
