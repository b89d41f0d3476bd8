-- Deletions that collectors ask for.
use Rattle.std.specs.Prelude.{ℕ, List}
use Rattle.hy_record.specs.Stamp.{Timestamp}
use Rattle.hy_record.specs.declared.cloud.CloudAct.TheVariants.{Delete}
use Rattle.hy_trace.specs.Messages.{Message, Request}

-- a request to this cloud, for this operation, to delete what it holds under the name of this key and timestamp
abbrev pub deletion : ℕ → ℕ → ℕ → List ℕ → Timestamp → Message
deletion client op cloud key stamp = Request (record { client = client; op = op; cloud = cloud; wish = record { key = key; stamp = stamp; act = Delete } })
