-- The clouds from which the current version of a key can be retrieved.
use Rattle.std.specs.Prelude.{ℕ, Bool, ◌&&◌, ◌==◌, List}
use Rattle.std.specs.Int.{bit_at}
use Rattle.hy_record.specs.Record.{RecordValue}
use Rattle.hy_trace.specs.Deeds.{Params, Deed}
use Rattle.hy_trace.specs.Held.{holds_valid}

-- the cloud is of the record's list, is honest, and holds valid bytes under its name
abbrev pub is_holder : Params → List Deed → List ℕ → RecordValue → ℕ → Bool
is_holder p t key r cloud = (bit_at r.clouds cloud == 1) && holds_valid p t key r cloud
