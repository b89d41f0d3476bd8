-- The clouds from which the current version of a key can be retrieved.
use Rattle.std.specs.Prelude.{ℕ, ◌≤◌, Bool, true, false, ◌&&◌, not, List, length, filter, Option, Some, None}
use Rattle.std.specs.List.{range_with_len}
use Rattle.hy_base.specs.Shape.{cloud_count}
use Rattle.hy_record.specs.Record.{RecordValue, is_tombstone, is_valid_fragment}
use Rattle.hy_record.specs.Clouds.{clouds_of, set_of}
use Rattle.hy_meta.specs.Service.{record_after}
use Rattle.hy_protocol.specs.Cloud.{bytes_held}
use Rattle.hy_order.specs.declared.held.Held.{Held}
use Rattle.hy_trace.specs.Deeds.{Params, Deed, served, granted}

-- what the cloud holds is valid for the record
abbrev pub is_valid_held : RecordValue → ℕ → Option (List ℕ) → Bool
is_valid_held r cloud None = false
is_valid_held r cloud (Some bytes) = is_valid_fragment r cloud bytes

-- the cloud is honest, and holds bytes that are valid for the record under its name
unfoldable pub holds_valid : Params → List Deed → List ℕ → RecordValue → ℕ → Bool
holds_valid p t key r cloud = not (p.is_liar cloud) && is_valid_held r cloud (bytes_held (granted cloud t) key r.stamp)

-- the clouds of the record's list from which its version can be retrieved
unfoldable pub holders_of : Params → List Deed → List ℕ → RecordValue → List ℕ
holders_of p t key r = filter (holds_valid p t key r) (clouds_of r.clouds)

-- at most so many clouds of the store are Byzantine
abbrev pub HasLiars : Params → ℕ → Type 0
HasLiars p count = length (filter p.is_liar (range_with_len 0 (cloud_count p.f p.k))) ≤ count

-- the version of a record, where that is no deletion's
abbrev pub held_by : Params → List Deed → List ℕ → RecordValue → Bool → Option Held
held_by p t key r true = None
held_by p t key r false = Some (record { key = key; stamp = r.stamp; clouds = set_of (holders_of p t key r) })

abbrev pub held_with : Params → List Deed → List ℕ → Option RecordValue → Option Held
held_with p t key None = None
held_with p t key (Some r) = held_by p t key r (is_tombstone r.kind)

-- the current version of a key with a value, and the clouds that hold it
abbrev pub held_of : Params → List Deed → List ℕ → Option Held
held_of p t key = held_with p t key (record_after (served t) key)
