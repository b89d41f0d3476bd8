-- Versions that can be retrieved from the clouds.
use Rattle.std.specs.Prelude.{◌≡◌, ℕ, ◌≤◌, ◌<◌, ◌⊎◌, true, List, length, Some}
use Rattle.std.specs.List.{AllByRecursion}
use Rattle.hy_record.specs.declared.kind.Kind.TheVariants.{Tomb}
use Rattle.hy_record.specs.Stamp.{Timestamp}
use Rattle.hy_base.specs.Shape.{cloud_count, quorum_size}
use Rattle.hy_record.specs.Record.{RecordValue}
use Rattle.hy_record.specs.Clouds.{clouds_of}
use Rattle.hy_code.specs.Fragments.{fragment_of}
use Rattle.hy_protocol.specs.Cloud.{bytes_held}
use Rattle.hy_protocol.specs.Write.{value_record}
use Rattle.hy_trace.specs.Deeds.{Params, Deed, granted}

-- a cloud of the store, which is Byzantine, or holds the value's fragment under the record's name
abbrev pub IsHolder : Params → List Deed → List ℕ → Timestamp → List ℕ → ℕ → Type 0
IsHolder p t key stamp value cloud =
    (cloud < cloud_count p.f p.k)
    × ((p.is_liar cloud ≡ true) ⊎ (bytes_held (granted cloud t) key stamp ≡ Some (fragment_of value p.k cloud)))

-- the record is that of a value, and lists a quorum of clouds that hold its fragments
pub record ListsHolders (p : Params) (t : List Deed) (key : List ℕ) (r : RecordValue) : Type 0 where
  pub value : List ℕ
  pub record_is : r ≡ value_record r.stamp value p.f p.k (clouds_of r.clouds)
  pub quorum : quorum_size p.f p.k ≤ length (clouds_of r.clouds)
  pub holders : AllByRecursion (IsHolder p t key r.stamp value) (clouds_of r.clouds)

-- the record is a delete's, or lists those that hold its value
abbrev pub IsRetrievable : Params → List Deed → List ℕ → RecordValue → Type 0
IsRetrievable p t key r = (r.kind ≡ Tomb) ⊎ ListsHolders p t key r
