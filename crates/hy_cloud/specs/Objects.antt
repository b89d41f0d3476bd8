-- What the objects of a cloud stand for.
use Rattle.std.specs.Prelude.{◌≡◌, ℕ, List, Option, if◌then◌else◌}
use Rattle.std.specs.BTreeMap.{is_at}
use Rattle.std.specs.Cmp.Lexicographic.{slice_cmp}
use Rattle.std.specs.declared.cmp.Ordering.{Ordering}
use Rattle.std.specs.Map.{lookup}
use Rattle.std.specs.Ordering.{nat_cmp, ordering_then}
use Rattle.hy_record.specs.declared.cloud.Wish.{Wish}
use Rattle.hy_record.specs.Stamp.{Timestamp, stamp_cmp}
use Rattle.hy_protocol.specs.Cloud.{is_named, held_after, bytes_held}
use Rattle.hy_cloud.specs.declared.cloud.Cloud.{Cloud}

-- names in their order: by the key, and then by the timestamp
abbrev pub name_cmp : List ℕ × Timestamp → List ℕ × Timestamp → Ordering
name_cmp a b = ordering_then (slice_cmp nat_cmp a.0 b.0) (stamp_cmp a.1 b.1)

-- the bytes of the object of this key and timestamp
unfoldable pub held_in : List ((List ℕ × Timestamp) × List ℕ) → List ℕ → Timestamp → Option (List ℕ)
held_in objects key stamp = lookup (is_at (name_cmp (key, stamp))) objects

-- the request did to the objects what it does, and nothing else
abbrev pub Becomes : List ((List ℕ × Timestamp) × List ℕ) → List ((List ℕ × Timestamp) × List ℕ) → Wish → Type 0
Becomes old new wish =
    (key : List ℕ) (stamp : Timestamp) → held_in new key stamp ≡ (if is_named key stamp wish then held_after wish.act (held_in old key stamp) else held_in old key stamp)

-- the cloud holds what it would hold after these requests, the newest first
abbrev pub StandsForWishes : Cloud → List Wish → Type 0
StandsForWishes cloud wishes = (key : List ℕ) (stamp : Timestamp) → held_in cloud.objects.entries key stamp ≡ bytes_held wishes key stamp
