-- Marks on clouds.
use Rattle.std.specs.Prelude.{ℕ, Bool, false, List, not, filter, slice_get, unwrap_or}
use Rattle.std.specs.List.{range_with_len}
use Rattle.hy_operation.specs.declared.marks.Marks.{Marks}

-- the cloud is marked
unfoldable pub is_marked : Marks → ℕ → Bool
is_marked marks cloud = unwrap_or (slice_get marks.marked cloud) false

-- the marked clouds below this number, in increasing order
abbrev pub marked_below : Marks → ℕ → List ℕ
marked_below marks n = filter (λ cloud. is_marked marks cloud) (range_with_len 0 n)

-- the clouds below this number that are not marked, in increasing order
abbrev pub unmarked_below : Marks → ℕ → List ℕ
unmarked_below marks n = filter (λ cloud. not (is_marked marks cloud)) (range_with_len 0 n)
