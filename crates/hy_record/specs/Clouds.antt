-- Sets of clouds as numbers: bit i is cloud i.
use Rattle.std.specs.Prelude.{ℕ, ◌^◌, ◌==◌, List, filter, map, sum}
use Rattle.std.specs.List.{range_with_len}
use Rattle.std.specs.Int.{bit_at}
use Rattle.hy_base.specs.declared.limits.TheConstants.{MAX_CLOUDS}

-- the clouds of a set, in increasing order
unfoldable pub clouds_of : ℕ → List ℕ
clouds_of set = filter (λ cloud. bit_at set cloud == 1) (range_with_len 0 MAX_CLOUDS)

-- these clouds as a set
abbrev pub set_of : List ℕ → ℕ
set_of clouds = sum (map (λ cloud. 2 ^ cloud) clouds)
