-- The shape of a store: how many faulty clouds it bears, and into how many parts a value is cut.
use Rattle.std.specs.Prelude.{ℕ, ◌+◌, ◌*◌, ◌≤◌}
use Rattle.std.specs.Int.{div_ceil}
use Rattle.hy_base.specs.declared.limits.TheConstants.{MAX_F, MAX_K}

-- a store can have so many faulty clouds and parts
pub record IsShape (f k : ℕ) : Type 0 where
  pub faults : f ≤ MAX_F
  pub some : 1 ≤ k
  pub parts : k ≤ MAX_K

-- the clouds of the store
abbrev pub cloud_count : ℕ → ℕ → ℕ
cloud_count f k = 2 * f + k

-- the clouds that have to store a value before it counts as written
abbrev pub quorum_size : ℕ → ℕ → ℕ
quorum_size f k = f + k

-- the bytes of a part, and so of a fragment: the size over the parts, rounded up
abbrev pub fragment_size : ℕ → ℕ → ℕ
fragment_size size k = div_ceil size k
