-- Hashes, which are seen as their bytes.
use Rattle.std.specs.Prelude.{◌≡◌, ℕ, List, length}

-- how many bytes a hash has
abbrev pub HASH_SIZE : ℕ
HASH_SIZE = 32

-- the bytes are as many as those of a hash
pub record IsHash (bytes : List ℕ) : Type 0 where
  pub size : length bytes ≡ HASH_SIZE
