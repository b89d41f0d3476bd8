-- The block in which the head of a message stands.
use Rattle.std.specs.Prelude.{◌≡◌, ℕ, ◌<◌, ◌≤◌, Bool, false, nat_eq, List, [], ◌∷◌, length, take, IsTrue}
use Rattle.std.specs.List.{ends_with}
use Rattle.hy_cwire.specs.declared.block.TheConstants.{MAX_HEAD}

-- CR LF CR LF: the end of the last line, and an empty line
abbrev pub end_of_head : List ℕ
end_of_head = 13 ∷ 10 ∷ 13 ∷ 10 ∷ []

-- the last four bytes end a head
unfoldable pub ends_head : List ℕ → Bool
ends_head bytes = ends_with nat_eq bytes end_of_head

-- the first so many bytes are the block: the least that end a head
pub record IsBlock (bytes : List ℕ) (size : ℕ) : Type 0 where
  pub within : size ≤ length bytes
  pub small : size ≤ MAX_HEAD
  pub ends : IsTrue (ends_head (take size bytes))
  pub first : (n : ℕ) → n < size → ends_head (take n bytes) ≡ false

-- none of the first 8,192 bytes ends a head
pub record HasNoBlock (bytes : List ℕ) : Type 0 where
  pub none : (n : ℕ) → n ≤ length bytes → n ≤ MAX_HEAD → ends_head (take n bytes) ≡ false
