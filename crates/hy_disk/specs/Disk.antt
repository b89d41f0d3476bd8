-- A disk: what its calls do to what a read gives, and which files a crash may leave.
use Rattle.std.specs.Prelude.{◌≡◌, ◌↔◌, ℕ, ◌+◌, ◌-◌, ◌<◌, ◌≤◌, min, max, List, ◌++◌, length, take, drop, replicate, Result, Ok, Err}
use Rattle.hy_base.specs.declared.failure.Failed.{Failed}

-- a file with these bytes written at this place: zeros in a gap before it, and all else as before
abbrev pub written : ℕ → List ℕ → List ℕ → List ℕ
written place bytes old =
    take place old
    ++ (replicate (place - length old) 0 ++ (bytes ++ drop (place + length bytes) old))

-- what a crash may make of a file in which n bytes were written at this place: any bytes in the
-- range and past the old end, any length from the old to the new one, and the same bytes elsewhere
pub record Torn (place n : ℕ) (old new : List ℕ) : Type 0 where
  pub before : take (min place (length old)) new ≡ take place old
  pub after : drop (place + n) new ≡ drop (place + n) old
  pub no_shorter : length old ≤ length new
  pub no_longer : length new ≤ max (length old) (place + n)

-- so many bytes were read from this place of the file into the front of the room; none only at the
-- file's end
pub record ReadsAt (file : List ℕ) (place : ℕ) (room : List ℕ) (count : ℕ) : Type 0 where
  pub fits : count ≤ length room
  pub within : count ≤ length file - place
  pub bytes : take count room ≡ take count (drop place file)
  pub end : 0 < length room → count ≡ 0 → length file ≤ place

-- a crash may leave the same files
abbrev pub SameFiles : (List ℕ → Type 0) → (List ℕ → Type 0) → Type 0
SameFiles old new = (c : List ℕ) → new c ↔ old c

-- a crash may leave this file alone
abbrev pub OnlyFile : List ℕ → (List ℕ → Type 0) → Type 0
OnlyFile file files = (c : List ℕ) → files c ↔ (c ≡ file)

-- a file is one of these after a write of n bytes at this place that a crash cut short
abbrev pub TornFrom : ℕ → ℕ → (List ℕ → Type 0) → List ℕ → Type 0
TornFrom place n files c = (d : List ℕ) × files d × Torn place n d c

-- after a write a crash may leave exactly what it makes of the files that it might leave before;
-- after one that failed no others
abbrev pub WriteLeaves
    : ℕ → ℕ → (List ℕ → Type 0) → (List ℕ → Type 0) → Result Unit Failed → Type 0
WriteLeaves place n old new (Ok done) = (c : List ℕ) → new c ↔ TornFrom place n old c
WriteLeaves place n old new (Err failed) = (c : List ℕ) → new c → TornFrom place n old c

-- after a sync a crash may leave only what a read gives; one that failed leaves what it found
abbrev pub SyncLeaves
    : List ℕ → (List ℕ → Type 0) → (List ℕ → Type 0) → Result Unit Failed → Type 0
SyncLeaves file old new (Ok done) = OnlyFile file new
SyncLeaves file old new (Err failed) = SameFiles old new

-- what a read gives after a write; after one that failed the bytes of its range are unknown
abbrev pub WriteGives : ℕ → List ℕ → List ℕ → List ℕ → Result Unit Failed → Type 0
WriteGives place bytes old new (Ok done) = new ≡ written place bytes old
WriteGives place bytes old new (Err failed) = Torn place (length bytes) old new
