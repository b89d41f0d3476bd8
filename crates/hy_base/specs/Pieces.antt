-- How the bytes that were sent on connections lie in memory.
use Rattle.std.specs.Prelude.{◌≡◌, ◌≤◌, ◌+◌, ◌==◌, ℕ, false, List, [], ◌∷◌, ◌++◌, length, take, drop, vec_len, vec_capacity, if◌then◌else◌}
use Rattle.hy_base.specs.declared.pieces.Run.{Run}
use Rattle.hy_base.specs.declared.pieces.Pieces.{Pieces}

-- the bytes of all runs
unfoldable pub total : List Run → ℕ
total [] = 0
total (run ∷ runs) = run.size + total runs

-- the bytes of the connection: those of its run, in bytes that are cut into these runs
unfoldable pub bytes_in : List Run → List ℕ → ℕ → List ℕ
bytes_in [] bytes conn = []
bytes_in (run ∷ runs) bytes conn = if run.conn == conn then take run.size bytes else bytes_in runs (drop run.size bytes) conn

-- no run is the connection's
abbrev pub LacksRun : ℕ → List Run → Type 0
LacksRun conn [] = Unit {0}
LacksRun conn (run ∷ runs) = ((run.conn == conn) ≡ false) × LacksRun conn runs

-- the connection's first run is the one of this number, and its first byte the one of this number
pub record IsRun (runs : List Run) (conn : ℕ) (place : ℕ × ℕ) : Type 0 where
  pub before : List Run
  pub run : Run
  pub after : List Run
  pub parts : runs ≡ before ++ run ∷ after
  pub others : LacksRun conn before
  pub here : run.conn ≡ conn
  pub index : place.0 ≡ length before
  pub start : place.1 ≡ total before

-- the bytes with a piece at this place
abbrev pub with_piece : ℕ → List ℕ → List ℕ → List ℕ
with_piece at piece bytes = take at bytes ++ (piece ++ drop at bytes)

-- the runs are still those of the bytes, at most one came, and the room is as it was
pub record Keeps (old new : Pieces) : Type 0 where
  pub total : total new.runs.items ≡ length new.bytes.items
  pub runs : vec_len new.runs ≤ vec_len old.runs + 1
  pub room_for_bytes : vec_capacity old.bytes ≤ vec_capacity new.bytes
  pub room_for_runs : vec_capacity old.runs ≤ vec_capacity new.runs
