-- An output in memory: what was written to it, and which of its writes fail.
use Rattle.std.specs.Prelude.{ℕ, ◌+◌, ◌<◌, ◌⊎◌, List, [], ◌++◌, length, Result, Ok, Err}
use Rattle.hy_base.specs.Faults.{next_count, FailsNext}
use Rattle.hy_base.specs.declared.failure.Failed.{Failed}

-- the bytes written, the room for all of them, the numbers of the writes that fail, and the counts of writes and of faults
pub record MemoryOutput : Type 0 where
  pub written : List ℕ
  pub room : ℕ
  pub failing : List ℕ
  pub calls : ℕ
  pub faults : ℕ

-- an output with this room before its first write
abbrev pub fresh_output : ℕ → List ℕ → MemoryOutput
fresh_output room failing = record { written = []; room = room; failing = failing; calls = 0; faults = 0 }

-- the next write fails: its number says so, or the piece is longer than the room left
abbrev pub RefusesPiece : MemoryOutput → List ℕ → Type 0
RefusesPiece output piece = FailsNext output.failing output.calls ⊎ (output.room < length output.written + length piece)

-- the output after a write of this piece with this answer
abbrev pub output_after : MemoryOutput → List ℕ → Result ℕ Failed → MemoryOutput
output_after output piece (Ok count) = record output { written = output.written ++ piece; calls = next_count output.calls }
output_after output piece (Err failed) = record output { calls = next_count output.calls; faults = next_count output.faults }
