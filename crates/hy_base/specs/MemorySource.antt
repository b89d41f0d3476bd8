-- An input in memory: what is left of it, and which of its reads fail.
use Rattle.std.specs.Prelude.{ℕ, List, drop, min, length, Result, Ok, Err}
use Rattle.hy_base.specs.Faults.{next_count}
use Rattle.hy_base.specs.declared.failure.Failed.{Failed}

-- the bytes left, the most that one read gives, the numbers of the reads that fail, and the counts of reads and of faults
pub record MemoryInput : Type 0 where
  pub rest : List ℕ
  pub cut : ℕ
  pub failing : List ℕ
  pub calls : ℕ
  pub faults : ℕ

-- an input of these bytes before its first read
abbrev pub fresh_input : List ℕ → ℕ → List ℕ → MemoryInput
fresh_input bytes cut failing = record { rest = bytes; cut = cut; failing = failing; calls = 0; faults = 0 }

-- how many bytes a read gives that does not fail
abbrev pub given_count : MemoryInput → ℕ → ℕ
given_count input room = min input.cut (min room (length input.rest))

-- the input after a read with this answer
abbrev pub input_after : MemoryInput → Result ℕ Failed → MemoryInput
input_after input (Ok count) = record input { rest = drop count input.rest; calls = next_count input.calls }
input_after input (Err failed) = record input { calls = next_count input.calls; faults = next_count input.faults }
