-- What is written to a sink that tells what was written: std's words for what a write appended to the bytes written.
use Rattle.std.specs.Prelude.{ℕ, ◌<◌, ◌≤◌, List, length, take, Option, Result, IfOk}
use Rattle.std.specs.Io.KnownBytes.{Appends}
use Rattle.hy_base.specs.declared.failure.Failed.{Failed}

-- what a call used of a sink: the bytes written before it and after it, where they are told, and the counts of faults then
pub record SinkUse : Type 0 where
  pub written_before : Option (List ℕ)
  pub written_after : Option (List ℕ)
  pub faults_before : ℕ
  pub faults_after : ℕ

-- what a call used of the sink that it found so and left so
abbrev pub sink_use : {K : Type 0} → (K → Option (List ℕ)) → (K → ℕ) → K → K → SinkUse
sink_use written faults old new = record { written_before = written old; written_after = written new; faults_before = faults old; faults_after = faults new }

-- a write takes at most the piece, and at least a byte of one that is not empty
abbrev pub WritesSome : ℕ → Result ℕ Failed → Type 0
WritesSome size result = IfOk result (λ count. (count ≤ size) × (0 < size → 0 < count))

-- a front of the bytes was added, and not all of them
pub record AppendsFront (old new : Option (List ℕ)) (bytes : List ℕ) : Type 0 where
  pub count : ℕ
  pub short : count < length bytes
  pub appends : Appends old new (take count bytes)
