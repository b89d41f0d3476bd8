-- What is read of a source that tells what is left: std's words for what a read consumed of the bytes left.
use Rattle.std.specs.Prelude.{◌≡◌, ℕ, ◌<◌, ◌≤◌, ◌↔◌, List, length, Option, Result, Ok, Err, IfOk, IsErrOf}
use Rattle.std.specs.Io.KnownBytes.{Consumes, IsAtEnd}
use Rattle.hy_base.specs.declared.blob.Blob.{Blob}
use Rattle.hy_base.specs.declared.failure.Failed.{Failed}
use Rattle.hy_base.specs.declared.reading.ReadAllFault.{ReadAllFault}
use Rattle.hy_base.specs.declared.reading.ReadAllFault.TheVariants.{ReadFault, TooLong, NoMemory}

-- what a call used of a source: the bytes left before it and after it, where they are told, and the counts of faults then
pub record SourceUse : Type 0 where
  pub left_before : Option (List ℕ)
  pub left_after : Option (List ℕ)
  pub faults_before : ℕ
  pub faults_after : ℕ

-- what a call used of the source that it found so and left so
abbrev pub source_use : {S : Type 0} → (S → Option (List ℕ)) → (S → ℕ) → S → S → SourceUse
source_use left faults old new = record { left_before = left old; left_after = left new; faults_before = faults old; faults_after = faults new }

-- a read gives no more bytes than there is room for
abbrev pub ReadsAtMost : ℕ → Result ℕ Failed → Type 0
ReadsAtMost room result = IfOk result (λ count. count ≤ room)

-- a source was read up to a limit: what was taken, that it is too long exactly above the limit, and that an Ok is all of it
pub record Reading (old new : Option (List ℕ)) (limit : ℕ) (result : Result Blob ReadAllFault) : Type 0 where
  pub taken : List ℕ
  pub takes : Consumes old new taken
  pub too_long : IsErrOf result TooLong ↔ (limit < length taken)
  pub whole : IfOk result (λ blob. (blob ≡ taken) × IsAtEnd new)

-- the answer over a told text: the whole text where it is within the limit, and too long only where it is not
abbrev pub ReadsText : List ℕ → ℕ → Result Blob ReadAllFault → Type 0
ReadsText text limit (Ok blob) = (blob ≡ text) × (length blob ≤ limit)
ReadsText text limit (Err ReadFault) = Unit {0}
ReadsText text limit (Err TooLong) = limit < length text
ReadsText text limit (Err NoMemory) = Unit {0}
