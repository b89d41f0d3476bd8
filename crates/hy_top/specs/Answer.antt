-- What each status of a call says of the words, the input and the output.
use Rattle.std.specs.Prelude.{◌≡◌, ℕ, List, [], Result, Ok, Err}
use Rattle.std.specs.Io.KnownBytes.{Appends}
use Rattle.hy_base.specs.Faults.{Rose}
use Rattle.hy_base.specs.Sink.{SinkUse, AppendsFront}
use Rattle.hy_base.specs.Source.{SourceUse}
use Rattle.hy_top.specs.Job.{ComesTo, text_due, status_due}
use Rattle.hy_top.specs.NetUse.{NetUse}
use Rattle.hy_top.specs.declared.status.Status.{Status}
use Rattle.hy_top.specs.declared.status.Status.TheVariants.{Done, WriteFault, NoMemory}

-- the text of the answer was written, and no write failed
pub record IsWritten (answer : Result (List ℕ) Status) (output : SinkUse) : Type 0 where
  pub unfailed : output.faults_after ≡ output.faults_before
  pub whole : Appends output.written_before output.written_after (text_due answer)

-- a write failed, and a front of the text of the answer was written
pub record IsBrokenOff (answer : Result (List ℕ) Status) (output : SinkUse) : Type 0 where
  pub rose : Rose output.faults_before output.faults_after
  pub front : AppendsFront output.written_before output.written_after (text_due answer)

-- want of memory: nothing was written, and no write failed
pub record IsUnwritten (output : SinkUse) : Type 0 where
  pub unfailed : output.faults_after ≡ output.faults_before
  pub nothing : Appends output.written_before output.written_after []

-- how a status tells an answer of a job
abbrev pub IsTold : Result (List ℕ) Status → SinkUse → Status → Type 0
IsTold answer output WriteFault = IsBrokenOff answer output
IsTold answer output NoMemory = IsUnwritten output
IsTold answer output status = (status_due answer ≡ status) × IsWritten answer output

-- the words, the input and the net came to this answer, and its text was written
abbrev pub Tells : List (List ℕ) → SourceUse → NetUse → SinkUse → Result (List ℕ) Status → Type 0
Tells words input net output answer = ComesTo words input net answer × IsWritten answer output

-- what the status of a call says; want of memory may come at any time
abbrev pub Answers : List (List ℕ) → SourceUse → NetUse → SinkUse → Status → Type 0
Answers words input net output Done = (text : List ℕ) × Tells words input net output (Ok text)
Answers words input net output WriteFault = (answer : Result (List ℕ) Status) × ComesTo words input net answer × IsBrokenOff answer output
Answers words input net output NoMemory = IsUnwritten output
Answers words input net output status = Tells words input net output (Err status)
