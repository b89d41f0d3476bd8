-- An answer of a job is told by its status.
use Rattle.std.proofs.Common.{◌≡◌, ℕ, List, Result, Ok, Err, refl, sym, subst}
use Rattle.hy_base.specs.Sink.{SinkUse}
use Rattle.hy_top.specs.Answer.{IsWritten, IsTold}
use Rattle.hy_top.specs.Job.{status_due}
use Rattle.hy_top.specs.declared.status.Status.{Status}
use Rattle.hy_top.specs.declared.status.Status.TheVariants.{Done, BadInput, BadWords, NotYet, ReadFault, WriteFault, NetFault, NoMemory, TooLong, Illegal, Exhausted, TooLarge, SessionsFull, BadFrames}

-- an answer whose text was written is told by its status
told_as_due : (answer : Result (List ℕ) Status) (output : SinkUse) → (answer ≡ Err WriteFault → ⊥) → IsWritten answer output → IsTold answer output (status_due answer)
told_as_due (Ok text) output other written = (refl, written)
told_as_due (Err WriteFault) output other written = absurd (other refl)
told_as_due (Err NoMemory) output other written = record { unfailed = written.unfailed; nothing = written.whole }
told_as_due (Err Done) output other written = (refl, written)
told_as_due (Err (BadInput fault)) output other written = (refl, written)
told_as_due (Err BadWords) output other written = (refl, written)
told_as_due (Err ReadFault) output other written = (refl, written)
told_as_due (Err NetFault) output other written = (refl, written)
told_as_due (Err TooLong) output other written = (refl, written)
told_as_due (Err (Illegal key verdict)) output other written = (refl, written)
told_as_due (Err (NotYet have need)) output other written = (refl, written)
told_as_due (Err (Exhausted stamp)) output other written = (refl, written)
told_as_due (Err (TooLarge size)) output other written = (refl, written)
told_as_due (Err SessionsFull) output other written = (refl, written)
told_as_due (Err (BadFrames place)) output other written = (refl, written)

pub told_whole : (answer : Result (List ℕ) Status) (output : SinkUse) (status : Status) → (answer ≡ Err WriteFault → ⊥) → status ≡ status_due answer → IsWritten answer output → IsTold answer output status
told_whole answer output status other due written = subst (IsTold answer output) (sym due) (told_as_due answer output other written)
