-- What keeping answers: the frames of a keeper's answers to those of requests.
use Rattle.std.specs.Prelude.{◌≡◌, ℕ, ◌-◌, List, [], Result, Ok, Err}
use Rattle.hy_journal.specs.Kept.{Kept}
use Rattle.hy_journal.specs.Requests.{AreRequests, IsBadFrameAt}
use Rattle.hy_journal.specs.declared.fault.RequestsFault.{RequestsFault}
use Rattle.hy_journal.specs.declared.fault.RequestsFault.TheVariants as requests_faults
use Rattle.hy_mwire.specs.declared.message.Message.{Message}
use Rattle.hy_top.specs.declared.status.Status.{Status}
use Rattle.hy_top.specs.declared.status.Status.TheVariants.{BadFrames, NoMemory}

-- the input is the frames of requests, and each has its answers in the output but the one, if any, in whose call the call of the disk
-- with this number failed; the opening makes the first four calls
pub record IsKept (stop : ℕ) (frames output : List ℕ) : Type 0 where
  pub requests : List Message
  pub read : AreRequests frames requests
  pub kept : Kept (stop - 4) [] [] requests output

-- what keeping answers over the frames that the input is
abbrev pub Keeps : ℕ → List ℕ → Result (List ℕ) Status → Type 0
Keeps stop frames (Ok output) = IsKept stop frames output
Keeps stop frames (Err (BadFrames place)) = IsBadFrameAt frames place
Keeps stop frames (Err NoMemory) = Unit {0}
Keeps stop frames (Err other) = ⊥

-- the status where frames could not be read
abbrev pub status_of_requests : RequestsFault → Status
status_of_requests (requests_faults.BadFrame place) = BadFrames place
status_of_requests requests_faults.NoMemory = NoMemory
