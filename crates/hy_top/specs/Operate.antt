-- What a command on a store answers.
use Rattle.std.specs.Prelude.{◌≡◌, ◌≤◌, ◌<◌, ◌⊎◌, ℕ, List, length, Result, Ok, Err}
use Rattle.hy_base.specs.Faults.{Rose}
use Rattle.hy_base.specs.Source.{SourceUse}
use Rattle.hy_base.specs.declared.limits.TheConstants.{MAX_VALUE}
use Rattle.hy_drive.specs.Role.{Drives}
use Rattle.hy_drive.specs.declared.fault.DriveFault.{DriveFault}
use Rattle.hy_drive.specs.declared.fault.DriveFault.TheVariants as driving
use Rattle.hy_drive.specs.declared.job.Job.{Job}
use Rattle.hy_record.specs.declared.action.Action.{Action}
use Rattle.hy_record.specs.declared.action.Action.TheVariants as actions
use Rattle.hy_record.specs.declared.action.Reply.{Reply}
use Rattle.hy_words.specs.declared.command.StoreCommand.{StoreCommand}
use Rattle.hy_words.specs.declared.command.StoreCommand.TheVariants as commands
use Rattle.hy_words.specs.declared.request.Request.{Request}
use Rattle.hy_top.specs.Input.{IsWholeInput, IsUnreadable, IsOverlong}
use Rattle.hy_top.specs.NetUse.{NetUse}
use Rattle.hy_top.specs.Reply.{reply_told}
use Rattle.hy_top.specs.declared.status.Status.{Status}
use Rattle.hy_top.specs.declared.status.Status.TheVariants.{NotYet, ReadFault, NetFault, NoMemory, TooLong, Exhausted, TooLarge, SessionsFull}

-- ---- over a net

-- the job of a request
abbrev pub job_of : Request → Action → Job
job_of request action =
    record { f = request.f; k = request.k; meta = request.meta; clouds = request.clouds; action = action }

-- how the client played over the net, and why it ended
abbrev pub PlaysAs : Job → ℕ → NetUse → Result Reply DriveFault → Type 0
PlaysAs job arrivals net result =
    net.Plays (Drives job arrivals (Rose net.taking_before net.taking_after) result)

-- a reply came, and this tells it
pub record IsReplied (job : Job) (arrivals : ℕ) (net : NetUse) (answer : Result (List ℕ) Status) : Type 0 where
  pub reply : Reply
  pub plays : PlaysAs job arrivals net (Ok reply)
  pub told : answer ≡ reply_told reply

-- a call of the net failed that no client goes on without
pub record IsCutOff (job : Job) (arrivals : ℕ) (net : NetUse) : Type 0 where
  pub plays : PlaysAs job arrivals net (Err driving.NetFault)
  pub rose : Rose net.taking_before net.taking_after ⊎ Rose net.sending_before net.sending_after

-- what a client over a net answers; want of memory may come at any time
abbrev pub Operates : Job → ℕ → NetUse → Result (List ℕ) Status → Type 0
Operates job arrivals net (Ok output) = IsReplied job arrivals net (Ok output)
Operates job arrivals net (Err (Exhausted stamp)) = IsReplied job arrivals net (Err (Exhausted stamp))
Operates job arrivals net (Err (NotYet have need)) = PlaysAs job arrivals net (Err (driving.NotYet have need))
Operates job arrivals net (Err SessionsFull) = PlaysAs job arrivals net (Err driving.SessionsFull)
Operates job arrivals net (Err NetFault) = IsCutOff job arrivals net
Operates job arrivals net (Err NoMemory) = Unit {0}
Operates job arrivals net (Err other) = ⊥

-- ---- the input of a put

-- the input was read to its end, and is no larger than a value
pub record IsValue (input : SourceUse) (value : List ℕ) : Type 0 where
  pub read : IsWholeInput input value
  pub fits : length value ≤ MAX_VALUE

-- the input was read to its end, and has so many bytes, more than a value
pub record IsTooLarge (input : SourceUse) (size : ℕ) : Type 0 where
  pub value : List ℕ
  pub read : IsWholeInput input value
  pub measured : size ≡ length value
  pub beyond : MAX_VALUE < size

-- what reading a value answers; want of memory may come at any time
abbrev pub ReadsValue : SourceUse → Result (List ℕ) Status → Type 0
ReadsValue input (Ok value) = IsValue input value
ReadsValue input (Err ReadFault) = IsUnreadable input
ReadsValue input (Err TooLong) = IsOverlong input
ReadsValue input (Err (TooLarge size)) = IsTooLarge input size
ReadsValue input (Err NoMemory) = Unit {0}
ReadsValue input (Err other) = ⊥

-- the input was read, and put under the key
pub record ReadsAndPuts (request : Request) (input : SourceUse) (net : NetUse) (answer : Result (List ℕ) Status) : Type 0 where
  pub value : List ℕ
  pub is : IsValue input value
  pub puts : Operates (job_of request (actions.Put request.key value)) request.arrivals net answer

-- what a put of the input answers; where it could not be read, or is no value, the net is as it was
abbrev pub Puts : Request → SourceUse → NetUse → Result (List ℕ) Status → Type 0
Puts request input net (Err ReadFault) = IsUnreadable input × net.Unused
Puts request input net (Err TooLong) = IsOverlong input × net.Unused
Puts request input net (Err (TooLarge size)) = IsTooLarge input size × net.Unused
Puts request input net (Err NoMemory) = Unit {0}
Puts request input net answer = ReadsAndPuts request input net answer

-- what a command on a store answers
abbrev pub DoesOnStore : StoreCommand → Request → SourceUse → NetUse → Result (List ℕ) Status → Type 0
DoesOnStore commands.Put request input net answer = Puts request input net answer
DoesOnStore commands.Get request input net answer =
    Operates (job_of request (actions.Get request.key)) request.arrivals net answer
DoesOnStore commands.Delete request input net answer =
    Operates (job_of request (actions.Delete request.key)) request.arrivals net answer
DoesOnStore commands.Collect request input net answer =
    Operates (job_of request (actions.Collect request.key)) request.arrivals net answer
