-- An operation that is run to its end: its invocation, and then the delivery of each message that is sent from then on, until it replies.
use Rattle.std.specs.Prelude.{ℕ, zero, suc, ◌+◌, Bool, ◌&&◌, not, nat_le, List, ◌∷◌, length, is_some, if◌then◌else◌}
use Rattle.hy_record.specs.declared.action.Action.{Action}
use Rattle.hy_protocol.specs.Operations.{suits}
use Rattle.hy_trace.specs.declared.step.Step.{Step}
use Rattle.hy_trace.specs.declared.step.Step.TheVariants as steps
use Rattle.hy_trace.specs.declared.step.TheConstants.{MAX_GIVES}
use Rattle.hy_trace.specs.Deeds.{Params, reply_of, begun}
use Rattle.hy_trace.specs.Messages.{messages_of}
use Rattle.hy_trace.specs.Schedule.{is_free, trace_of}

-- the client's last operation has no reply, and a message of this number was sent
unfoldable pub goes_on : Params → ℕ → ℕ → List Step → Bool
goes_on p client number before =
    not (is_some (reply_of p client (begun client (trace_of p before)) (trace_of p before))) && nat_le number (length (messages_of p (trace_of p before)))

-- the steps with at most so many deliveries, from this number on
unfoldable pub with_gives : ℕ → Params → ℕ → ℕ → List Step → List Step
with_gives zero p client number before = before
with_gives (suc left) p client number before =
    if goes_on p client number before then with_gives left p client (number + 1) (steps.Give number ∷ before) else before

-- the steps with those of an operation that is run to its end; where the client is not free, the invocation alone
unfoldable pub with_do : Params → ℕ → Action → List Step → List Step
with_do p client action before =
    if is_free p client (trace_of p before) && suits action
    then with_gives MAX_GIVES p client (length (messages_of p (trace_of p before)) + 1) (steps.Invoke client action ∷ before)
    else steps.Invoke client action ∷ before
