-- The trace of a schedule: what each of its steps does. Both have the newest first.
use Rattle.std.specs.Prelude.{ℕ, ◌+◌, Bool, ◌&&◌, ◌||◌, ◌==◌, not, nat_lt, List, [], ◌∷◌, Option, Some, None, is_some, if◌then◌else◌}
use Rattle.hy_base.specs.declared.limits.TheConstants.{MAX_SESSIONS}
use Rattle.hy_record.specs.declared.message.MetaSay.{MetaSay}
use Rattle.hy_record.specs.declared.message.MetaSay.TheVariants as says
use Rattle.hy_record.specs.declared.turn.Cue.{Cue}
use Rattle.hy_record.specs.declared.turn.Cue.TheVariants as cues
use Rattle.hy_protocol.specs.Inputs.{addresses}
use Rattle.hy_protocol.specs.Operations.{key_of, suits, replied}
use Rattle.hy_trace.specs.declared.step.Step.{Step}
use Rattle.hy_trace.specs.declared.step.Step.TheVariants as steps
use Rattle.hy_trace.specs.Deeds.{Params, Deed, Joined, Began, Handed, Served, Granted, Stopped, Nothing, Start, inputs_of, start_of, reply_of, begun, joined, is_joined, is_up}
use Rattle.hy_trace.specs.Messages.{Message, Ask, Say, Request, Answer, messages_of, message_at, step_of}

-- an operation that began so takes the input, where its client is up, it has no reply, and the input is for it
abbrev pub awaited : Params → ℕ → ℕ → ℕ → Cue → List Deed → Option Start → Deed
awaited p client op made cue trace None = Nothing
awaited p client op made cue trace (Some start) =
    if is_up client trace && not (is_some (replied p.f p.k client op start.action (inputs_of client op trace))) && addresses client op (key_of start.action) cue
    then Handed client op made cue else Nothing

-- the client is handed an input, which was made at this step: its last operation takes it, if it awaits it
unfoldable pub hand : Params → ℕ → ℕ → Cue → List Deed → Deed
hand p client made cue trace = awaited p client (begun client trace) made cue trace (start_of client (begun client trace) trace)

-- the client is up, and no operation of it awaits anything
unfoldable pub is_free : Params → ℕ → List Deed → Bool
is_free p client trace = is_up client trace && ((begun client trace == 0) || is_some (reply_of p client (begun client trace) trace))

-- whom an answer of the service goes to
abbrev pub client_of : MetaSay → ℕ
client_of (says.Has c o k r) = c
client_of (says.Applied c o k s) = c
client_of (says.Kept c o k s) = c
client_of (says.Fired c o k s) = c
client_of (says.OldList c o k ss) = c
client_of (says.Forgot c o k) = c
client_of (says.Swapped c o k s) = c
client_of (says.Changed c o k s) = c

-- what the delivery of a message does that was made at this step; a Byzantine cloud takes requests without effect
abbrev pub delivery : Params → List Deed → ℕ → Option Message → Deed
delivery p trace made None = Nothing
delivery p trace made (Some (Ask ask)) = Served ask
delivery p trace made (Some (Say say)) = hand p (client_of say) made (cues.Meta say) trace
delivery p trace made (Some (Request ask)) = if p.is_liar ask.cloud then Nothing else Granted ask
delivery p trace made (Some (Answer reply)) = hand p reply.client made (cues.Cloud reply) trace

-- what a step does
unfoldable pub deed_of : Params → Step → List Deed → Deed
deed_of p steps.Join trace = if nat_lt (joined trace) MAX_SESSIONS then Joined else Nothing
deed_of p (steps.Invoke client action) trace =
    if is_free p client trace && suits action then Began client (begun client trace + 1) action else Nothing
deed_of p (steps.Give number) trace = delivery p trace (step_of p number trace) (message_at number (messages_of p trace))
deed_of p (steps.Lie reply) trace = if p.is_liar reply.cloud then hand p reply.client 0 (cues.Cloud reply) trace else Nothing
deed_of p (steps.Tick client) trace = hand p client 0 cues.Tick trace
deed_of p (steps.Stop client) trace = if is_joined client trace then Stopped client else Nothing

-- the trace of a schedule's steps
unfoldable pub trace_of : Params → List Step → List Deed
trace_of p [] = []
trace_of p (step ∷ before) = deed_of p step (trace_of p before) ∷ trace_of p before
