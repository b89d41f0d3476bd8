-- The history of a trace: the operations that began, each with its reply, or with how far it is.
use Rattle.std.specs.Prelude.{ℕ, ◌+◌, List, [], ◌∷◌, length, map, reverse, Option, Some, None}
use Rattle.std.specs.Option.{option_or, option_map}
use Rattle.hy_record.specs.declared.action.Reply.{Reply}
use Rattle.hy_protocol.specs.Progress.{Progress, progress_of}
use Rattle.hy_order.specs.declared.operation.End.{End}
use Rattle.hy_order.specs.declared.operation.End.TheVariants.{Replied, Pending}
use Rattle.hy_order.specs.declared.operation.Operation.{Operation}
use Rattle.hy_trace.specs.Deeds.{Params, Deed, Joined, Began, Handed, Served, Granted, Stopped, Nothing, Start, inputs_of, reply_of}

-- when an operation replied, and what; steps are numbered from 1
pub record Return : Type 0 where
  pub at : ℕ
  pub reply : Reply

-- the return of this operation: the first step at which it has a reply
unfoldable pub return_of : Params → ℕ → ℕ → List Deed → Option Return
return_of p c o [] = None
return_of p c o (deed ∷ before) =
    option_or (return_of p c o before)
    (option_map (λ reply. record { at = length before + 1; reply = reply }) (reply_of p c o (deed ∷ before)))

-- an operation that began
pub record Begun : Type 0 where
  pub client : ℕ
  pub op : ℕ
  pub start : Start

-- with the operation that begins at the deed, if one does
abbrev pub with_begun : Deed → List Deed → List Begun → List Begun
with_begun (Began c o a) before ops = record { client = c; op = o; start = record { action = a; before = before } } ∷ ops
with_begun Joined before ops = ops
with_begun (Handed c o made cue) before ops = ops
with_begun (Served ask) before ops = ops
with_begun (Granted ask) before ops = ops
with_begun (Stopped c) before ops = ops
with_begun Nothing before ops = ops

-- the operations that began, the last first
unfoldable pub begun_of : List Deed → List Begun
begun_of [] = []
begun_of (deed ∷ before) = with_begun deed before (begun_of before)

-- how an operation ended, or how far it is
abbrev pub end_of : Option Return → Progress → End
end_of None progress = Pending progress.phase progress.have progress.need
end_of (Some r) progress = Replied r.at r.reply

-- the operation as a history tells it: its number counts those that began before it, from 1
abbrev pub operation_of : Params → List Deed → Begun → Operation
operation_of p t b =
    record {
      number = length (begun_of b.start.before) + 1;
      client = b.client;
      action = b.start.action;
      invoked = length b.start.before + 1;
      end = end_of (return_of p b.client b.op t) (progress_of p.f p.k b.client b.op b.start.action (inputs_of b.client b.op t));
    }

-- the operations, the first begun first
unfoldable pub history_of : Params → List Deed → List Operation
history_of p t = map (operation_of p t) (reverse (begun_of t))
