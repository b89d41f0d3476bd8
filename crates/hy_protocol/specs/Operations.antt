-- The operations of a client, by what was asked: the protocol that each follows. Inputs are those for the operation, the newest first.
use Rattle.std.specs.Prelude.{ℕ, Bool, true, not, List, Option, Some, None}
use Rattle.hy_record.specs.Key.{is_cell}
use Rattle.hy_record.specs.declared.action.Action.{Action}
use Rattle.hy_record.specs.declared.action.Action.TheVariants as asked
use Rattle.hy_record.specs.declared.action.Reply.{Reply}
use Rattle.hy_record.specs.declared.turn.Cue.{Cue}
use Rattle.hy_record.specs.declared.turn.Out.{Out}
use Rattle.hy_protocol.specs.declared.plan.PutPlan.{PutPlan}
use Rattle.hy_protocol.specs.declared.plan.GetPlan.{GetPlan}
use Rattle.hy_protocol.specs.declared.plan.CollectPlan.{CollectPlan}
use Rattle.hy_protocol.specs.Write.{write_sends, write_reply}
use Rattle.hy_protocol.specs.Swap.{swap_sends, swap_reply}
use Rattle.hy_protocol.specs.Read.{read_sends, read_reply}
use Rattle.hy_protocol.specs.Collect.{collect_sends, collect_reply}

-- the key of an action
abbrev pub key_of : Action → List ℕ
key_of (asked.Put key value) = key
key_of (asked.Get key) = key
key_of (asked.Delete key) = key
key_of (asked.Collect key) = key
key_of (asked.Swap key expected value) = key

-- swaps alone write a cell key, and write no other
abbrev pub suits : Action → Bool
suits (asked.Put key value) = not (is_cell key)
suits (asked.Delete key) = not (is_cell key)
suits (asked.Swap key expected value) = is_cell key
suits (asked.Get key) = true
suits (asked.Collect key) = true

-- the value that an action is to store
abbrev pub value_of : Action → Option (List ℕ)
value_of (asked.Put key value) = Some value
value_of (asked.Swap key expected value) = Some value
value_of (asked.Get key) = None
value_of (asked.Delete key) = None
value_of (asked.Collect key) = None

-- the plan of a put of this value, or of a delete
abbrev pub write_plan : ℕ → ℕ → ℕ → ℕ → List ℕ → Option (List ℕ) → PutPlan
write_plan f k client op key value = record { client = client; op = op; key = key; value = value; f = f; k = k }

abbrev pub read_plan : ℕ → ℕ → List ℕ → GetPlan
read_plan client op key = record { client = client; op = op; key = key }

abbrev pub collect_plan : ℕ → ℕ → ℕ → ℕ → List ℕ → CollectPlan
collect_plan f k client op key = record { client = client; op = op; key = key; f = f; k = k }

-- what an operation in a store of this shape sends at its last input
unfoldable pub sends_of : ℕ → ℕ → ℕ → ℕ → Action → List Cue → List Out
sends_of f k client op (asked.Put key value) inputs = write_sends (write_plan f k client op key (Some value)) inputs
sends_of f k client op (asked.Delete key) inputs = write_sends (write_plan f k client op key None) inputs
sends_of f k client op (asked.Get key) inputs = read_sends (read_plan client op key) inputs
sends_of f k client op (asked.Collect key) inputs = collect_sends (collect_plan f k client op key) inputs
sends_of f k client op (asked.Swap key expected value) inputs = swap_sends (write_plan f k client op key (Some value)) expected inputs

-- what it replied, at its last input or before
unfoldable pub replied : ℕ → ℕ → ℕ → ℕ → Action → List Cue → Option Reply
replied f k client op (asked.Put key value) inputs = write_reply (write_plan f k client op key (Some value)) inputs
replied f k client op (asked.Delete key) inputs = write_reply (write_plan f k client op key None) inputs
replied f k client op (asked.Get key) inputs = read_reply inputs
replied f k client op (asked.Collect key) inputs = collect_reply (collect_plan f k client op key) inputs
replied f k client op (asked.Swap key expected value) inputs = swap_reply (write_plan f k client op key (Some value)) expected inputs
