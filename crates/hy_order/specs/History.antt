-- Histories: operations numbered from 1, each with an end that its action can have.
use Rattle.std.specs.Prelude.{◌≡◌, ℕ, ◌+◌, Bool, true, false, not, IsTrue, List, [], ◌∷◌}
use Rattle.std.specs.List.{AllByRecursion}
use Rattle.hy_record.specs.Key.{is_cell}
use Rattle.hy_record.specs.declared.action.Action.{Action}
use Rattle.hy_record.specs.declared.action.Action.TheVariants as asked
use Rattle.hy_record.specs.declared.action.Reply.{Reply}
use Rattle.hy_record.specs.declared.action.Reply.TheVariants as told
use Rattle.hy_record.specs.declared.action.Phase.{Phase}
use Rattle.hy_record.specs.declared.action.Phase.TheVariants as phase
use Rattle.hy_order.specs.declared.operation.End.{End}
use Rattle.hy_order.specs.declared.operation.End.TheVariants.{Replied, Pending}
use Rattle.hy_order.specs.declared.operation.Operation.{Operation}

-- the key of an action
abbrev pub key_of_action : Action → List ℕ
key_of_action (asked.Put key value) = key
key_of_action (asked.Get key) = key
key_of_action (asked.Delete key) = key
key_of_action (asked.Collect key) = key
key_of_action (asked.Swap key expected value) = key

-- swaps alone write a cell key, and write no other
abbrev pub is_own_key : Action → Bool
is_own_key (asked.Put key value) = not (is_cell key)
is_own_key (asked.Delete key) = not (is_cell key)
is_own_key (asked.Swap key expected value) = is_cell key
is_own_key (asked.Get key) = true
is_own_key (asked.Collect key) = true

-- the reply is one that the action can have
abbrev pub is_reply_of : Action → Reply → Bool
is_reply_of (asked.Put key value) (told.Done stamp) = true
is_reply_of (asked.Put key value) (told.Exhausted stamp) = true
is_reply_of (asked.Delete key) (told.Done stamp) = true
is_reply_of (asked.Delete key) (told.Exhausted stamp) = true
is_reply_of (asked.Get key) (told.Value value stamp) = true
is_reply_of (asked.Get key) (told.Absent stamp) = true
is_reply_of (asked.Collect key) (told.Collected count) = true
is_reply_of (asked.Swap key expected value) (told.Swapped stamp) = true
is_reply_of (asked.Swap key expected value) (told.Changed stamp) = true
is_reply_of (asked.Swap key expected value) (told.Exhausted stamp) = true
is_reply_of action reply = false

-- the phase is one that the action can be in
abbrev pub is_phase_of : Action → Phase → Bool
is_phase_of (asked.Put key value) phase.Read = true
is_phase_of (asked.Put key value) phase.Store = true
is_phase_of (asked.Put key value) phase.Update = true
is_phase_of (asked.Delete key) phase.Read = true
is_phase_of (asked.Delete key) phase.Update = true
is_phase_of (asked.Get key) phase.Read = true
is_phase_of (asked.Get key) phase.Fetch = true
is_phase_of (asked.Get key) phase.Watch = true
is_phase_of (asked.Get key) phase.Reread = true
is_phase_of (asked.Collect key) phase.Olds = true
is_phase_of (asked.Collect key) phase.Drop = true
is_phase_of (asked.Collect key) phase.Forget = true
is_phase_of (asked.Swap key expected value) phase.Read = true
is_phase_of (asked.Swap key expected value) phase.Store = true
is_phase_of (asked.Swap key expected value) phase.Update = true
is_phase_of action at = false

-- the end is one that the action can have
abbrev pub is_end_of : Action → End → Bool
is_end_of action (Replied at reply) = is_reply_of action reply
is_end_of action (Pending at have need) = is_phase_of action at

-- the operations have the numbers from this one on
abbrev pub IsNumberedFrom : ℕ → List Operation → Type 0
IsNumberedFrom number [] = Unit {0}
IsNumberedFrom number (op ∷ ops) = (op.number ≡ number) × IsNumberedFrom (number + 1) ops

-- numbered from 1, each on a key of its own kind, with an end that its action can have
pub record IsHistory (ops : List Operation) : Type 0 where
  pub numbered : IsNumberedFrom 1 ops
  pub keys : AllByRecursion (λ op. IsTrue (is_own_key op.action)) ops
  pub ends : AllByRecursion (λ op. IsTrue (is_end_of op.action op.end)) ops
