-- What an operation does at an input, over all inputs that it was handed: those that are not for it change nothing, and nothing changes after its reply.
use Rattle.std.specs.Prelude.{ℕ, List, [], ◌∷◌, Option, None, is_some, if◌then◌else◌}
use Rattle.hy_record.specs.Stamp.{Timestamp}
use Rattle.hy_record.specs.declared.action.Reply.{Reply}
use Rattle.hy_record.specs.declared.turn.Cue.{Cue}
use Rattle.hy_record.specs.declared.turn.Out.{Out}
use Rattle.hy_record.specs.declared.turn.Turn.{Turn}
use Rattle.hy_protocol.specs.declared.plan.PutPlan.{PutPlan}
use Rattle.hy_protocol.specs.declared.plan.GetPlan.{GetPlan}
use Rattle.hy_protocol.specs.declared.plan.CollectPlan.{CollectPlan}
use Rattle.hy_protocol.specs.Inputs.{addresses, inputs_for}
use Rattle.hy_protocol.specs.Write.{write_sends, write_reply}
use Rattle.hy_protocol.specs.Swap.{swap_sends, swap_reply}
use Rattle.hy_protocol.specs.Read.{read_sends, read_reply, refresh_count}
use Rattle.hy_protocol.specs.Collect.{collect_sends, collect_reply}
use Rattle.hy_protocol.specs.Progress.{Progress, write_progress, read_progress, collect_progress}

-- nothing is sent or replied
abbrev pub quiet_turn : Turn
quiet_turn = record { sends = []; reply = None }

-- the reply, where it came at the last input
abbrev pub new_reply : Option Reply → Option Reply → Option Reply
new_reply before now = if is_some before then None else now

-- the turn at the last of these inputs, all of which are for the operation
unfoldable pub own_turn : (List Cue → List Out) → (List Cue → Option Reply) → List Cue → Turn
own_turn sends reply [] = record { sends = sends []; reply = None }
own_turn sends reply (cue ∷ before) = record { sends = sends (cue ∷ before); reply = new_reply (reply before) (reply (cue ∷ before)) }

-- the turn at the last input that the operation of this client, number and key was handed
unfoldable pub turn_of : (List Cue → List Out) → (List Cue → Option Reply) → ℕ → ℕ → List ℕ → List Cue → Turn
turn_of sends reply client op key [] = own_turn sends reply []
turn_of sends reply client op key (cue ∷ before) =
    if addresses client op key cue then own_turn sends reply (cue ∷ inputs_for client op key before) else quiet_turn

unfoldable pub put_turn : PutPlan → List Cue → Turn
put_turn plan inputs = turn_of (write_sends plan) (write_reply plan) plan.client plan.op plan.key inputs

unfoldable pub swap_turn : PutPlan → Timestamp → List Cue → Turn
swap_turn plan expected inputs = turn_of (swap_sends plan expected) (swap_reply plan expected) plan.client plan.op plan.key inputs

unfoldable pub get_turn : GetPlan → List Cue → Turn
get_turn plan inputs = turn_of (read_sends plan) read_reply plan.client plan.op plan.key inputs

unfoldable pub collect_turn : CollectPlan → List Cue → Turn
collect_turn plan inputs = turn_of (collect_sends plan) (collect_reply plan) plan.client plan.op plan.key inputs

-- how far the operation is, and from its reply on, how far it was then
unfoldable pub settled_progress : (List Cue → Option Reply) → (List Cue → Progress) → List Cue → Progress
settled_progress reply progress [] = progress []
settled_progress reply progress (cue ∷ before) =
    if is_some (reply before) then settled_progress reply progress before else progress (cue ∷ before)

unfoldable pub put_progress : PutPlan → List Cue → Progress
put_progress plan inputs = settled_progress (write_reply plan) (write_progress plan) (inputs_for plan.client plan.op plan.key inputs)

unfoldable pub swap_progress : PutPlan → Timestamp → List Cue → Progress
swap_progress plan expected inputs = settled_progress (swap_reply plan expected) (write_progress plan) (inputs_for plan.client plan.op plan.key inputs)

unfoldable pub get_progress : GetPlan → List Cue → Progress
get_progress plan inputs = settled_progress read_reply read_progress (inputs_for plan.client plan.op plan.key inputs)

unfoldable pub collect_progress_of : CollectPlan → List Cue → Progress
collect_progress_of plan inputs = settled_progress (collect_reply plan) (collect_progress plan) (inputs_for plan.client plan.op plan.key inputs)

-- how often the get asked for the record again
unfoldable pub get_rounds : GetPlan → List Cue → ℕ
get_rounds plan inputs = refresh_count (inputs_for plan.client plan.op plan.key inputs)
