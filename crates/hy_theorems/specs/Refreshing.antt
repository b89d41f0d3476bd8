-- The requests for the record that a get sends again.
use Rattle.std.specs.Prelude.{ℕ, ◌+◌, Bool, true, false, List, [], ◌∷◌, length, filter, if◌then◌else◌}
use Rattle.hy_record.specs.declared.message.MetaAsk.{MetaAsk}
use Rattle.hy_record.specs.declared.message.MetaAsk.TheVariants as asks
use Rattle.hy_record.specs.declared.turn.Cue.{Cue}
use Rattle.hy_record.specs.declared.turn.Out.{Out}
use Rattle.hy_record.specs.declared.turn.Out.TheVariants as outs
use Rattle.hy_protocol.specs.declared.plan.GetPlan.{GetPlan}
use Rattle.hy_protocol.specs.Inputs.{is_tick}
use Rattle.hy_protocol.specs.Read.{read_sends}

-- a request for the record
abbrev pub is_read : MetaAsk → Bool
is_read (asks.Read c o k) = true
is_read (asks.Update c o k r) = false
is_read (asks.Watch c o k s) = false
is_read (asks.Olds c o k) = false
is_read (asks.Forget c o k ss) = false
is_read (asks.Swap c o k e r) = false

abbrev pub asks_for_record : Out → Bool
asks_for_record (outs.Meta ask) = is_read ask
asks_for_record (outs.Cloud ask) = false

-- the requests for the record that the get sent at these inputs, the first one and those upon a timeout left out
unfoldable pub reads_sent_again : GetPlan → List Cue → ℕ
reads_sent_again plan [] = 0
reads_sent_again plan (cue ∷ before) =
    if is_tick cue then reads_sent_again plan before
    else reads_sent_again plan before + length (filter asks_for_record (read_sends plan (cue ∷ before)))
