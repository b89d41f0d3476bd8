-- The requests of a get.
use Rattle.std.specs.Prelude.{ℕ, List, ◌∷◌}
use Rattle.hy_record.specs.declared.message.MetaAsk.TheVariants as asks
use Rattle.hy_record.specs.declared.turn.Out.{Out}
use Rattle.hy_record.specs.declared.turn.Out.TheVariants as outs
use Rattle.hy_record.specs.Stamp.{Timestamp}
use Rattle.hy_protocol.specs.declared.plan.GetPlan.{GetPlan}
use Rattle.hy_protocol.specs.Read.{gets_from}
use Rattle.hy_operation.specs.declared.issuer.Issuer.{Issuer}

-- the plan of the get of this client, number and key
abbrev pub plan_of : Issuer → GetPlan
plan_of issuer = record { client = issuer.client; op = issuer.op; key = issuer.key }

-- a watch of the timestamp, and requests for what these clouds hold
abbrev pub watch_and_gets : GetPlan → Timestamp → List ℕ → List Out
watch_and_gets plan stamp clouds = outs.Meta (asks.Watch plan.client plan.op plan.key stamp) ∷ gets_from plan stamp clouds
