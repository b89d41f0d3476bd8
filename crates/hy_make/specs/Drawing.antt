-- What is drawn of a seed: events, one after the other. Every number of a row is drawn, in the order that stands here.
use Rattle.std.specs.Prelude.{ℕ, ◌+◌, ◌%◌, ◌==◌, nat_lt, nat_le, true, List, [], ◌∷◌, codes, if◌then◌else◌}
use Rattle.rand_core.specs.Pcg32Seed.{pcg32_seed}
use Rattle.rand_pcg.specs.Pcg.{pcg32, pcg32_of_seed}
use Rattle.hy_record.specs.declared.action.Action.{Action}
use Rattle.hy_record.specs.declared.action.Action.TheVariants.{Put, Get, Delete, Collect}
use Rattle.hy_record.specs.declared.cloud.CloudSay.{CloudSay}
use Rattle.hy_record.specs.declared.cloud.CloudSay.TheVariants.{Stored, Missing, Body}
use Rattle.hy_sched.specs.declared.event.Event.{Event}
use Rattle.hy_sched.specs.declared.event.Event.TheVariants.{Invoke, Give, Lie, Tick}
use Rattle.hy_make.specs.declared.drawer.Drawer.{Drawer}

-- the drawer of a seed, which has passed no message
abbrev pub drawer_of : ℕ → Drawer
drawer_of seed = record { random = pcg32_of_seed (pcg32_seed 16 seed); cursor = 0 }

-- a number below the limit: the remainder of the generator's next word; and the drawer after it
unfoldable pub draw : ℕ → Drawer → ℕ × Drawer
draw limit drawer = ((pcg32 drawer.random).0 % limit, record drawer { random = (pcg32 drawer.random).1 })

-- the key of a number
unfoldable pub key_drawn : ℕ → List ℕ
key_drawn number = if number == 0 then codes "a" else codes "b"

-- the action of a number on a key; a put stores the one byte
unfoldable pub action_drawn : ℕ → List ℕ → ℕ → Action
action_drawn number key byte =
    if nat_le number 2 then Put key (byte ∷ [])
    else if nat_le number 5 then Get key
    else if number == 6 then Delete key
    else Collect key

-- the forged answer of a number
unfoldable pub say_drawn : ℕ → CloudSay
say_drawn number =
    if number == 0 then Stored true
    else if number == 1 then Missing
    else if number == 2 then Body (0 ∷ [])
    else Body (1 ∷ [])

-- the drawer has passed one message more, where more were sent
unfoldable pub passed : ℕ → Drawer → Drawer
passed sent drawer = record drawer { cursor = if nat_lt drawer.cursor sent then drawer.cursor + 1 else drawer.cursor }

-- a client is asked for an operation
unfoldable pub invocation : Drawer → Event × Drawer
invocation drawer =
    let client = draw 4 drawer in
    let key = draw 2 client.1 in
    let kind = draw 8 key.1 in
    let byte = draw 256 kind.1 in
    (Invoke (1 + client.0) (action_drawn kind.0 (key_drawn key.0) byte.0), byte.1)

-- a timeout of a client
unfoldable pub timeout : Drawer → Event × Drawer
timeout drawer = let client = draw 4 drawer in (Tick (1 + client.0), client.1)

-- the first message that was not passed is delivered; where each was passed, a timeout
unfoldable pub next_delivery : ℕ → Drawer → Event × Drawer
next_delivery sent drawer =
    let other = timeout drawer in
    (if nat_lt drawer.cursor sent then Give (drawer.cursor + 1) else other.0, passed sent other.1)

-- some message is delivered, if it was sent
unfoldable pub any_delivery : Drawer → Event × Drawer
any_delivery drawer = let number = draw 65536 drawer in (Give (1 + number.0), number.1)

-- the first message that was not passed is lost for now, and a timeout
unfoldable pub loss : ℕ → Drawer → Event × Drawer
loss sent drawer = let other = timeout drawer in (other.0, passed sent other.1)

-- an answer of cloud 0 is forged
unfoldable pub forgery : Drawer → Event × Drawer
forgery drawer =
    let client = draw 4 drawer in
    let op = draw 8 client.1 in
    let key = draw 2 op.1 in
    let sn = draw 8 key.1 in
    let cid = draw 4 sn.1 in
    let say = draw 4 cid.1 in
    (Lie 0 (1 + client.0) (1 + op.0) (key_drawn key.0) (record { sn = 1 + sn.0; cid = 1 + cid.0 }) (say_drawn say.0), say.1)

-- the event of a row, where so many messages were sent, and the drawer after it
unfoldable pub event_of_row : ℕ → ℕ → Drawer → Event × Drawer
event_of_row row sent drawer =
    if nat_le row 2 then invocation drawer
    else if nat_le row 11 then next_delivery sent drawer
    else if row == 12 then any_delivery drawer
    else if row == 13 then loss sent drawer
    else if row == 14 then timeout drawer
    else forgery drawer

-- the next event, where so many messages were sent, and the drawer after it
unfoldable pub next_event : ℕ → Drawer → Event × Drawer
next_event sent drawer = let row = draw 16 drawer in event_of_row row.0 sent row.1
