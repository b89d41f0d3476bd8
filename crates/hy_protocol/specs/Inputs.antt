-- The inputs of an operation: which operation each is for, and what it tells. Lists of inputs have the newest first.
use Rattle.std.specs.Prelude.{ℕ, Bool, true, false, ◌&&◌, ◌==◌, List, [], ◌∷◌, Option, Some, None, if◌then◌else◌}
use Rattle.hy_record.specs.declared.message.MetaSay.{MetaSay}
use Rattle.hy_record.specs.declared.message.MetaSay.TheVariants as says
use Rattle.hy_record.specs.Stamp.{Timestamp, stamp_eq}
use Rattle.hy_record.specs.Key.{key_eq}
use Rattle.hy_record.specs.Record.{RecordValue}
use Rattle.hy_record.specs.declared.turn.Cue.{Cue}
use Rattle.hy_record.specs.declared.turn.Cue.TheVariants as cues
use Rattle.hy_record.specs.declared.cloud.CloudSay.{CloudSay}
use Rattle.hy_record.specs.declared.cloud.CloudSay.TheVariants.{Stored, Conflict, Body, Missing, Gone, Bad}

-- the service's answer is for this operation
abbrev pub says_to : ℕ → ℕ → List ℕ → MetaSay → Bool
says_to client op key (says.Has c o k r) = c == client && o == op && key_eq k key
says_to client op key (says.Applied c o k s) = c == client && o == op && key_eq k key
says_to client op key (says.Kept c o k s) = c == client && o == op && key_eq k key
says_to client op key (says.Fired c o k s) = c == client && o == op && key_eq k key
says_to client op key (says.OldList c o k ss) = c == client && o == op && key_eq k key
says_to client op key (says.Forgot c o k) = c == client && o == op && key_eq k key
says_to client op key (says.Swapped c o k s) = c == client && o == op && key_eq k key
says_to client op key (says.Changed c o k s) = c == client && o == op && key_eq k key

-- the input is for this operation
unfoldable pub addresses : ℕ → ℕ → List ℕ → Cue → Bool
addresses client op key (cues.Meta say) = says_to client op key say
addresses client op key (cues.Cloud reply) = reply.client == client && reply.op == op && key_eq reply.key key
addresses client op key cues.Tick = true

-- the record that an answer tells
abbrev pub has_of : Cue → Option (Option RecordValue)
has_of (cues.Meta (says.Has c o k r)) = Some r
has_of (cues.Meta (says.Applied c o k s)) = None
has_of (cues.Meta (says.Kept c o k s)) = None
has_of (cues.Meta (says.Fired c o k s)) = None
has_of (cues.Meta (says.OldList c o k ss)) = None
has_of (cues.Meta (says.Forgot c o k)) = None
has_of (cues.Meta (says.Swapped c o k s)) = None
has_of (cues.Meta (says.Changed c o k s)) = None
has_of (cues.Cloud reply) = None
has_of cues.Tick = None

-- the service applied or refused an update
abbrev pub is_update_answer : Cue → Bool
is_update_answer (cues.Meta (says.Applied c o k s)) = true
is_update_answer (cues.Meta (says.Kept c o k s)) = true
is_update_answer (cues.Meta (says.Has c o k r)) = false
is_update_answer (cues.Meta (says.Fired c o k s)) = false
is_update_answer (cues.Meta (says.OldList c o k ss)) = false
is_update_answer (cues.Meta (says.Forgot c o k)) = false
is_update_answer (cues.Meta (says.Swapped c o k s)) = false
is_update_answer (cues.Meta (says.Changed c o k s)) = false
is_update_answer (cues.Cloud reply) = false
is_update_answer cues.Tick = false

-- the service tells that the record has a timestamp above this one
abbrev pub is_fired : Timestamp → Cue → Bool
is_fired stamp (cues.Meta (says.Fired c o k s)) = stamp_eq s stamp
is_fired stamp (cues.Meta (says.Has c o k r)) = false
is_fired stamp (cues.Meta (says.Applied c o k s)) = false
is_fired stamp (cues.Meta (says.Kept c o k s)) = false
is_fired stamp (cues.Meta (says.OldList c o k ss)) = false
is_fired stamp (cues.Meta (says.Forgot c o k)) = false
is_fired stamp (cues.Meta (says.Swapped c o k s)) = false
is_fired stamp (cues.Meta (says.Changed c o k s)) = false
is_fired stamp (cues.Cloud reply) = false
is_fired stamp cues.Tick = false

-- the superseded timestamps that an answer lists
abbrev pub olds_of : Cue → Option (List Timestamp)
olds_of (cues.Meta (says.OldList c o k ss)) = Some ss
olds_of (cues.Meta (says.Has c o k r)) = None
olds_of (cues.Meta (says.Applied c o k s)) = None
olds_of (cues.Meta (says.Kept c o k s)) = None
olds_of (cues.Meta (says.Fired c o k s)) = None
olds_of (cues.Meta (says.Forgot c o k)) = None
olds_of (cues.Meta (says.Swapped c o k s)) = None
olds_of (cues.Meta (says.Changed c o k s)) = None
olds_of (cues.Cloud reply) = None
olds_of cues.Tick = None

-- the service forgot the timestamps
abbrev pub is_forgot : Cue → Bool
is_forgot (cues.Meta (says.Forgot c o k)) = true
is_forgot (cues.Meta (says.OldList c o k ss)) = false
is_forgot (cues.Meta (says.Has c o k r)) = false
is_forgot (cues.Meta (says.Applied c o k s)) = false
is_forgot (cues.Meta (says.Kept c o k s)) = false
is_forgot (cues.Meta (says.Fired c o k s)) = false
is_forgot (cues.Meta (says.Swapped c o k s)) = false
is_forgot (cues.Meta (says.Changed c o k s)) = false
is_forgot (cues.Cloud reply) = false
is_forgot cues.Tick = false

-- a retransmission timeout
abbrev pub is_tick : Cue → Bool
is_tick cues.Tick = true
is_tick (cues.Meta say) = false
is_tick (cues.Cloud reply) = false

-- the cloud holds the bytes
abbrev pub is_stored : CloudSay → Bool
is_stored (Stored fresh) = true
is_stored Conflict = false
is_stored (Body bytes) = false
is_stored Missing = false
is_stored Gone = false
is_stored (Bad code) = false

-- the cloud holds nothing any more
abbrev pub is_gone : CloudSay → Bool
is_gone Gone = true
is_gone (Stored fresh) = false
is_gone Conflict = false
is_gone (Body bytes) = false
is_gone Missing = false
is_gone (Bad code) = false

-- the input is an answer of the cloud for the timestamp that passes the test
abbrev pub is_answer : (CloudSay → Bool) → Timestamp → ℕ → Cue → Bool
is_answer test stamp cloud (cues.Cloud reply) = reply.cloud == cloud && stamp_eq reply.stamp stamp && test reply.say
is_answer test stamp cloud (cues.Meta say) = false
is_answer test stamp cloud cues.Tick = false

-- the inputs of this operation among these
unfoldable pub inputs_for : ℕ → ℕ → List ℕ → List Cue → List Cue
inputs_for client op key [] = []
inputs_for client op key (cue ∷ before) = if addresses client op key cue then cue ∷ inputs_for client op key before else inputs_for client op key before
