-- What a get keeps of the inputs since it read its record.
use Rattle.std.specs.Prelude.{◌≡◌, ℕ, ◌+◌, ◌-◌, ◌<◌, ◌≤◌, Bool, true, not, min, nat_lt, nat_le, ◌&&◌, List, [], ◌∷◌, length, filter, Some, slice_get, Result, MatchResult, if◌then◌else◌}
use Rattle.std.specs.List.{list_any}
use Rattle.std.specs.Global.{Vec}
use Rattle.hy_base.specs.declared.failure.NoMemory.{NoMemory}
use Rattle.hy_record.specs.declared.action.Reply.TheVariants as told
use Rattle.hy_record.specs.declared.cloud.CloudReply.{CloudReply}
use Rattle.hy_record.specs.declared.cloud.CloudSay.TheVariants.{Body}
use Rattle.hy_record.specs.declared.turn.Cue.{Cue}
use Rattle.hy_record.specs.declared.turn.Out.{Out}
use Rattle.hy_record.specs.Record.{RecordValue, is_valid_fragment}
use Rattle.hy_record.specs.Clouds.{clouds_of}
use Rattle.hy_protocol.specs.declared.plan.GetPlan.{GetPlan}
use Rattle.hy_protocol.specs.Inputs.{is_answer}
use Rattle.hy_protocol.specs.Read.{is_valid_body, valid_picks, has_fired, timeouts, answer_for, get_at, sends_since}
use Rattle.hy_operation.specs.Marks.{is_marked}
use Rattle.hy_operation.specs.declared.marks.Marks.{Marks}
use Rattle.hy_get.specs.declared.fetch.Fetch.{Fetch}
use Rattle.hy_get.specs.declared.fetch.Heard.{Heard}
use Rattle.hy_get.specs.declared.fetch.Heard.TheVariants.{Requests, Value}
use Rattle.hy_get.specs.Requests.{watch_and_gets}

-- what is sent where so many attempts have failed
abbrev pub sends_at : GetPlan → RecordValue → List ℕ → ℕ → List Out
sends_at plan r holders attempts =
    if nat_le attempts r.f then get_at plan r (slice_get holders (r.k + attempts - 1)) else watch_and_gets plan r.stamp holders

-- what is sent where the failed attempts came from one number to another
abbrev pub sends_after : GetPlan → RecordValue → List ℕ → ℕ → ℕ → List Out
sends_after plan r holders before attempts = if nat_lt before attempts && nat_le attempts (r.f + 1) then sends_at plan r holders attempts else []

-- how many attempts failed: the holders that are marked, and the timeouts
abbrev pub attempts_of : List ℕ → Marks → ℕ → ℕ
attempts_of holders failed timeouts = length (filter (λ cloud. is_marked failed cloud) holders) + timeouts

-- the answer has these bytes, which its cloud was given to hold
pub record IsValidBody (r : RecordValue) (reply : CloudReply) (bytes : List ℕ) : Type 0 where
  pub body : reply.say ≡ Body bytes
  pub valid : is_valid_fragment r reply.cloud bytes ≡ true

-- the cloud gave an answer that is not valid
abbrev pub has_failed : RecordValue → ℕ → List Cue → Bool
has_failed r cloud since = list_any (is_answer (λ say. not (is_valid_body r cloud say)) r.stamp cloud) since

-- what is kept is what these inputs tell
pub record Follows (fetch : Fetch) (since : List Cue) : Type 0 where
  pub holders : fetch.holders.items ≡ clouds_of fetch.rec.clouds
  pub picks : fetch.picks.items ≡ valid_picks fetch.rec since
  pub failed : (i : ℕ) → i < 16 → is_marked fetch.failed i ≡ has_failed fetch.rec i since
  pub timeouts : fetch.timeouts ≡ min (timeouts fetch.rec since) 65535
  pub fired : fetch.fired ≡ has_fired fetch.rec since

-- and there are too few fragments
pub record Awaits (fetch : Fetch) (since : List Cue) : Type 0 where
  pub follows : Follows fetch since
  pub few : length fetch.picks.items < fetch.rec.k

-- at one more input this was sent, and fragments are still too few
pub record DoesSince (plan : GetPlan) (r : RecordValue) (since : List Cue) (cue : Cue) (sent : List Out) (after : Fetch) : Type 0 where
  pub sends : sent ≡ sends_since plan (Some r) cue since
  pub awaits : Awaits after (cue ∷ since)

-- at one more input there are fragments enough, and this is the value
pub record Completes (r : RecordValue) (since : List Cue) (cue : Cue) (value : List ℕ) (after : Fetch) : Type 0 where
  pub answer : answer_for (Some r) (cue ∷ since) ≡ Some (told.Value value r.stamp)
  pub follows : Follows after (cue ∷ since)
  pub enough : length after.picks.items ≤ after.rec.k

-- a step at an input that brings no fragment
abbrev pub Moves : GetPlan → Fetch → Fetch → Cue → Result (Vec Out) NoMemory → Type 0
Moves plan old new cue result = (since : List Cue) → Awaits old since → MatchResult result (λ sends. DoesSince plan old.rec since cue sends.items new) (λ _. Awaits new since)

-- after an answer of a cloud
abbrev pub HeardSince : GetPlan → RecordValue → List Cue → Cue → Fetch → Heard → Type 0
HeardSince plan r since cue after (Requests sends) = DoesSince plan r since cue sends.items after
HeardSince plan r since cue after (Value value) = Completes r since cue value after

-- a step at an answer of a cloud
abbrev pub Hears : GetPlan → Fetch → Fetch → Cue → Result Heard NoMemory → Type 0
Hears plan old new cue result = (since : List Cue) → Awaits old since → MatchResult result (λ heard. HeardSince plan old.rec since cue new heard) (λ _. Awaits new since)

-- a step at a valid answer, for whoever asks
abbrev pub Keeps : Fetch → Fetch → Cue → Result Heard NoMemory → Type 0
Keeps old new cue result = (plan : GetPlan) → Hears plan old new cue result
