-- Which schedules a text can tell.
use Rattle.std.specs.Prelude.{◌≡◌, ℕ, ◌≤◌, Bool, true, false, IsTrue, List, length, count_by}
use Rattle.std.specs.List.{AllByRecursion}
use Rattle.hy_base.specs.declared.limits.TheConstants.{MAX_COUNT, MAX_EVENTS, MAX_SESSIONS}
use Rattle.hy_record.specs.Key.{is_key}
use Rattle.hy_record.specs.Stamp.{Timestamp}
use Rattle.hy_record.specs.declared.cloud.CloudSay.{CloudSay}
use Rattle.hy_text.specs.Action.{IsTextAction}
use Rattle.hy_record.specs.declared.action.Action.{Action}
use Rattle.hy_text.specs.Stamp.{IsStampWithin}
use Rattle.hy_sched.specs.declared.event.Event.{Event}
use Rattle.hy_sched.specs.declared.event.Event.TheVariants.{Join, Do, Invoke, Give, Lie, Tick, Stop}
use Rattle.hy_sched.specs.declared.params.Params.{Params}
use Rattle.hy_sched.specs.declared.schedule.Schedule.{Schedule}
use Rattle.hy_sched.specs.Params.{is_liar, IsParams}
use Rattle.hy_sched.specs.Say.{IsTextSay}

-- a client joins
abbrev pub is_join : Event → Bool
is_join Join = true
is_join (Do client action) = false
is_join (Invoke client action) = false
is_join (Give number) = false
is_join (Lie cloud client op key stamp say) = false
is_join (Tick client) = false
is_join (Stop client) = false

-- how many clients join
abbrev pub joined_count : List Event → ℕ
joined_count events = count_by is_join events

-- the number of a client is in range
abbrev pub IsTextClient : ℕ → Type 0
IsTextClient client = (1 ≤ client) × (client ≤ MAX_SESSIONS)

-- the number of a message or of an operation is in range
abbrev pub IsTextNumber : ℕ → Type 0
IsTextNumber number = (1 ≤ number) × (number ≤ MAX_COUNT)

-- the answer is of a Byzantine cloud, and what it carries is in range
pub record IsTextLie (params : Params) (cloud client op : ℕ) (key : List ℕ) (stamp : Timestamp) (say : CloudSay)
    : Type 0 where
  pub liar : is_liar params cloud ≡ true
  pub addressee : IsTextClient client
  pub number : IsTextNumber op
  pub object : IsTrue (is_key key)
  pub version : IsStampWithin 1 MAX_SESSIONS stamp
  pub answer : IsTextSay say

-- what is asked for is in range: the client of a timestamp that a swap expects is one that can join, or 0
abbrev pub IsTextRequest : Action → Type 0
IsTextRequest action = IsTextAction MAX_SESSIONS action

-- what the event carries is in range, in a store of these parameters
abbrev pub IsTextEvent : Params → Event → Type 0
IsTextEvent params Join = Unit {0}
IsTextEvent params (Do client action) = IsTextClient client × IsTextRequest action
IsTextEvent params (Invoke client action) = IsTextClient client × IsTextRequest action
IsTextEvent params (Give number) = IsTextNumber number
IsTextEvent params (Lie cloud client op key stamp say) = IsTextLie params cloud client op key stamp say
IsTextEvent params (Tick client) = IsTextClient client
IsTextEvent params (Stop client) = IsTextClient client

-- a store can have these parameters, what its events carry is in range,
-- and there are no more events, and no more clients that join, than a schedule can have
pub record IsSchedule (schedule : Schedule) : Type 0 where
  pub params : IsParams schedule.params
  pub events : AllByRecursion (IsTextEvent schedule.params) schedule.events
  pub few : length schedule.events ≤ MAX_EVENTS
  pub joined : joined_count schedule.events ≤ MAX_SESSIONS
