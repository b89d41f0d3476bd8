-- What the clients and clouds of the simulator stand for, after a trace.
use Rattle.std.specs.Prelude.{◌≡◌, ℕ, ◌+◌, ◌<◌, ◌≤◌, ◌^◌, true, List, ◌∷◌, length, slice_index_or, Option, Some, None, Result, IfOk}
use Rattle.std.specs.List.{list_any}
use Rattle.hy_base.specs.declared.failure.NoMemory.{NoMemory}
use Rattle.hy_base.specs.Shape.{IsShape}
use Rattle.hy_record.specs.declared.action.Action.{Action}
use Rattle.hy_record.specs.declared.turn.Cue.{Cue}
use Rattle.hy_record.specs.declared.turn.Cue.TheVariants as cues
use Rattle.hy_protocol.specs.Session.{Session, fresh_session}
use Rattle.hy_cloud.specs.declared.cloud.Cloud.{Cloud}
use Rattle.hy_cloud.specs.Objects.{StandsForWishes}
use Rattle.hy_trace.specs.declared.step.Step.{Step}
use Rattle.hy_trace.specs.Deeds.{Params, Deed, Start, served, granted, inputs_of, start_of, begun, joined, stops, is_joined}
use Rattle.hy_trace.specs.Schedule.{client_of, trace_of}
use Rattle.hy_trace.specs.Trace.{IsTrace}
use Rattle.hy_sched.specs.declared.params.Params.{Params as StoreParams}
use Rattle.hy_world.specs.declared.seat.Seat.{Seat}
use Rattle.hy_world.specs.declared.nodes.Nodes.{Nodes}
use Rattle.hy_log.specs.declared.effects.Effects.{Effects}
use Rattle.hy_world.specs.Schedules.{params_of}
use Rattle.hy_world.specs.Seats.{StandsForSeat}
use Rattle.hy_log.specs.Effects.{AreEffects}

-- what an operation was asked
abbrev pub action_of : Option Start → Option Action
action_of None = None
action_of (Some start) = Some start.action

-- the session of the client of this number
unfoldable pub session_of : Params → ℕ → List Deed → Session
session_of p c t = record {
  f = p.f;
  k = p.k;
  client = c;
  begun = begun c t;
  action = action_of (start_of c (begun c t) t);
  inputs = inputs_of c (begun c t) t;
  stopped = list_any (stops c) t;
}

-- whom an input goes to; 0 where it says nobody
abbrev pub addressee : Cue → ℕ
addressee (cues.Meta say) = client_of say
addressee (cues.Cloud reply) = reply.client
addressee cues.Tick = 0

-- clients and clouds stand for the trace: each client for its session, each cloud for the requests that it served
pub record NodesRun (p : Params) (t : List Deed) (params : StoreParams) (seats : List Seat) (clouds : List Cloud) : Type 0 where
  pub params_are : p ≡ params_of params
  pub shape_is : IsShape p.f p.k
  pub seat_count : length seats ≡ joined t
  pub standing : (i : ℕ) (other : Seat) → i < length seats →
      StandsForSeat (slice_index_or seats i other) (session_of p (i + 1) t)
  pub unborn : (c : ℕ) → joined t < c → session_of p c t ≡ fresh_session p.f p.k c
  pub nobody : session_of p 0 t ≡ fresh_session p.f p.k 0
  pub keeping : (i : ℕ) (other : Cloud) → i < length clouds →
      StandsForWishes (slice_index_or clouds i other) (granted i t)

-- those of these nodes do
abbrev pub NodesStand : Params → List Deed → Nodes → Type 0
NodesStand p t nodes = NodesRun p t nodes.params nodes.seats.items nodes.clouds.items

-- at the deed the service serves nothing, and nobody joins
pub record IsQuiet (d : Deed) (t : List Deed) : Type 0 where
  pub serves : served (d ∷ t) ≡ served t
  pub joins : joined (d ∷ t) ≡ joined t

-- the deed was done, and these are its effects
pub record IsDone (p : Params) (d : Deed) (t : List Deed) (e : Effects) (params : StoreParams) (seats : List Seat) (clouds : List Cloud) : Type 0 where
  pub effects : AreEffects p d t e
  pub nodes : NodesRun p (d ∷ t) params seats clouds
  pub quiet : IsQuiet d t

-- the nodes do the deed, in a trace with room for one more
abbrev pub Does : (Params → List Deed → Deed) → Nodes → Nodes → Result Effects NoMemory → Type 0
Does deed old new result = IfOk result (λ e. (p : Params) (t : List Deed) → IsTrace p t → length t + 1 < 2 ^ 32 →
    NodesStand p t old → IsDone p (deed p t) t e new.params new.seats.items new.clouds.items)

-- the client joined, and began an operation
pub record HasBegunIn (client : ℕ) (t : List Deed) : Type 0 where
  pub joined_is : is_joined client t ≡ true
  pub begun_is : 1 ≤ begun client t

abbrev pub HasBegun : Params → ℕ → List Step → Type 0
HasBegun p client steps = HasBegunIn client (trace_of p steps)
