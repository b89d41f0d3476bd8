-- What each part of a client over a net does to the states that it stands for.
use Rattle.std.specs.Prelude.{◌≡◌, ◌==◌, ℕ, Bool, false, List, [], ◌∷◌, ◌++◌, Option, Some, None, Result, Ok, Err}
use Rattle.hy_base.specs.declared.arrival.Arrived.{Arrived}
use Rattle.hy_base.specs.Moves.{Move, called, close}
use Rattle.hy_client.specs.declared.fault.InvokeFault.{InvokeFault}
use Rattle.hy_client.specs.declared.fault.InvokeFault.TheVariants as invoking
use Rattle.hy_cwire.specs.declared.kind.WishKind.{WishKind}
use Rattle.hy_mwire.specs.declared.message.Message.{Message}
use Rattle.hy_mwire.specs.Front.{front_at, message}
use Rattle.hy_record.specs.declared.action.Reply.{Reply}
use Rattle.hy_record.specs.declared.cloud.CloudAsk.{CloudAsk}
use Rattle.hy_record.specs.declared.cloud.CloudSay.TheVariants.{Bad}
use Rattle.hy_record.specs.declared.message.MetaAsk.{MetaAsk}
use Rattle.hy_record.specs.declared.turn.Cue.{Cue}
use Rattle.hy_record.specs.declared.turn.Out.{Out}
use Rattle.hy_record.specs.declared.turn.Out.TheVariants as outs
use Rattle.hy_protocol.specs.Session.{Session}
use Rattle.hy_drive.specs.declared.driver.Driver.{Driver}
use Rattle.hy_drive.specs.declared.driver.Next.{Next}
use Rattle.hy_drive.specs.declared.driver.Next.TheVariants.{Send, Again, Idle, Replied}
use Rattle.hy_drive.specs.declared.errand.Errand.{Errand}
use Rattle.hy_drive.specs.declared.fault.DriveFault.{DriveFault}
use Rattle.hy_drive.specs.declared.fault.DriveFault.TheVariants.{NetFault, SessionsFull, TooLarge, NotYet, NoMemory}
use Rattle.hy_drive.specs.declared.job.Job.{Job}
use Rattle.hy_drive.specs.declared.service_line.ServiceLine.{ServiceLine}
use Rattle.hy_drive.specs.declared.settling.Step.{Step}
use Rattle.hy_drive.specs.declared.settling.Step.TheVariants as steps
use Rattle.hy_drive.specs.State.{DriveState, Service, live, over, Pending, nothing, closing, going, replied, full, refused, broken, drive_begun, with_line, answer_to, IsFree, IsSettled, IsIdle}
use Rattle.hy_drive.specs.Judging.{kind_of}
use Rattle.hy_drive.specs.Arriving.{drive_took}
use Rattle.hy_drive.specs.Going.{DriveGoes, too_large, passed, invoked}
use Rattle.hy_drive.specs.Role.{DriveLeads, DrivesOn, Count, count_at, Suits}
use Rattle.hy_drive.specs.Held.{errand_of}
use Rattle.hy_drive.specs.Standing.{StandsFor, IsSome, IsResting, IsSendableOut}

-- Join was sent on this connection
abbrev pub joined_state : ℕ → ℕ → DriveState
joined_state arrivals conn = record (drive_begun arrivals) { service = live conn [] 0 }

abbrev pub is_service_of : Option ServiceLine → ℕ → Bool
is_service_of None conn = false
is_service_of (Some line) conn = line.conn == conn

-- ---- an arrival

-- the state behind the arrival, or the one behind the judgement that it calls for
pub data Judges (job : Job) (mid : DriveState) : DriveState → Type 0 where
  stays : Judges job mid mid
  judges : (after : DriveState) → DriveGoes job mid after → Judges job mid after

-- the connection that is to be closed
abbrev pub pending_of : Option ℕ → Pending
pending_of None = nothing
pending_of (Some conn) = closing conn

-- the arrival was taken
pub record Reacts (job : Job) (state : DriveState) (a : Arrived)
    (new : Driver)
    (done : Option ℕ) : Type 0 where
  pub after : DriveState
  pub judges : Judges job (drive_took state a) after
  pub stands : StandsFor job new after
  pub pending : after.pending ≡ pending_of done
  pub goes : after.outcome ≡ going
  pub left : after.left ≡ state.left

abbrev pub Takes : Driver → Driver → Arrived → Option ℕ → Type 0
Takes old new a done = (job : Job) (state : DriveState)
    → IsIdle state
    → StandsFor job old state
    → Reacts job state a new done

-- ---- what comes next

-- the first message is taken to be sent
pub record Sends (job : Job) (state : DriveState) (new : Driver) (out : Out) : Type 0 where
  pub later : List Out
  pub is : state.sends ≡ out ∷ later
  pub stands : StandsFor job new (record state { sends = later })
  pub sendable : IsSendableOut out

-- one step was done
pub record Steps (job : Job) (state : DriveState) (new : Driver) : Type 0 where
  pub after : DriveState
  pub goes : DriveGoes job state after
  pub free : IsFree after
  pub stands : StandsFor job new after
  pub left : after.left ≡ state.left

-- nothing is to be done but to wait, behind a fault of the service's stream if there was one
pub record Rests (job : Job) (state : DriveState) (new : Driver) : Type 0 where
  pub after : DriveState
  pub judges : Judges job state after
  pub idle : IsIdle after
  pub stands : StandsFor job new after
  pub left : after.left ≡ state.left

-- the reply came
pub record RepliesWith (job : Job) (state : DriveState) (reply : Reply) : Type 0 where
  pub after : DriveState
  pub goes : DriveGoes job state after
  pub replies : after.outcome ≡ replied reply
  pub suits : Suits job.action reply

-- how a state shows why a client ended
abbrev pub FaultAt : DriveFault → DriveState → Type 0
FaultAt NetFault state = state.outcome ≡ broken
FaultAt SessionsFull state = state.outcome ≡ full
FaultAt (TooLarge size) state = state.outcome ≡ refused size
FaultAt (NotYet have need) state = ⊥
FaultAt NoMemory state = Unit {0}

-- a value is called too large only where it is
abbrev pub IsLarge : Job → DriveFault → Type 0
IsLarge job (TooLarge size) = too_large job.action ≡ Some size
IsLarge job NetFault = Unit {0}
IsLarge job SessionsFull = Unit {0}
IsLarge job (NotYet have need) = Unit {0}
IsLarge job NoMemory = Unit {0}

abbrev pub OnLarge : {A : Type 0} → Job → Result A DriveFault → Type 0
OnLarge job (Ok value) = Unit {0}
OnLarge job (Err fault) = IsLarge job fault

-- the step ended it
pub record EndsBy (job : Job) (state : DriveState) (fault : DriveFault) : Type 0 where
  pub after : DriveState
  pub goes : DriveGoes job state after
  pub shows : FaultAt fault after
  pub large : IsLarge job fault

abbrev pub Refuses : Job → DriveState → DriveFault → Type 0
Refuses job state NoMemory = Unit {0}
Refuses job state NetFault = ⊥
Refuses job state (NotYet have need) = ⊥
Refuses job state SessionsFull = EndsBy job state SessionsFull
Refuses job state (TooLarge size) = EndsBy job state (TooLarge size)

-- what came next
abbrev pub Follows : Job → DriveState → Driver → Result Next DriveFault → Type 0
Follows job state new (Ok (Send out)) = Sends job state new out
Follows job state new (Ok Again) = Steps job state new
Follows job state new (Ok Idle) = Rests job state new
Follows job state new (Ok (Replied reply)) = RepliesWith job state reply
Follows job state new (Err fault) = Refuses job state fault

-- the first input was handed in
abbrev pub Hands : Job → Driver → Driver → Cue → Result Next DriveFault → Type 0
Hands job old new input result = (state : DriveState) (later : List Cue)
    → IsFree state
    → state.sends ≡ []
    → state.inputs ≡ input ∷ later
    → StandsFor job old (record state { inputs = later })
    → Follows job state new result

-- the message in front was heard
abbrev pub Tells : Job → Driver → Driver → Message → Result Next DriveFault → Type 0
Tells job old new said result =
    (state : DriveState) (conn : ℕ) (rest : List ℕ) (place size : ℕ)
    → IsSettled state
    → state.service ≡ live conn rest place
    → front_at place rest ≡ message said size
    → StandsFor job old (passed state conn rest place size)
    → Follows job state new result

-- with a client, or without one
abbrev pub HearsAnswer : Driver → Driver → Message → Result Next DriveFault → Type 0
HearsAnswer old new said result =
    (job : Job) (state : DriveState) (conn : ℕ) (rest : List ℕ) (place size : ℕ) (s : Session)
    → state.client ≡ Some s
    → IsSettled state
    → state.service ≡ live conn rest place
    → front_at place rest ≡ message said size
    → StandsFor job old (passed state conn rest place size)
    → Follows job state new result

abbrev pub HearsSession : Job → Driver → Driver → Message → Result Next DriveFault → Type 0
HearsSession job old new said result =
    (state : DriveState) (conn : ℕ) (rest : List ℕ) (place size : ℕ)
    → state.client ≡ None
    → IsSettled state
    → state.service ≡ live conn rest place
    → front_at place rest ≡ message said size
    → StandsFor job old (passed state conn rest place size)
    → Follows job state new result

-- the client began the action, or its value is too large
abbrev pub BeginsTo : Job → DriveState → Driver → Result Next DriveFault → Type 0
BeginsTo job after new (Ok Again) = (StandsFor job new after) × (after.outcome ≡ going)
BeginsTo job after new (Err (TooLarge size)) =
    (after.outcome ≡ refused size) × (too_large job.action ≡ Some size)
BeginsTo job after new (Err NoMemory) = Unit {0}
BeginsTo job after new (Err NetFault) = ⊥
BeginsTo job after new (Err SessionsFull) = ⊥
BeginsTo job after new (Err (NotYet have need)) = ⊥
BeginsTo job after new (Ok (Send out)) = ⊥
BeginsTo job after new (Ok Idle) = ⊥
BeginsTo job after new (Ok (Replied reply)) = ⊥

abbrev pub Begins : Job → Driver → Driver → ℕ → Result Next DriveFault → Type 0
Begins job old new number result = (state : DriveState)
    → state.client ≡ None
    → state.sends ≡ []
    → state.outcome ≡ going
    → StandsFor job old state
    → BeginsTo job (invoked job state number) new result

-- why a new client does not begin an action whose key is of its kind
abbrev pub Refused : InvokeFault → DriveFault → Type 0
Refused (invoking.TooLarge size) fault = fault ≡ TooLarge size
Refused invoking.NoMemory fault = fault ≡ NoMemory
Refused other fault = ⊥

-- a new client can refuse such an action with this
abbrev pub IsOfNewClient : InvokeFault → Type 0
IsOfNewClient (invoking.TooLarge size) = Unit {0}
IsOfNewClient invoking.NoMemory = Unit {0}
IsOfNewClient other = ⊥

-- ---- the parts that calls change

abbrev pub ServiceIs : Service → Option ℕ → Type 0
ServiceIs service None = service ≡ over
ServiceIs service (Some conn) = (rest : List ℕ) × (place : ℕ) × (service ≡ live conn rest place)

abbrev pub HasService : Driver → Option ℕ → Type 0
HasService driver conn = (job : Job) (state : DriveState)
    → StandsFor job driver state
    → ServiceIs state.service conn

abbrev pub Awaited : Driver → Driver → ℕ → Errand → WishKind → Type 0
Awaited old new conn errand asked = (job : Job) (state : DriveState) (ask : CloudAsk)
    → StandsFor job old state
    → errand ≡ errand_of ask
    → asked ≡ kind_of ask.wish.act
    → StandsFor job new (with_line state conn (Some (record { ask = ask; bytes = [] })))

abbrev pub Lost : Driver → Driver → Errand → Type 0
Lost old new errand = (job : Job) (state : DriveState) (ask : CloudAsk)
    → StandsFor job old state
    → errand ≡ errand_of ask
    → StandsFor job new (record state { inputs = state.inputs ++ answer_to ask (Bad 0) ∷ [] })

abbrev pub not_yet_at : Count → DriveFault
not_yet_at count = NotYet count.have count.need

abbrev pub Counts : Driver → DriveFault → Type 0
Counts driver fault = (job : Job) (state : DriveState)
    → StandsFor job driver state
    → fault ≡ not_yet_at (count_at state.client)

-- ---- moves

-- the moves led to a state in which it goes on
pub record MovesOn (job : Job) (state : DriveState)
    (new : Driver)
    (moves : List Move) : Type 0 where
  pub after : DriveState
  pub course : DriveLeads job state moves after
  pub free : IsFree after
  pub stands : StandsFor job new after
  pub left : after.left ≡ state.left

-- the moves led to a state that shows why it ended
pub record Stops (job : Job) (state : DriveState)
    (fault : DriveFault)
    (moves : List Move) : Type 0 where
  pub after : DriveState
  pub course : DriveLeads job state moves after
  pub shows : FaultAt fault after

abbrev pub Moved : Job → DriveState → Driver → Result Unit DriveFault → List Move → Type 0
Moved job state new (Ok done) moves = MovesOn job state new moves
Moved job state new (Err fault) moves = Stops job state fault moves

-- the message was sent
abbrev pub SendsOut : Job → Driver → Driver → Out → Result Unit DriveFault → List Move → Type 0
SendsOut job old new out result moves = (state : DriveState) (later : List Out)
    → IsFree state
    → state.sends ≡ out ∷ later
    → StandsFor job old (record state { sends = later })
    → Moved job state new result moves

abbrev pub AsksService : Driver → MetaAsk → Result Unit DriveFault → List Move → Type 0
AsksService driver ask result moves =
    (job : Job) → SendsOut job driver driver (outs.Meta ask) result moves

abbrev pub AsksCloud :
    Job → Driver → Driver → CloudAsk → Result Unit DriveFault → List Move → Type 0
AsksCloud job old new ask result moves = SendsOut job old new (outs.Cloud ask) result moves

abbrev pub StandsOn : Driver → Driver → Type 0
StandsOn old new = (job : Job) → IsSome job old → IsSome job new

-- nothing is to be done but to wait
pub record Waits (job : Job) (state : DriveState) (new : Driver) (moves : List Move) : Type 0 where
  pub after : DriveState
  pub course : DriveLeads job state moves after
  pub idle : IsIdle after
  pub stands : StandsFor job new after
  pub left : after.left ≡ state.left

-- the operation has its reply
pub record Finishes (job : Job) (state : DriveState)
    (reply : Reply)
    (moves : List Move) : Type 0 where
  pub after : DriveState
  pub course : DriveLeads job state moves after
  pub replies : after.outcome ≡ replied reply

abbrev pub SettlesTo :
    Job → DriveState → Driver → Result (Option Reply) DriveFault → List Move → Type 0
SettlesTo job state new (Ok None) moves = Waits job state new moves
SettlesTo job state new (Ok (Some reply)) moves = Finishes job state reply moves
SettlesTo job state new (Err fault) moves = Stops job state fault moves

abbrev pub GoesTo : Job → DriveState → Driver → Result Step DriveFault → List Move → Type 0
GoesTo job state new (Ok steps.More) moves = MovesOn job state new moves
GoesTo job state new (Ok steps.Idle) moves = Waits job state new moves
GoesTo job state new (Ok (steps.Replied reply)) moves = Finishes job state reply moves
GoesTo job state new (Err fault) moves = Stops job state fault moves

-- what was to be done next was done
abbrev pub Goes : Job → Driver → Driver → Result Step DriveFault → List Move → Type 0
Goes job old new result moves = (state : DriveState)
    → IsFree state
    → StandsFor job old state
    → GoesTo job state new result moves

-- what is known of a step without a net that tells
abbrev pub GoesSoundly : Job → Driver → Result Step DriveFault → Type 0
GoesSoundly job new (Ok steps.More) = IsSome job new
GoesSoundly job new (Ok steps.Idle) = IsResting job new
GoesSoundly job new (Ok (steps.Replied reply)) = Suits job.action reply
GoesSoundly job new (Err fault) = IsLarge job fault

-- all that was to be done was done
abbrev pub Settles : Job → Driver → Driver → Result (Option Reply) DriveFault → List Move → Type 0
Settles job old new result moves = (state : DriveState)
    → IsFree state
    → StandsFor job old state
    → SettlesTo job state new result moves

-- what is known of the end without a net that tells
abbrev pub SettlesSoundly : Job → Driver → Result (Option Reply) DriveFault → Type 0
SettlesSoundly job new (Ok None) = IsResting job new
SettlesSoundly job new (Ok (Some reply)) = Suits job.action reply
SettlesSoundly job new (Err fault) = IsLarge job fault

-- the connection that gave its answer was closed
abbrev pub Closes : Option ℕ → List Move → Type 0
Closes None moves = moves ≡ []
Closes (Some conn) moves = moves ≡ called (close conn) ∷ []

-- the service was dialled, and sent Join
abbrev pub Joins : Job → Result ℕ DriveFault → List Move → Type 0
Joins job (Ok conn) moves =
    (arrivals : ℕ) → DriveLeads job (drive_begun arrivals) moves (joined_state arrivals conn)
Joins job (Err fault) moves = (arrivals : ℕ) → Stops job (drive_begun arrivals) fault moves

-- how it played from any state that it stands for and waits in
abbrev pub PlaysOn :
    Job → Driver → ℕ → Type 0 → Result Reply DriveFault → List Move → Type 0
PlaysOn job old arrivals Cut result moves = (state : DriveState)
    → IsIdle state
    → StandsFor job old state
    → state.left ≡ arrivals
    → DrivesOn job state Cut result moves
