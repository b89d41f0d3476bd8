-- Lemmas on the loop over arrivals, and on its ends.
use Rattle.std.proofs.Common.{◌⊎◌, ◌≡◌, ◌+◌, ◌-◌, ◌<◌, ℕ, suc, Bool, true, false, List, [], ◌∷◌, ◌++◌, Option, Some, None, Result, Ok, Err, refl, sym, ap, subst, ◌∙◌, arith, inl, inr}
use Rattle.hy_base.specs.declared.arrival.Arrived.{Arrived}
use Rattle.hy_base.specs.Moves.{Move, arrived, called, dial, send, close}
use Rattle.hy_base.specs.Net.{Adds, Moves}
use Rattle.hy_base.proofs.Adding.{Adds-append, Adds-more}
use Rattle.hy_record.specs.declared.action.Reply.{Reply}
use Rattle.hy_mwire.specs.declared.message.Message.TheVariants.{Join}
use Rattle.hy_mwire.specs.Frames.{frame_of}
use Rattle.hy_mwire.specs.Front.{front_at}
use Rattle.hy_serve.specs.Course.{begins, calls, takes, goes}
use Rattle.hy_drive.specs.declared.driver.Driver.{Driver}
use Rattle.hy_drive.specs.declared.fault.DriveFault.{DriveFault}
use Rattle.hy_drive.specs.declared.fault.DriveFault.TheVariants.{NetFault, SessionsFull, TooLarge, NotYet, NoMemory}
use Rattle.hy_drive.specs.declared.job.Job.{Job}
use Rattle.hy_drive.specs.State.{broken, DriveState, Pending, nothing, going, replied, refused, drive_begun, IsFree, IsIdle}
use Rattle.hy_drive.specs.Calling.{dials_service, joins, closes, service_dialled, join_sent}
use Rattle.hy_drive.specs.Arriving.{drive_took}
use Rattle.hy_drive.specs.Role.{DriveLeads, Drives, DrivesOn, Ends, IsCut, Count, count_at}
use Rattle.hy_drive.specs.Standing.{StandsFor, IsSome, IsResting}
use Rattle.hy_drive.specs.Stepping.{joined_state, Joins, Judges, stays, judges, pending_of, Takes, Closes, FaultAt, Settles, PlaysOn, Counts, not_yet_at}
use Rattle.hy_drive.proofs.Rounds.{leads-then}
use Rattle.hy_drive.proofs.Sending.{again}

-- ---- the first calls

abbrev pub begun-free : (arrivals : ℕ) → IsFree (drive_begun arrivals)
begun-free arrivals = record { clear = refl; goes = refl }

pub joins-starved : (job : Job) → Joins job (Err NoMemory) []
joins-starved job arrivals = record { after = drive_begun arrivals; course = begins; shows = tt }

dialled-service : (job : Job) (arrivals : ℕ) (number : Option ℕ) → DriveLeads job (drive_begun arrivals) (called (dial job.meta number) ∷ []) (service_dialled (drive_begun arrivals) number)
dialled-service job arrivals number =
    calls [] (drive_begun arrivals) (service_dialled (drive_begun arrivals) number) (dial job.meta number) begins (dials_service (drive_begun arrivals) number (begun-free arrivals) refl)

pub joins-refused : (job : Job) (moves : List Move) → moves ≡ called (dial job.meta None) ∷ [] → Joins job (Err NetFault) moves
joins-refused job moves are arrivals = record {
  after = service_dialled (drive_begun arrivals) None;
  course = subst (λ (m : List Move). DriveLeads job (drive_begun arrivals) m (service_dialled (drive_begun arrivals) None)) (sym are) (dialled-service job arrivals None);
  shows = refl;
}

join-asked : (job : Job) (arrivals conn : ℕ) (done : Bool)
    → DriveLeads job (drive_begun arrivals) (called (send conn (frame_of Join) done) ∷ called (dial job.meta (Some conn)) ∷ []) (join_sent (service_dialled (drive_begun arrivals) (Some conn)) conn done)
join-asked job arrivals conn done =
    calls (called (dial job.meta (Some conn)) ∷ []) (service_dialled (drive_begun arrivals) (Some conn)) (join_sent (service_dialled (drive_begun arrivals) (Some conn)) conn done)
    (send conn (frame_of Join) done) (dialled-service job arrivals (Some conn))
    (joins (service_dialled (drive_begun arrivals) (Some conn)) conn done (record { clear = refl; goes = refl }) refl)

pub joins-unsent : (job : Job) (conn : ℕ) (bytes : List ℕ) (moves : List Move) → bytes ≡ frame_of Join → moves ≡ called (dial job.meta (Some conn)) ∷ []
    → Joins job (Err NetFault) (called (send conn bytes false) ∷ moves)
joins-unsent job conn bytes moves same are arrivals = record {
  after = join_sent (service_dialled (drive_begun arrivals) (Some conn)) conn false;
  course = subst (λ (m : List Move). DriveLeads job (drive_begun arrivals) m (join_sent (service_dialled (drive_begun arrivals) (Some conn)) conn false))
      (sym (ap (λ (m : List Move). called (send conn bytes false) ∷ m) are ∙ ap (λ (b : List ℕ). called (send conn b false) ∷ called (dial job.meta (Some conn)) ∷ []) same))
      (join-asked job arrivals conn false);
  shows = refl;
}

pub joins-sent : (job : Job) (conn : ℕ) (bytes : List ℕ) (moves : List Move) → bytes ≡ frame_of Join → moves ≡ called (dial job.meta (Some conn)) ∷ []
    → Joins job (Ok conn) (called (send conn bytes true) ∷ moves)
joins-sent job conn bytes moves same are arrivals =
    subst (λ (m : List Move). DriveLeads job (drive_begun arrivals) m (joined_state arrivals conn))
    (sym (ap (λ (m : List Move). called (send conn bytes true) ∷ m) are ∙ ap (λ (b : List ℕ). called (send conn b true) ∷ called (dial job.meta (Some conn)) ∷ []) same))
    (join-asked job arrivals conn true)

-- Join was sent, and nothing arrived
pub joined-idle : (arrivals conn : ℕ) → IsIdle (joined_state arrivals conn)
unfolding front_at
joined-idle arrivals conn = record { settled = record { free = record { clear = refl; goes = refl }; sent = refl; handed = refl }; heard = refl }

-- ---- why it ends

pub ends-by : {Cut : Type 0} → (state : DriveState) (fault : DriveFault) → FaultAt fault state → Ends Cut state (Err fault)
ends-by state NetFault shows = record {
  ok = tt;
  fault = λ is. inl shows;
  sessions = λ never. absurd (let e : ⊥ = cc in e);
  large = λ size never. absurd (let e : ⊥ = cc in e);
  not_yet = λ have need never. absurd (let e : ⊥ = cc in e);
}
ends-by state SessionsFull shows = record {
  ok = tt;
  fault = λ never. absurd (let e : ⊥ = cc in e);
  sessions = λ is. shows;
  large = λ size never. absurd (let e : ⊥ = cc in e);
  not_yet = λ have need never. absurd (let e : ⊥ = cc in e);
}
ends-by state (TooLarge size) shows = record {
  ok = tt;
  fault = λ never. absurd (let e : ⊥ = cc in e);
  sessions = λ never. absurd (let e : ⊥ = cc in e);
  large = λ other is. shows ∙ ap refused (let e : ◌≡◌ {A = Result Reply DriveFault} (Err (TooLarge size)) (Err (TooLarge other)) = is in let same : size ≡ other = cc in same);
  not_yet = λ have need never. absurd (let e : ⊥ = cc in e);
}
ends-by state (NotYet have need) shows = absurd shows
ends-by state NoMemory shows = record {
  ok = tt;
  fault = λ never. absurd (let e : ⊥ = cc in e);
  sessions = λ never. absurd (let e : ⊥ = cc in e);
  large = λ size never. absurd (let e : ⊥ = cc in e);
  not_yet = λ have need never. absurd (let e : ⊥ = cc in e);
}

ends-replied : {Cut : Type 0} → (state : DriveState) (reply : Reply) → state.outcome ≡ replied reply → Ends Cut state (Ok reply)
ends-replied state reply is = record {
  ok = is;
  fault = λ never. absurd (let e : ⊥ = cc in e);
  sessions = λ never. absurd (let e : ⊥ = cc in e);
  large = λ size never. absurd (let e : ⊥ = cc in e);
  not_yet = λ have need never. absurd (let e : ⊥ = cc in e);
}

ends-cut : {Cut : Type 0} → (state : DriveState) (left : ℕ) → Cut → IsIdle state → state.left ≡ suc left → Ends Cut state (Err NetFault)
ends-cut state left cut idle more = record {
  ok = tt;
  fault = λ is. inr (record { waits = record { idle = idle; left = left; more = more }; cut = cut });
  sessions = λ never. absurd (let e : ⊥ = cc in e);
  large = λ size never. absurd (let e : ⊥ = cc in e);
  not_yet = λ have need never. absurd (let e : ⊥ = cc in e);
}

same-count : (have need : ℕ) (count : Count) → ◌≡◌ {A = Result Reply DriveFault} (Err (not_yet_at count)) (Err (NotYet have need)) → count ≡ record { have = have; need = need }
same-count have need count is =
    let h : count.have ≡ have = cc in
    let n : count.need ≡ need = cc in
    let made : Count → ℕ → ℕ → Count = λ c x y. record { have = x; need = y } in
    ap (λ (x : ℕ). made count x count.need) h ∙ ap (λ (y : ℕ). made count have y) n

ends-waiting : {Cut : Type 0} → (state : DriveState) (fault : DriveFault) → IsIdle state → state.left ≡ 0 → fault ≡ not_yet_at (count_at state.client) → Ends Cut state (Err fault)
ends-waiting {Cut} state fault idle none is = subst (λ (f : DriveFault). Ends Cut state (Err f)) (sym is) (record {
  ok = tt;
  fault = λ never. absurd (let e : ⊥ = cc in e);
  sessions = λ never. absurd (let e : ⊥ = cc in e);
  large = λ size never. absurd (let e : ⊥ = cc in e);
  not_yet = λ have need same. record { idle = idle; none = none; count = same-count have need (count_at state.client) same };
})

-- ---- an arrival

-- so many arrivals were taken, and it waits
pub record Resting (job : Job) (start : DriveState) (arrivals taken : ℕ) (driver : Driver) (moves : List Move) : Type 0 where
  pub after : DriveState
  pub course : DriveLeads job start moves after
  pub idle : IsIdle after
  pub stands : StandsFor job driver after
  pub left : after.left + taken ≡ arrivals

abbrev pub Stays : Job → Driver → ℕ → ℕ → Driver → List Move → Type 0
Stays job old arrivals taken driver moves = (state : DriveState) → IsIdle state → StandsFor job old state → state.left ≡ arrivals → Resting job state arrivals taken driver moves

pub stays-first : (job : Job) (driver : Driver) (arrivals : ℕ) → Stays job driver arrivals 0 driver []
stays-first job driver arrivals state idle stands left = record { after = state; course = begins; idle = idle; stands = stands; left = omega (arith, left) }

one-more : (left taken arrivals : ℕ) → left + taken ≡ arrivals → taken < arrivals → left ≡ suc (left - 1)
one-more left taken arrivals is more = omega (arith, is, more)

abbrev pub with_left : DriveState → ℕ → DriveState
with_left state left = record state { left = left }

left-idle : (state : DriveState) (left : ℕ) → IsIdle state → IsIdle (with_left state left)
left-idle state left idle = record {
  settled = record { free = record { clear = idle.settled.free.clear; goes = idle.settled.free.goes }; sent = idle.settled.sent; handed = idle.settled.handed };
  heard = idle.heard;
}

left-stands : (job : Job) (driver : Driver) (state : DriveState) (left : ℕ) → StandsFor job driver state → StandsFor job driver (with_left state left)
left-stands job driver state left stands = again job driver state (with_left state left) stands refl refl refl refl refl

took-course : (job : Job) (start state : DriveState) (moves : List Move) (a : Arrived) (taken arrivals : ℕ) → DriveLeads job start moves state → IsIdle state → state.left + taken ≡ arrivals → taken < arrivals
    → DriveLeads job start (arrived a ∷ moves) (drive_took (with_left state (state.left - 1)) a)
took-course job start state moves a taken arrivals course idle left more =
    takes moves state (drive_took (with_left state (state.left - 1)) a) a course
    (record { idle = idle; left = state.left - 1; one = one-more state.left taken arrivals left more; is = refl })

-- want of memory while an arrival is taken
pub starved-taking : {Cut : Type 0} → (job : Job) (old driver : Driver) (arrivals taken : ℕ) (a : Arrived) (moves : List Move) → Stays job old arrivals taken driver moves → taken < arrivals
    → PlaysOn job old arrivals Cut (Err NoMemory) (arrived a ∷ moves)
starved-taking job old driver arrivals taken a moves rests more state idle stands left =
    let r = rests state idle stands left in record {
      state = drive_took (with_left r.after (r.after.left - 1)) a;
      course = took-course job state r.after moves a taken arrivals r.course r.idle r.left more;
      ends = ends-by (drive_took (with_left r.after (r.after.left - 1)) a) NoMemory tt;
    }

-- an arrival was taken, and the connection closed that gave its answer
pub record Turned (job : Job) (start : DriveState) (arrivals taken : ℕ) (driver : Driver) (moves : List Move) : Type 0 where
  pub after : DriveState
  pub course : DriveLeads job start moves after
  pub free : IsFree after
  pub stands : StandsFor job driver after
  pub left : after.left + (taken + 1) ≡ arrivals

judged-course : (job : Job) (start mid : DriveState) (moves : List Move) (after : DriveState) → DriveLeads job start moves mid → Judges job mid after → DriveLeads job start moves after
judged-course job start mid moves _ course stays = course
judged-course job start mid moves _ course (judges after went) = goes moves mid after course went

closes-done : (job : Job) (start : DriveState) (mid : Driver) (done : Option ℕ) (after : DriveState) (moves closing-moves : List Move) → DriveLeads job start moves after → after.pending ≡ pending_of done
    → after.outcome ≡ going → StandsFor job mid after → Closes done closing-moves
    → DriveLeads job start (closing-moves ++ moves) (record after { pending = nothing })
closes-done job start mid None after moves closing-moves course pending goes-on stands are =
    subst (λ (m : List Move). DriveLeads job start (m ++ moves) (record after { pending = nothing })) (sym are)
    (subst (λ (p : Pending). DriveLeads job start moves (record after { pending = p })) pending course)
closes-done job start mid (Some conn) after moves closing-moves course pending goes-on stands are =
    subst (λ (m : List Move). DriveLeads job start (m ++ moves) (record after { pending = nothing })) (sym are)
    (calls moves after (record after { pending = nothing }) (close conn) course (closes after conn goes-on pending))

turned : (job : Job) (old driver mid : Driver) (arrivals taken : ℕ) (a : Arrived) (done : Option ℕ) (moves closing-moves : List Move) → Stays job old arrivals taken driver moves → taken < arrivals
    → Takes driver mid a done → Closes done closing-moves → (state : DriveState) → IsIdle state → StandsFor job old state → state.left ≡ arrivals
    → Turned job state arrivals taken mid (closing-moves ++ arrived a ∷ moves)
turned job old driver mid arrivals taken a done moves closing-moves rests more took closed state idle stands left =
    let r = rests state idle stands left in
    let before = with_left r.after (r.after.left - 1) in
    let t = took job before (left-idle r.after (r.after.left - 1) r.idle) (left-stands job driver r.after (r.after.left - 1) r.stands) in
    record {
      after = record t.after { pending = nothing };
      course = closes-done job state mid done t.after (arrived a ∷ moves) closing-moves
          (judged-course job state (drive_took before a) (arrived a ∷ moves) t.after (took-course job state r.after moves a taken arrivals r.course r.idle r.left more) t.judges)
          t.pending t.goes t.stands closed;
      free = record { clear = refl; goes = t.goes };
      stands = again job mid t.after (record t.after { pending = nothing }) t.stands refl refl refl refl refl;
      left = omega (arith, t.left, one-more r.after.left taken arrivals r.left more, r.left);
    }

-- it stands for some state behind the arrival
pub some-taken : (job : Job) (driver mid : Driver) (a : Arrived) (done : Option ℕ) → IsResting job driver → Takes driver mid a done → IsSome job mid
some-taken job driver mid a done rests took =
    let t = took job rests.state rests.idle rests.stands in
    record {
      state = record t.after { pending = nothing };
      free = record { clear = refl; goes = t.goes };
      stands = again job mid t.after (record t.after { pending = nothing }) t.stands refl refl refl refl refl;
    }

-- an arrival, and all that it calls for
pub stays-on : (job : Job) (old driver mid new : Driver) (arrivals taken : ℕ) (a : Arrived) (done : Option ℕ) (moves closing-moves second : List Move) → Stays job old arrivals taken driver moves → taken < arrivals
    → Takes driver mid a done → Closes done closing-moves → Settles job mid new (Ok None) second → Stays job old arrivals (taken + 1) new (second ++ (closing-moves ++ arrived a ∷ moves))
stays-on job old driver mid new arrivals taken a done moves closing-moves second rests more took closed settles state idle stands left =
    let t = turned job old driver mid arrivals taken a done moves closing-moves rests more took closed state idle stands left in
    let s = settles t.after t.free t.stands in
    record {
      after = s.after;
      course = leads-then job state t.after s.after (closing-moves ++ arrived a ∷ moves) second t.course s.course;
      idle = s.idle;
      stands = s.stands;
      left = omega (arith, s.left, t.left);
    }

pub plays-replied : {Cut : Type 0} → (job : Job) (old driver mid new : Driver) (arrivals taken : ℕ) (a : Arrived) (done : Option ℕ) (reply : Reply) (moves closing-moves second : List Move)
    → Stays job old arrivals taken driver moves → taken < arrivals → Takes driver mid a done → Closes done closing-moves → Settles job mid new (Ok (Some reply)) second
    → PlaysOn job old arrivals Cut (Ok reply) (second ++ (closing-moves ++ arrived a ∷ moves))
plays-replied job old driver mid new arrivals taken a done reply moves closing-moves second rests more took closed settles state idle stands left =
    let t = turned job old driver mid arrivals taken a done moves closing-moves rests more took closed state idle stands left in
    let s = settles t.after t.free t.stands in
    record { state = s.after; course = leads-then job state t.after s.after (closing-moves ++ arrived a ∷ moves) second t.course s.course; ends = ends-replied s.after reply s.replies }

pub plays-stopped : {Cut : Type 0} → (job : Job) (old driver mid new : Driver) (arrivals taken : ℕ) (a : Arrived) (done : Option ℕ) (fault : DriveFault) (moves closing-moves second : List Move)
    → Stays job old arrivals taken driver moves → taken < arrivals → Takes driver mid a done → Closes done closing-moves → Settles job mid new (Err fault) second
    → PlaysOn job old arrivals Cut (Err fault) (second ++ (closing-moves ++ arrived a ∷ moves))
plays-stopped job old driver mid new arrivals taken a done fault moves closing-moves second rests more took closed settles state idle stands left =
    let t = turned job old driver mid arrivals taken a done moves closing-moves rests more took closed state idle stands left in
    let s = settles t.after t.free t.stands in
    record { state = s.after; course = leads-then job state t.after s.after (closing-moves ++ arrived a ∷ moves) second t.course s.course; ends = ends-by s.after fault s.shows }

-- no arrival could be had
pub plays-cut : {Cut : Type 0} → (job : Job) (old driver : Driver) (arrivals taken : ℕ) (moves : List Move) → Cut → Stays job old arrivals taken driver moves → taken < arrivals → PlaysOn job old arrivals Cut (Err NetFault) moves
plays-cut job old driver arrivals taken moves cut rests more state idle stands left =
    let r = rests state idle stands left in
    record { state = r.after; course = r.course; ends = ends-cut r.after (r.after.left - 1) cut r.idle (one-more r.after.left taken arrivals r.left more) }

-- all were taken
pub plays-out : {Cut : Type 0} → (job : Job) (old driver : Driver) (arrivals : ℕ) (fault : DriveFault) (moves : List Move) → Stays job old arrivals arrivals driver moves → Counts driver fault
    → PlaysOn job old arrivals Cut (Err fault) moves
plays-out job old driver arrivals fault moves rests counts state idle stands left =
    let r = rests state idle stands left in
    record { state = r.after; course = r.course; ends = ends-waiting r.after fault r.idle (omega (arith, r.left)) (counts job r.after r.stands) }

-- ---- from the first call on

cut-by : {Cut Other : Type 0} → (state : DriveState) → (Cut → Other) → (state.outcome ≡ broken) ⊎ IsCut Cut state → (state.outcome ≡ broken) ⊎ IsCut Other state
cut-by state says (inl shows) = inl shows
cut-by state says (inr cut) = inr (record { waits = cut.waits; cut = says cut.cut })

-- what is said of a cut says something else of it
cut-as : {Cut Other : Type 0} → (state : DriveState) (result : Result Reply DriveFault) → (Cut → Other) → Ends Cut state result → Ends Other state result
cut-as state result says ends = record {
  ok = ends.ok;
  fault = λ is. cut-by state says (ends.fault is);
  sessions = ends.sessions;
  large = ends.large;
  not_yet = ends.not_yet;
}

pub drives-joined : {Cut Other : Type 0} → (job : Job) (driver : Driver) (arrivals conn : ℕ) (result : Result Reply DriveFault) (first second : List Move) → (Cut → Other) → Joins job (Ok conn) first
    → ((j : Job) (n : ℕ) → StandsFor j driver (joined_state n conn)) → PlaysOn job driver arrivals Cut result second → Drives job arrivals Other result (second ++ first)
drives-joined job driver arrivals conn result first second says joined stands plays =
    let p = plays (joined_state arrivals conn) (joined-idle arrivals conn) (stands job arrivals) refl in
    record { state = p.state; course = leads-then job (drive_begun arrivals) (joined_state arrivals conn) p.state first second (joined arrivals) p.course; ends = cut-as p.state result says p.ends }

pub drives-stopped : {Cut : Type 0} → (job : Job) (arrivals : ℕ) (fault : DriveFault) (moves : List Move) → Joins job (Err fault) moves → Drives job arrivals Cut (Err fault) moves
drives-stopped job arrivals fault moves joined =
    let s = joined arrivals in record { state = s.after; course = s.course; ends = ends-by s.after fault s.shows }

pub drives-nothing : {Cut : Type 0} → (job : Job) (arrivals : ℕ) → Drives job arrivals Cut (Err NoMemory) []
drives-nothing job arrivals = record { state = drive_begun arrivals; course = begins; ends = ends-by (drive_begun arrivals) NoMemory tt }

-- Join was sent, and memory ran out
pub drives-starved : {Cut : Type 0} → (job : Job) (arrivals conn : ℕ) (moves : List Move) → Joins job (Ok conn) moves → Drives job arrivals Cut (Err NoMemory) moves
drives-starved job arrivals conn moves joined = record { state = joined_state arrivals conn; course = joined arrivals; ends = ends-by (joined_state arrivals conn) NoMemory tt }

pub rests-joined : (job : Job) (driver : Driver) (conn : ℕ) → ((j : Job) (n : ℕ) → StandsFor j driver (joined_state n conn)) → IsResting job driver
rests-joined job driver conn stands = record { state = joined_state 0 conn; idle = joined-idle 0 conn; stands = stands job 0 }

-- ---- the calls of a turn of the loop

-- behind the moves so far an arrival was taken, and a connection closed if it gave its answer
pub record Behind (job : Job) (old : Driver) (arrivals taken : ℕ) (driver : Driver) (a : Arrived) (done : Option ℕ) (moves : List Move) : Type 0 where
  pub before : List Move
  pub closing : List Move
  pub rests : Stays job old arrivals taken driver before
  pub closed : Closes done closing
  pub are : moves ≡ closing ++ arrived a ∷ before

pub adds-behind : {S : Type 0} (told : S → Type 0) (tells : S → List Move → Type 0) (first second third fourth : S) (job : Job) (old driver : Driver) (arrivals taken : ℕ) (a : Arrived) (done : Option ℕ)
    → Adds told tells first second (Stays job old arrivals taken driver) → Moves told tells second third (arrived a) → Adds told tells third fourth (Closes done)
    → Adds told tells first fourth (Behind job old arrivals taken driver a done)
adds-behind told tells first second third fourth job old driver arrivals taken a done rests took closed =
    Adds-append told tells first third fourth (λ moves. (before : List Move) × Stays job old arrivals taken driver before × (moves ≡ arrived a ∷ before)) (Closes done)
    (Behind job old arrivals taken driver a done)
    (Adds-more told tells first second third (Stays job old arrivals taken driver) (λ moves. (before : List Move) × Stays job old arrivals taken driver before × (moves ≡ arrived a ∷ before))
    (arrived a) rests took (λ moves stays. (moves, stays, refl)))
    closed
    (λ moves closing took-it closed-it. record {
      before = took-it.0;
      closing = closing;
      rests = took-it.1;
      closed = closed-it;
      are = ap (λ (m : List Move). closing ++ m) took-it.2;
    })

pub behind-stays : (job : Job) (old driver mid new : Driver) (arrivals taken : ℕ) (a : Arrived) (done : Option ℕ) (first second : List Move) → taken < arrivals → Takes driver mid a done
    → Behind job old arrivals taken driver a done first → Settles job mid new (Ok None) second → Stays job old arrivals (taken + 1) new (second ++ first)
behind-stays job old driver mid new arrivals taken a done first second more took b settles =
    subst (λ (m : List Move). Stays job old arrivals (taken + 1) new (second ++ m)) (sym b.are)
    (stays-on job old driver mid new arrivals taken a done b.before b.closing second b.rests more took b.closed settles)

pub behind-replied : {Cut : Type 0} → (job : Job) (old driver mid new : Driver) (arrivals taken : ℕ) (a : Arrived) (done : Option ℕ) (reply : Reply) (first second : List Move) → taken < arrivals → Takes driver mid a done
    → Behind job old arrivals taken driver a done first → Settles job mid new (Ok (Some reply)) second → PlaysOn job old arrivals Cut (Ok reply) (second ++ first)
behind-replied {Cut} job old driver mid new arrivals taken a done reply first second more took b settles =
    subst (λ (m : List Move). PlaysOn job old arrivals Cut (Ok reply) (second ++ m)) (sym b.are)
    (plays-replied job old driver mid new arrivals taken a done reply b.before b.closing second b.rests more took b.closed settles)

pub behind-stopped : {Cut : Type 0} → (job : Job) (old driver mid new : Driver) (arrivals taken : ℕ) (a : Arrived) (done : Option ℕ) (fault : DriveFault) (first second : List Move) → taken < arrivals → Takes driver mid a done
    → Behind job old arrivals taken driver a done first → Settles job mid new (Err fault) second → PlaysOn job old arrivals Cut (Err fault) (second ++ first)
behind-stopped {Cut} job old driver mid new arrivals taken a done fault first second more took b settles =
    subst (λ (m : List Move). PlaysOn job old arrivals Cut (Err fault) (second ++ m)) (sym b.are)
    (plays-stopped job old driver mid new arrivals taken a done fault b.before b.closing second b.rests more took b.closed settles)
