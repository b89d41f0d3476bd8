-- Lemmas on the calls that send the messages of a client.
use Rattle.std.proofs.Common.{◌≡◌, ℕ, Bool, true, false, List, [], ◌∷◌, ◌++◌, Option, Some, None, Ok, Err, refl, sym, ap, subst, ◌∙◌}
use Rattle.hy_base.specs.Moves.{Move, called, dial, send, close}
use Rattle.hy_record.specs.declared.cloud.CloudAsk.{CloudAsk}
use Rattle.hy_record.specs.declared.cloud.CloudSay.TheVariants.{Bad}
use Rattle.hy_record.specs.declared.message.MetaAsk.{MetaAsk}
use Rattle.hy_record.specs.declared.turn.Out.{Out}
use Rattle.hy_record.specs.declared.turn.Out.TheVariants as outs
use Rattle.hy_mwire.specs.declared.message.Message.TheVariants.{Ask}
use Rattle.hy_mwire.specs.Frames.{frame_of}
use Rattle.hy_mwire.specs.Message.{IsMessage}
use Rattle.hy_cwire.specs.Writing.{IsSendable, ask_bytes}
use Rattle.hy_serve.specs.Course.{begins, calls, goes}
use Rattle.hy_drive.specs.declared.driver.Driver.{Driver}
use Rattle.hy_drive.specs.declared.fault.DriveFault.TheVariants.{NetFault, NoMemory}
use Rattle.hy_drive.specs.declared.job.Job.{Job}
use Rattle.hy_drive.specs.State.{DriveState, Service, Waiting, nothing, broken, with_line, cloud_port, answer_to, IsFree}
use Rattle.hy_drive.specs.Calling.{asks_service, dials_cloud, asks_cloud, closes, service_asked, cloud_dialled, cloud_asked}
use Rattle.hy_drive.specs.Going.{skips}
use Rattle.hy_drive.specs.Role.{DriveLeads}
use Rattle.hy_drive.specs.Standing.{StandsFor, HoldsClient}
use Rattle.hy_drive.specs.Held.{HoldsService, HoldsLine, line_at, errand_of}
use Rattle.hy_drive.specs.Judging.{kind_of}
use Rattle.hy_drive.specs.declared.errand.Errand.{Errand}
use Rattle.hy_cwire.specs.declared.kind.WishKind.{WishKind}
use Rattle.hy_protocol.specs.Session.{Session}
use Rattle.hy_drive.specs.Stepping.{AsksService, AsksCloud, StandsOn, HasService, Awaited, Lost}

-- the parts that a driver keeps are those of the state
pub again : (job : Job) (driver : Driver) (state other : DriveState) → StandsFor job driver state → other.service ≡ state.service → other.lines ≡ state.lines → other.client ≡ state.client
    → other.sends ≡ state.sends → other.inputs ≡ state.inputs → StandsFor job driver other
again job driver state other stands service lines client sends inputs = record {
  service = subst (λ (s : Service). HoldsService driver.service s) (sym service) stands.service;
  lines = subst (λ (l : ℕ → Option Waiting). (c : ℕ) → HoldsLine (line_at driver.lines c) (l c)) (sym lines) stands.lines;
  client = subst (λ (s : Option Session). HoldsClient job driver.client s) (sym client) stands.client;
  sends = sends ∙ stands.sends;
  inputs = inputs ∙ stands.inputs;
  sendable = stands.sendable;
}

-- ---- to the service

pub service-starved : (driver : Driver) (ask : MetaAsk) → AsksService driver ask (Err NoMemory) []
service-starved driver ask job state later free is stands = record { after = state; course = begins; shows = tt }

service-asked-by : (driver : Driver) (ask : MetaAsk) (conn : ℕ) → IsMessage (Ask ask) → HasService driver (Some conn) → (done : Bool) → (job : Job) (state : DriveState) (later : List Out) → IsFree state
    → state.sends ≡ outs.Meta ask ∷ later → StandsFor job driver (record state { sends = later })
    → DriveLeads job state (called (send conn (frame_of (Ask ask)) done) ∷ []) (service_asked state later done)
service-asked-by driver ask conn known has done job state later free is stands =
    let at = has job (record state { sends = later }) stands in
    calls [] state (service_asked state later done) (send conn (frame_of (Ask ask)) done) begins (asks_service state conn at.0 at.1 ask later done free is at.2 known)

pub service-sent : (driver : Driver) (ask : MetaAsk) (conn : ℕ) (moves : List Move) → IsMessage (Ask ask) → HasService driver (Some conn) → moves ≡ called (send conn (frame_of (Ask ask)) true) ∷ []
    → AsksService driver ask (Ok tt) moves
service-sent driver ask conn moves known has are job state later free is stands = record {
  after = record state { sends = later };
  course = subst (λ (m : List Move). DriveLeads job state m (record state { sends = later })) (sym are) (service-asked-by driver ask conn known has true job state later free is stands);
  free = record { clear = free.clear; goes = free.goes };
  stands = stands;
  left = refl;
}

pub service-failed : (driver : Driver) (ask : MetaAsk) (conn : ℕ) (moves : List Move) → IsMessage (Ask ask) → HasService driver (Some conn) → moves ≡ called (send conn (frame_of (Ask ask)) false) ∷ []
    → AsksService driver ask (Err NetFault) moves
service-failed driver ask conn moves known has are job state later free is stands = record {
  after = record state { outcome = broken };
  course = subst (λ (m : List Move). DriveLeads job state m (record state { outcome = broken })) (sym are) (service-asked-by driver ask conn known has false job state later free is stands);
  shows = refl;
}

pub service-gone : (driver : Driver) (ask : MetaAsk) → HasService driver None → AsksService driver ask (Ok tt) []
service-gone driver ask has job state later free is stands = record {
  after = record state { sends = later };
  course = goes [] state (record state { sends = later }) begins (skips state ask later free is (has job (record state { sends = later }) stands));
  free = record { clear = free.clear; goes = free.goes };
  stands = stands;
  left = refl;
}

-- ---- to a cloud

pub cloud-starved : (job : Job) (old new : Driver) (ask : CloudAsk) → AsksCloud job old new ask (Err NoMemory) []
cloud-starved job old new ask state later free is stands = record { after = state; course = begins; shows = tt }

dialled : (job : Job) (ask : CloudAsk) (state : DriveState) (later : List Out) (number : Option ℕ) → IsFree state → state.sends ≡ outs.Cloud ask ∷ later
    → DriveLeads job state (called (dial (cloud_port job.clouds ask) number) ∷ []) (cloud_dialled state ask later number)
dialled job ask state later number free is =
    calls [] state (cloud_dialled state ask later number) (dial (cloud_port job.clouds ask) number) begins (dials_cloud state ask later number free is)

asked : (job : Job) (ask : CloudAsk) (state : DriveState) (later : List Out) (conn : ℕ) (done : Bool) → IsSendable ask.wish → IsFree state → state.sends ≡ outs.Cloud ask ∷ later
    → DriveLeads job state (called (send conn (ask_bytes ask.wish (cloud_port job.clouds ask)) done) ∷ called (dial (cloud_port job.clouds ask) (Some conn)) ∷ [])
    (cloud_asked (cloud_dialled state ask later (Some conn)) conn ask done)
asked job ask state later conn done known free is =
    calls (called (dial (cloud_port job.clouds ask) (Some conn)) ∷ []) (cloud_dialled state ask later (Some conn)) (cloud_asked (cloud_dialled state ask later (Some conn)) conn ask done)
    (send conn (ask_bytes ask.wish (cloud_port job.clouds ask)) done) (dialled job ask state later (Some conn) free is)
    (asks_cloud (cloud_dialled state ask later (Some conn)) conn ask done free.goes refl known)

-- the dial failed
pub cloud-undialled : (job : Job) (old new : Driver) (ask : CloudAsk) (errand : Errand) (moves : List Move) → Lost old new errand → errand ≡ errand_of ask
    → moves ≡ called (dial (cloud_port job.clouds ask) None) ∷ [] → AsksCloud job old new ask (Ok tt) moves
cloud-undialled job old new ask errand moves lost for-it are state later free is stands = record {
  after = cloud_dialled state ask later None;
  course = subst (λ (m : List Move). DriveLeads job state m (cloud_dialled state ask later None)) (sym are) (dialled job ask state later None free is);
  free = record { clear = free.clear; goes = free.goes };
  stands = again job new (record state { sends = later; inputs = state.inputs ++ answer_to ask (Bad 0) ∷ [] }) (cloud_dialled state ask later None)
      (lost job (record state { sends = later }) ask stands for-it) refl refl refl refl refl;
  left = refl;
}

pub cloud-starved-undialled : (job : Job) (old new : Driver) (ask : CloudAsk) (moves : List Move) → moves ≡ called (dial (cloud_port job.clouds ask) None) ∷ [] → AsksCloud job old new ask (Err NoMemory) moves
cloud-starved-undialled job old new ask moves are state later free is stands = record {
  after = cloud_dialled state ask later None;
  course = subst (λ (m : List Move). DriveLeads job state m (cloud_dialled state ask later None)) (sym are) (dialled job ask state later None free is);
  shows = tt;
}

-- the request was sent
abbrev pub sent-moves : Job → CloudAsk → ℕ → Bool → List Move
sent-moves job ask conn done = called (send conn (ask_bytes ask.wish (cloud_port job.clouds ask)) done) ∷ called (dial (cloud_port job.clouds ask) (Some conn)) ∷ []

pub cloud-sent : (job : Job) (old new : Driver) (ask : CloudAsk) (conn : ℕ) (errand : Errand) (kind : WishKind) (moves : List Move) → IsSendable ask.wish → Awaited old new conn errand kind → errand ≡ errand_of ask
    → kind ≡ kind_of ask.wish.act → moves ≡ sent-moves job ask conn true → AsksCloud job old new ask (Ok tt) moves
cloud-sent job old new ask conn errand kind moves known awaited for-it method are state later free is stands =
    let after = cloud_asked (cloud_dialled state ask later (Some conn)) conn ask true in record {
      after = after;
      course = subst (λ (m : List Move). DriveLeads job state m after) (sym are) (asked job ask state later conn true known free is);
      free = record { clear = refl; goes = free.goes };
      stands = again job new (with_line (record state { sends = later }) conn (Some (record { ask = ask; bytes = [] }))) after
          (awaited job (record state { sends = later }) ask stands for-it method) refl refl refl refl refl;
      left = refl;
    }

pub cloud-starved-sent : (job : Job) (old new : Driver) (ask : CloudAsk) (conn : ℕ) (moves : List Move) → IsSendable ask.wish → moves ≡ sent-moves job ask conn true → AsksCloud job old new ask (Err NoMemory) moves
cloud-starved-sent job old new ask conn moves known are state later free is stands =
    let after = cloud_asked (cloud_dialled state ask later (Some conn)) conn ask true in
    record { after = after; course = subst (λ (m : List Move). DriveLeads job state m after) (sym are) (asked job ask state later conn true known free is); shows = tt }

-- the send failed, and the connection was closed
abbrev pub closed-state : DriveState → List Out → CloudAsk → DriveState
closed-state state later ask = record state { sends = later; pending = nothing; inputs = state.inputs ++ answer_to ask (Bad 0) ∷ [] }

unsent : (job : Job) (ask : CloudAsk) (state : DriveState) (later : List Out) (conn : ℕ) → IsSendable ask.wish → IsFree state → state.sends ≡ outs.Cloud ask ∷ later
    → DriveLeads job state (called (close conn) ∷ sent-moves job ask conn false) (closed-state state later ask)
unsent job ask state later conn known free is =
    calls (sent-moves job ask conn false) (cloud_asked (cloud_dialled state ask later (Some conn)) conn ask false) (closed-state state later ask) (close conn)
    (asked job ask state later conn false known free is) (closes (cloud_asked (cloud_dialled state ask later (Some conn)) conn ask false) conn free.goes refl)

pub cloud-unsent : (job : Job) (old new : Driver) (ask : CloudAsk) (conn : ℕ) (errand : Errand) (moves : List Move) → IsSendable ask.wish → Lost old new errand → errand ≡ errand_of ask
    → moves ≡ called (close conn) ∷ sent-moves job ask conn false → AsksCloud job old new ask (Ok tt) moves
cloud-unsent job old new ask conn errand moves known lost for-it are state later free is stands = record {
  after = closed-state state later ask;
  course = subst (λ (m : List Move). DriveLeads job state m (closed-state state later ask)) (sym are) (unsent job ask state later conn known free is);
  free = record { clear = refl; goes = free.goes };
  stands = again job new (record state { sends = later; inputs = state.inputs ++ answer_to ask (Bad 0) ∷ [] }) (closed-state state later ask)
      (lost job (record state { sends = later }) ask stands for-it) refl refl refl refl refl;
  left = refl;
}

pub cloud-starved-unsent : (job : Job) (old new : Driver) (ask : CloudAsk) (conn : ℕ) (moves : List Move) → IsSendable ask.wish → moves ≡ called (close conn) ∷ sent-moves job ask conn false
    → AsksCloud job old new ask (Err NoMemory) moves
cloud-starved-unsent job old new ask conn moves known are state later free is stands =
    record { after = closed-state state later ask; course = subst (λ (m : List Move). DriveLeads job state m (closed-state state later ask)) (sym are) (unsent job ask state later conn known free is); shows = tt }

-- it stands for some state still
pub lost-stands : (old new : Driver) (ask : CloudAsk) (errand : Errand) → Lost old new errand → errand ≡ errand_of ask → StandsOn old new
lost-stands old new ask errand lost for-it job some = record {
  state = record some.state { inputs = some.state.inputs ++ answer_to ask (Bad 0) ∷ [] };
  free = record { clear = some.free.clear; goes = some.free.goes };
  stands = lost job some.state ask some.stands for-it;
}

-- the two calls of a request
pub sent-as : (job : Job) (ask : CloudAsk) (conn : ℕ) (done : Bool) (port : ℕ) (bytes : List ℕ) (moves : List Move) → port ≡ cloud_port job.clouds ask → bytes ≡ ask_bytes ask.wish port
    → moves ≡ called (dial port (Some conn)) ∷ [] → called (send conn bytes done) ∷ moves ≡ sent-moves job ask conn done
sent-as job ask conn done port bytes moves port-is bytes-are are =
    ap (λ (m : List Move). called (send conn bytes done) ∷ m) are
    ∙ ap (λ (b : List ℕ). called (send conn b done) ∷ called (dial port (Some conn)) ∷ []) bytes-are
    ∙ ap (λ (p : ℕ). called (send conn (ask_bytes ask.wish p) done) ∷ called (dial p (Some conn)) ∷ []) port-is
