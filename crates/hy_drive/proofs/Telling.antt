-- Lemmas on what a message of the service makes of a client over a net.
use Rattle.std.proofs.Common.{◌≡◌, ℕ, true, false, List, [], ◌∷◌, ◌++◌, Option, Some, None, is_some, Result, Ok, Err, refl, sym, ap, subst, ◌∙◌}
use Rattle.std.specs.Prelude.{All}
use Rattle.hy_record.specs.declared.turn.Cue.{Cue}
use Rattle.hy_record.specs.declared.turn.Cue.TheVariants as cues
use Rattle.hy_record.specs.declared.message.MetaSay.{MetaSay}
use Rattle.hy_mwire.specs.declared.message.Message.{Message}
use Rattle.hy_mwire.specs.declared.message.Message.TheVariants.{Joined, Full, Say}
use Rattle.hy_mwire.specs.Front.{front_at, message}
use Rattle.hy_protocol.specs.Session.{Session, fresh_session}
use Rattle.hy_client.specs.declared.client.Client.{Client}
use Rattle.hy_drive.specs.declared.cloud_lines.CloudLines.{CloudLines}
use Rattle.hy_drive.specs.declared.driver.Driver.{Driver}
use Rattle.hy_drive.specs.declared.driver.Next.{Next}
use Rattle.hy_drive.specs.declared.driver.Next.TheVariants.{Send, Again, Idle, Replied}
use Rattle.hy_drive.specs.declared.fault.DriveFault.{DriveFault}
use Rattle.hy_drive.specs.declared.fault.DriveFault.TheVariants.{NetFault, SessionsFull, TooLarge, NotYet, NoMemory}
use Rattle.hy_drive.specs.declared.job.Job.{Job}
use Rattle.hy_drive.specs.State.{DriveState, Service, live, over, nothing, full, IsFree, IsSettled}
use Rattle.hy_drive.specs.Going.{DriveGoes, hears, breaks, too_large, invoked, invoked_by, told_by, passed}
use Rattle.hy_drive.specs.Held.{HoldsService, HoldsLine, line_at, HearsNothing, waits, faulty}
use Rattle.hy_drive.specs.Standing.{StandsFor, HoldsClient, IsSendableOut}
use Rattle.hy_drive.specs.Stepping.{stays, judges, Steps, Rests, Follows, Tells, HearsAnswer, HearsSession, Begins, BeginsTo}
use Rattle.hy_drive.proofs.Following.{SameLines, service-stands, lines-stay}
use Rattle.hy_drive.proofs.Taking.{client-stands}

-- a message was heard by a client, or by none
heard-as : (job : Job) (state : DriveState) (conn : ℕ) (rest : List ℕ) (place size : ℕ) (said : Message) (client : Option Session) → state.client ≡ client → IsSettled state
    → state.service ≡ live conn rest place → front_at place rest ≡ message said size → DriveGoes job state (told_by job (passed state conn rest place size) client said)
heard-as job state conn rest place size said client is settled service front =
    subst (λ (c : Option Session). DriveGoes job state (told_by job (passed state conn rest place size) c said)) is (hears state conn rest place said size settled service front)

-- ---- before its number

invoked-left : (job : Job) (state : DriveState) (s : Session) (large : Option ℕ) → (invoked_by job state s large).left ≡ state.left
invoked-left job state s None = refl
invoked-left job state s (Some size) = refl

invoked-pending : (job : Job) (state : DriveState) (s : Session) (large : Option ℕ) → (invoked_by job state s large).pending ≡ state.pending
invoked-pending job state s None = refl
invoked-pending job state s (Some size) = refl

begun-follows : (job : Job) (state after : DriveState) (new : Driver) (result : Result Next DriveFault) → DriveGoes job state after → after.left ≡ state.left → after.pending ≡ nothing
    → BeginsTo job after new result → Follows job state new result
begun-follows job state after new (Ok Again) goes left pending begins = record { after = after; goes = goes; free = record { clear = pending; goes = begins.1 }; stands = begins.0; left = left }
begun-follows job state after new (Ok (Send out)) goes left pending begins = absurd begins
begun-follows job state after new (Ok Idle) goes left pending begins = absurd begins
begun-follows job state after new (Ok (Replied reply)) goes left pending begins = absurd begins
begun-follows job state after new (Err (TooLarge size)) goes left pending begins = record { after = after; goes = goes; shows = begins.0; large = begins.1 }
begun-follows job state after new (Err NoMemory) goes left pending begins = tt
begun-follows job state after new (Err NetFault) goes left pending begins = begins
begun-follows job state after new (Err SessionsFull) goes left pending begins = absurd begins
begun-follows job state after new (Err (NotYet have need)) goes left pending begins = begins

pub joined-heard : (job : Job) (old new : Driver) (number : ℕ) (result : Result Next DriveFault) → Begins job old new number result → HearsSession job old new (Joined number) result
joined-heard job old new number result begins state conn rest place size none settled service front stands =
    let mid = passed state conn rest place size in
    begun-follows job state (invoked job mid number) new result (heard-as job state conn rest place size (Joined number) None none settled service front)
    (invoked-left job mid (fresh_session job.f job.k number) (too_large job.action))
    (invoked-pending job mid (fresh_session job.f job.k number) (too_large job.action) ∙ settled.free.clear)
    (begins mid none settled.sent settled.free.goes stands)

pub full-heard : (job : Job) (old : Driver) → HearsSession job old old Full (Err SessionsFull)
full-heard job old state conn rest place size none settled service front stands = record {
  after = record (passed state conn rest place size) { outcome = full };
  goes = heard-as job state conn rest place size Full None none settled service front;
  shows = refl;
  large = tt;
}

still : (job : Job) (old : Driver) (state : DriveState) (conn : ℕ) (rest : List ℕ) (place size : ℕ) → IsSettled state → DriveGoes job state (passed state conn rest place size)
    → StandsFor job old (passed state conn rest place size) → Steps job state old
still job old state conn rest place size settled goes stands = record {
  after = passed state conn rest place size;
  goes = goes;
  free = record { clear = settled.free.clear; goes = settled.free.goes };
  stands = stands;
  left = refl;
}

-- what is neither a number nor Full
pub other-heard : (job : Job) (old : Driver) (said : Message) → ((mid : DriveState) → told_by job mid None said ≡ mid) → HearsSession job old old said (Ok Again)
other-heard job old said same state conn rest place size none settled service front stands =
    still job old state conn rest place size settled
    (subst (λ (a : DriveState). DriveGoes job state a) (same (passed state conn rest place size)) (heard-as job state conn rest place size said None none settled service front)) stands

-- ---- from its number on

pub answer-heard : (old new : Driver) (say : MetaSay) → SameLines old new → new.client ≡ old.client → new.sends ≡ old.sends → new.inputs.items ≡ old.inputs.items ++ cues.Meta say ∷ []
    → HearsAnswer old new (Say say) (Ok Again)
answer-heard old new say same client sends inputs job state conn rest place size s some settled service front stands = record {
  after = record (passed state conn rest place size) { inputs = cues.Meta say ∷ [] };
  goes = heard-as job state conn rest place size (Say say) (Some s) some settled service front;
  free = record { clear = settled.free.clear; goes = settled.free.goes };
  stands = record {
    service = service-stands old new _ same stands.service;
    lines = lines-stay old new state.lines same stands.lines;
    client = client-stands job old new state.client client stands.client;
    sends = stands.sends ∙ sym (ap (λ q. q.items) sends);
    inputs = sym (inputs ∙ ap (λ (l : List Cue). l ++ cues.Meta say ∷ []) (sym stands.inputs ∙ settled.handed));
    sendable = subst (λ q. All IsSendableOut q.items) (sym sends) stands.sendable;
  };
  left = refl;
}

-- what is no answer
pub other-told : (old : Driver) (said : Message) → ((job : Job) (mid : DriveState) (s : Session) → told_by job mid (Some s) said ≡ mid) → HearsAnswer old old said (Ok Again)
other-told old said same job state conn rest place size s some settled service front stands =
    still job old state conn rest place size settled
    (subst (λ (a : DriveState). DriveGoes job state a) (same job (passed state conn rest place size) s) (heard-as job state conn rest place size said (Some s) some settled service front)) stands

known-by : (job : Job) (old new : Driver) (said : Message) (result : Result Next DriveFault) (held : Option Client) (client : Option Session) → HearsAnswer old new said result → is_some held ≡ true
    → HoldsClient job held client
    → (state : DriveState) (conn : ℕ) (rest : List ℕ) (place size : ℕ) → state.client ≡ client → IsSettled state → state.service ≡ live conn rest place → front_at place rest ≡ message said size
    → StandsFor job old (passed state conn rest place size) → Follows job state new result
known-by job old new said result None client heard some holds state conn rest place size is settled service front stands = absurd (let e : false ≡ true = some in cc)
known-by job old new said result (Some held) None heard some holds state conn rest place size is settled service front stands = absurd holds
known-by job old new said result (Some held) (Some s) heard some holds state conn rest place size is settled service front stands =
    heard job state conn rest place size s is settled service front stands

pub client-heard : (job : Job) (old new : Driver) (said : Message) (result : Result Next DriveFault) → HearsAnswer old new said result → is_some old.client ≡ true → Tells job old new said result
client-heard job old new said result heard some state conn rest place size settled service front stands =
    known-by job old new said result old.client state.client heard some stands.client state conn rest place size refl settled service front stands

-- ---- nothing to hear

rests-by : (job : Job) (old new : Driver) (state : DriveState) → IsFree state → state.sends ≡ [] → state.inputs ≡ [] → StandsFor job old state → HearsNothing state.service new.service
    → new.lines ≡ old.lines → new.client ≡ old.client → new.sends ≡ old.sends → new.inputs ≡ old.inputs → Rests job state new
rests-by job old new state free sent handed stands (waits heard holds) lines client sends inputs = record {
  after = state;
  judges = stays;
  idle = record { settled = record { free = free; sent = sent; handed = handed }; heard = heard };
  stands = record {
    service = holds;
    lines = λ c. subst (λ (l : CloudLines). HoldsLine (line_at l c) (state.lines c)) (sym lines) (stands.lines c);
    client = client-stands job old new state.client client stands.client;
    sends = stands.sends ∙ sym (ap (λ q. q.items) sends);
    inputs = stands.inputs ∙ sym (ap (λ q. q.items) inputs);
    sendable = subst (λ q. All IsSendableOut q.items) (sym sends) stands.sendable;
  };
  left = refl;
}
rests-by job old new state free sent handed stands (faulty conn rest place wrong is front holds) lines client sends inputs = record {
  after = record state { service = over };
  judges = judges (record state { service = over }) (breaks state conn rest place wrong (record { free = free; sent = sent; handed = handed }) is front);
  idle = record { settled = record { free = record { clear = free.clear; goes = free.goes }; sent = sent; handed = handed }; heard = tt };
  stands = record {
    service = holds;
    lines = λ c. subst (λ (l : CloudLines). HoldsLine (line_at l c) (state.lines c)) (sym lines) (stands.lines c);
    client = client-stands job old new state.client client stands.client;
    sends = stands.sends ∙ sym (ap (λ q. q.items) sends);
    inputs = stands.inputs ∙ sym (ap (λ q. q.items) inputs);
    sendable = subst (λ q. All IsSendableOut q.items) (sym sends) stands.sendable;
  };
  left = refl;
}

pub rests-now : (job : Job) (old new : Driver) → ((service : Service) → HoldsService old.service service → HearsNothing service new.service)
    → new.lines ≡ old.lines → new.client ≡ old.client → new.sends ≡ old.sends → new.inputs ≡ old.inputs
    → (state : DriveState) → IsFree state → state.sends ≡ [] → state.inputs ≡ [] → StandsFor job old state → Rests job state new
rests-now job old new hears-none lines client sends inputs state free sent handed stands =
    rests-by job old new state free sent handed stands (hears-none state.service stands.service) lines client sends inputs
