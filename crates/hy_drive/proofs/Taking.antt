-- Lemmas on what an arrival makes of a client over a net.
use Rattle.std.proofs.Common.{◌≡◌, ◌==◌, ℕ, Bool, true, false, List, [], ◌∷◌, ◌++◌, Option, Some, None, is_some, refl, sym, ap, subst, ◌∙◌, cond, eq-eqb}
use Rattle.std.proofs.lemmas.Bool.{cases_Bool, cond-true, cond-false, eqb-true}
use Rattle.std.proofs.Math.Logic.{⊎_elim}
use Rattle.std.specs.Prelude.{All, if◌then◌else◌}
use Rattle.hy_base.specs.declared.arrival.Arrived.{Arrived}
use Rattle.hy_base.specs.declared.arrival.Arrived.TheVariants.{Opened, Bytes, Closed, Quiet}
use Rattle.hy_record.specs.declared.cloud.CloudSay.{CloudSay}
use Rattle.hy_record.specs.declared.cloud.CloudSay.TheVariants.{Bad}
use Rattle.hy_record.specs.declared.turn.Cue.{Cue}
use Rattle.hy_record.specs.declared.turn.Cue.TheVariants.{Tick}
use Rattle.hy_protocol.specs.Session.{Session}
use Rattle.hy_client.specs.declared.client.Client.{Client}
use Rattle.hy_drive.specs.declared.cloud_lines.CloudLine.{CloudLine}
use Rattle.hy_drive.specs.declared.cloud_lines.CloudLines.{CloudLines}
use Rattle.hy_drive.specs.declared.driver.Driver.{Driver}
use Rattle.hy_drive.specs.declared.errand.Errand.{Errand}
use Rattle.hy_drive.specs.declared.job.Job.{Job}
use Rattle.hy_drive.specs.declared.service_line.ServiceLine.{ServiceLine}
use Rattle.hy_drive.specs.State.{DriveState, Service, Pending, over, nothing, judging, closing, going, Waiting, with_line, answer_to, IsHeard, IsIdle}
use Rattle.hy_drive.specs.Judging.{ComesTo, kind_of, judged}
use Rattle.hy_drive.specs.Arriving.{is_service, longer, fed, closed, timed_out, drive_took}
use Rattle.hy_drive.specs.Going.{judges as goes_judged}
use Rattle.hy_drive.specs.Held.{HoldsService, StreamsOn, HoldsLine, line_at, KeepsOthers, ReadsOn, RepliesAt, with_more, TakesLine, taken, errand_answer}
use Rattle.hy_drive.specs.Standing.{StandsFor, HoldsClient, IsSendableOut}
use Rattle.hy_drive.specs.Stepping.{is_service_of, Reacts, Judges, stays, judges, Takes}

-- ---- parts

-- the parts of a client that are not named stay
pub record SameRest (old new : Driver) : Type 0 where
  pub client : new.client ≡ old.client
  pub sends : new.sends ≡ old.sends

pub service-known : (held : Option ServiceLine) (service : Service) (conn : ℕ) → HoldsService held service → is_service service conn ≡ is_service_of held conn
service-known None service conn holds = ap (λ (s : Service). is_service s conn) holds
service-known (Some line) service conn holds = ap (λ (s : Service). is_service s conn) holds.is

-- the connection has this line, and the others have theirs
pub lines-stand : (old new : CloudLines) (lines after : ℕ → Option Waiting) (conn : ℕ) (line : Option Waiting) → ((c : ℕ) → HoldsLine (line_at old c) (lines c))
    → HoldsLine (line_at new conn) line → KeepsOthers old new conn → ((c : ℕ) → after c ≡ (if conn == c then line else lines c)) → (c : ℕ) → HoldsLine (line_at new c) (after c)
lines-stand old new lines after conn line holds here others is c = ⊎_elim
    (λ y. subst (λ (l : Option Waiting). HoldsLine (line_at new c) l) (sym (is c ∙ cond-true (conn == c) line (lines c) y))
    (subst (λ n. HoldsLine (line_at new n) line) (eqb-true conn c y) here))
    (λ n. subst (λ (l : Option Waiting). HoldsLine (line_at new c) l) (sym (is c ∙ cond-false (conn == c) line (lines c) n))
    (subst (λ (held : Option CloudLine). HoldsLine held (lines c)) (sym (others c n)) (holds c)))
    (cases_Bool (conn == c))

twice : (b : Bool) (x y z : Option Waiting) → cond b x (cond b y z) ≡ cond b x z
twice true x y z = refl
twice false x y z = refl

same-line : (lines : ℕ → Option Waiting) (conn c : ℕ) → lines c ≡ (if conn == c then lines conn else lines c)
same-line lines conn c = ⊎_elim
    (λ y. ap lines (sym (eqb-true conn c y)) ∙ sym (cond-true (conn == c) _ _ y))
    (λ n. sym (cond-false (conn == c) _ _ n))
    (cases_Bool (conn == c))

pub client-stands : (job : Job) (old new : Driver) (client : Option Session) → new.client ≡ old.client → HoldsClient job old.client client → HoldsClient job new.client client
client-stands job old new client same holds = subst (λ (held : Option Client). HoldsClient job held client) (sym same) holds

no-line : (held : Option CloudLine) (line : Option Waiting) → held ≡ None → HoldsLine held None
no-line held line is = subst (λ (h : Option CloudLine). HoldsLine h None) (sym is) tt

-- ---- the service's stream

longer-holds : (held new : Option ServiceLine) (service : Service) (piece : List ℕ) (conn : ℕ) → HoldsService held service → IsHeard service → is_service_of held conn ≡ true
    → StreamsOn held new piece → HoldsService new (longer service piece)
longer-holds None new service piece conn holds heard is streams = absurd (let e : false ≡ true = is in cc)
longer-holds (Some line) new service piece conn holds heard is streams =
    subst (λ (s : Service). HoldsService new (longer s piece)) (sym holds.is)
    (streams line.conn line.reader.rest line.reader.place (record { is = refl; taken = holds.taken; said = holds.said; stands = holds.stands }) (subst IsHeard holds.is heard))

took-bytes : (state : DriveState) (conn : ℕ) (piece : List ℕ) (on : Bool) (line : Option Waiting) → is_service state.service conn ≡ on → state.lines conn ≡ line
    → drive_took state (Bytes conn piece) ≡ fed state conn piece on line
took-bytes state conn piece on line first second = ap (λ (b : Bool). fed state conn piece b (state.lines conn)) first ∙ ap (λ (l : Option Waiting). fed state conn piece on l) second

took-close : (state : DriveState) (conn : ℕ) (on : Bool) (line : Option Waiting) → is_service state.service conn ≡ on → state.lines conn ≡ line
    → drive_took state (Closed conn) ≡ closed state conn on line
took-close state conn on line first second = ap (λ (b : Bool). closed state conn b (state.lines conn)) first ∙ ap (λ (l : Option Waiting). closed state conn on l) second

-- where nothing is judged
pub at-once : (job : Job) (state : DriveState) (a : Arrived) (new : Driver) (after : DriveState) → drive_took state a ≡ after → StandsFor job new after
    → after.pending ≡ nothing → after.outcome ≡ going → after.left ≡ state.left → Reacts job state a new None
at-once job state a new after took stands pending goes left = record {
  after = after;
  judges = subst (λ (m : DriveState). Judges job m after) (sym took) stays;
  stands = stands;
  pending = pending;
  goes = goes;
  left = left;
}

pub service-fed : (old new : Driver) (conn : ℕ) (piece : List ℕ) → is_service_of old.service conn ≡ true → StreamsOn old.service new.service piece
    → new.lines ≡ old.lines → new.inputs ≡ old.inputs → SameRest old new → Takes old new (Bytes conn piece) None
service-fed old new conn piece on streams lines inputs rest job state idle stands =
    at-once job state (Bytes conn piece) new (record state { service = longer state.service piece })
    (took-bytes state conn piece true (state.lines conn) (service-known old.service state.service conn stands.service ∙ on) refl)
    (record {
      service = longer-holds old.service new.service state.service piece conn stands.service idle.heard on streams;
      lines = λ c. subst (λ (l : CloudLines). HoldsLine (line_at l c) (state.lines c)) (sym lines) (stands.lines c);
      client = client-stands job old new state.client rest.client stands.client;
      sends = stands.sends ∙ sym (ap (λ s. s.items) rest.sends);
      inputs = stands.inputs ∙ sym (ap (λ s. s.items) inputs);
      sendable = subst (λ s. All IsSendableOut s.items) (sym rest.sends) stands.sendable;
    })
    idle.settled.free.clear idle.settled.free.goes refl

-- ---- clouds

-- the lines, what is due before all else and the inputs changed, and nothing else
pub stands-with : (job : Job) (old new : Driver) (state : DriveState) (lines : ℕ → Option Waiting) (pending : Pending) (inputs : List Cue) → StandsFor job old state
    → new.service ≡ old.service → SameRest old new → ((c : ℕ) → HoldsLine (line_at new.lines c) (lines c)) → inputs ≡ new.inputs.items
    → StandsFor job new (record state { lines = lines; pending = pending; inputs = inputs })
stands-with job old new state lines pending inputs stands service rest holds are = record {
  service = subst (λ (held : Option ServiceLine). HoldsService held state.service) (sym service) stands.service;
  lines = holds;
  client = client-stands job old new state.client rest.client stands.client;
  sends = stands.sends ∙ sym (ap (λ s. s.items) rest.sends);
  inputs = are;
  sendable = subst (λ s. All IsSendableOut s.items) (sym rest.sends) stands.sendable;
}

-- the first input where none was due
pub first-input : (job : Job) (old : Driver) (state : DriveState) (items : List Cue) (input : Cue) → IsIdle state → StandsFor job old state → items ≡ old.inputs.items ++ input ∷ [] → input ∷ [] ≡ items
first-input job old state items input idle stands are =
    sym (are ∙ ap (λ (l : List Cue). l ++ input ∷ []) (sym stands.inputs ∙ idle.settled.handed))

-- what the bytes of a cloud make of a state
abbrev pub mid : DriveState → ℕ → Waiting → List ℕ → DriveState
mid state conn waiting piece = record (with_line state conn (Some (with_more waiting piece))) { pending = judging conn }

waits-here : (state : DriveState) (conn : ℕ) (waiting : Waiting) (piece : List ℕ) → (mid state conn waiting piece).lines conn ≡ Some (with_more waiting piece)
waits-here state conn waiting piece = cond-true (conn == conn) _ _ (eq-eqb conn conn refl)

judged-bytes : (job : Job) (state : DriveState) (conn : ℕ) (piece : List ℕ) (waiting : Waiting) (answer : Option CloudSay) → is_service state.service conn ≡ false → state.lines conn ≡ Some waiting
    → ComesTo (kind_of waiting.ask.wish.act) (waiting.bytes ++ piece) answer
    → Judges job (drive_took state (Bytes conn piece)) (judged (mid state conn waiting piece) conn (with_more waiting piece) answer)
judged-bytes job state conn piece waiting answer off is comes =
    subst (λ (m : DriveState). Judges job m (judged (mid state conn waiting piece) conn (with_more waiting piece) answer)) (sym (took-bytes state conn piece false (Some waiting) off is))
    (judges (judged (mid state conn waiting piece) conn (with_more waiting piece) answer)
    (goes_judged (mid state conn waiting piece) conn (with_more waiting piece) answer refl (waits-here state conn waiting piece) comes))

-- bytes that bring no answer
fed-by : (job : Job) (old new : Driver) (conn : ℕ) (piece : List ℕ) (state : DriveState) (line : Option Waiting) → state.lines conn ≡ line → is_service state.service conn ≡ false
    → IsIdle state → StandsFor job old state → RepliesAt line piece (line_at new.lines conn) None → KeepsOthers old.lines new.lines conn
    → new.service ≡ old.service → new.inputs ≡ old.inputs → SameRest old new → Reacts job state (Bytes conn piece) new None
fed-by job old new conn piece state None is off idle stands replies others service inputs rest =
    at-once job state (Bytes conn piece) new state (took-bytes state conn piece false None off is)
    (stands-with job old new state state.lines state.pending state.inputs stands service rest
    (lines-stand old.lines new.lines state.lines state.lines conn (state.lines conn) stands.lines
    (subst (λ (l : Option Waiting). HoldsLine (line_at new.lines conn) l) (sym is) (no-line (line_at new.lines conn) None replies.1)) others (same-line state.lines conn))
    (stands.inputs ∙ sym (ap (λ s. s.items) inputs)))
    idle.settled.free.clear idle.settled.free.goes refl
fed-by job old new conn piece state (Some waiting) is off idle stands replies others service inputs rest = record {
  after = judged (mid state conn waiting piece) conn (with_more waiting piece) None;
  judges = judged-bytes job state conn piece waiting None off is replies.0;
  stands = stands-with job old new state (mid state conn waiting piece).lines nothing state.inputs stands service rest
      (lines-stand old.lines new.lines state.lines (mid state conn waiting piece).lines conn (Some (with_more waiting piece)) stands.lines replies.1 others (λ c. refl))
      (stands.inputs ∙ sym (ap (λ s. s.items) inputs));
  pending = refl;
  goes = idle.settled.free.goes;
  left = refl;
}

pub cloud-fed : (old new : Driver) (conn : ℕ) (piece : List ℕ) → is_service_of old.service conn ≡ false → ReadsOn old.lines new.lines conn piece None
    → new.service ≡ old.service → new.inputs ≡ old.inputs → SameRest old new → Takes old new (Bytes conn piece) None
cloud-fed old new conn piece off reads service inputs rest job state idle stands =
    fed-by job old new conn piece state (state.lines conn) refl (service-known old.service state.service conn stands.service ∙ off) idle stands
    (reads.line (state.lines conn) (stands.lines conn)) reads.others service inputs rest

-- bytes that bring an answer
answered-by : (job : Job) (old new : Driver) (conn : ℕ) (piece : List ℕ) (input : Cue) (state : DriveState) (line : Option Waiting) → state.lines conn ≡ line → is_service state.service conn ≡ false
    → IsIdle state → StandsFor job old state → RepliesAt line piece (line_at new.lines conn) (Some input) → KeepsOthers old.lines new.lines conn
    → new.service ≡ old.service → new.inputs.items ≡ old.inputs.items ++ input ∷ [] → SameRest old new → Reacts job state (Bytes conn piece) new (Some conn)
answered-by job old new conn piece input state None is off idle stands replies others service inputs rest = absurd (let e : ◌≡◌ {A = Option Cue} (Some input) None = replies.0 in cc)
answered-by job old new conn piece input state (Some waiting) is off idle stands replies others service inputs rest =
    let after = judged (mid state conn waiting piece) conn (with_more waiting piece) (Some replies.say) in record {
      after = after;
      judges = judged-bytes job state conn piece waiting (Some replies.say) off is replies.comes;
      stands = stands-with job old new state after.lines (closing conn) (answer_to waiting.ask replies.say ∷ []) stands service rest
          (lines-stand old.lines new.lines state.lines after.lines conn None stands.lines (no-line (line_at new.lines conn) None replies.gone) others
          (λ c. twice (conn == c) None (Some (with_more waiting piece)) (state.lines c)))
          (ap (λ (i : Cue). i ∷ []) (sym replies.is) ∙ first-input job old state new.inputs.items input idle stands inputs);
      pending = refl;
      goes = idle.settled.free.goes;
      left = refl;
    }

pub cloud-answered : (old new : Driver) (conn : ℕ) (piece : List ℕ) (input : Cue) → is_service_of old.service conn ≡ false → ReadsOn old.lines new.lines conn piece (Some input)
    → new.service ≡ old.service → new.inputs.items ≡ old.inputs.items ++ input ∷ [] → SameRest old new → Takes old new (Bytes conn piece) (Some conn)
cloud-answered old new conn piece input off reads service inputs rest job state idle stands =
    answered-by job old new conn piece input state (state.lines conn) refl (service-known old.service state.service conn stands.service ∙ off) idle stands
    (reads.line (state.lines conn) (stands.lines conn)) reads.others service inputs rest

-- ---- a connection closes

pub service-closed : (old new : Driver) (conn : ℕ) → is_service_of old.service conn ≡ true → new.service ≡ None → new.lines ≡ old.lines → new.inputs ≡ old.inputs → SameRest old new
    → Takes old new (Closed conn) None
service-closed old new conn on service lines inputs rest job state idle stands =
    at-once job state (Closed conn) new (record state { service = over })
    (took-close state conn true (state.lines conn) (service-known old.service state.service conn stands.service ∙ on) refl)
    (record {
      service = subst (λ (held : Option ServiceLine). HoldsService held over) (sym service) refl;
      lines = λ c. subst (λ (l : CloudLines). HoldsLine (line_at l c) (state.lines c)) (sym lines) (stands.lines c);
      client = client-stands job old new state.client rest.client stands.client;
      sends = stands.sends ∙ sym (ap (λ s. s.items) rest.sends);
      inputs = stands.inputs ∙ sym (ap (λ s. s.items) inputs);
      sendable = subst (λ s. All IsSendableOut s.items) (sym rest.sends) stands.sendable;
    })
    idle.settled.free.clear idle.settled.free.goes refl

cut-by : (job : Job) (old new : Driver) (conn : ℕ) (input : Cue) (state : DriveState) (line : Option Waiting) (held : Option CloudLine) → state.lines conn ≡ line → is_service state.service conn ≡ false
    → IsIdle state → StandsFor job old state → HoldsLine held line → Some input ≡ taken held (Bad 0) → line_at new.lines conn ≡ None → KeepsOthers old.lines new.lines conn
    → new.service ≡ old.service → new.inputs.items ≡ old.inputs.items ++ input ∷ [] → SameRest old new → Reacts job state (Closed conn) new None
cut-by job old new conn input state line None is off idle stands holds takes here others service inputs rest = absurd (let e : ◌≡◌ {A = Option Cue} (Some input) None = takes in cc)
cut-by job old new conn input state None (Some held) is off idle stands holds takes here others service inputs rest = absurd holds
cut-by job old new conn input state (Some waiting) (Some held) is off idle stands holds takes here others service inputs rest =
    let after = closed state conn false (Some waiting) in
    let same : input ≡ errand_answer held.errand (Bad 0) = let e : ◌≡◌ {A = Option Cue} (Some input) (Some (errand_answer held.errand (Bad 0))) = takes in cc in
    at-once job state (Closed conn) new after (took-close state conn false (Some waiting) off is)
    (stands-with job old new state after.lines state.pending after.inputs stands service rest
    (lines-stand old.lines new.lines state.lines after.lines conn None stands.lines (no-line (line_at new.lines conn) None here) others (λ c. refl))
    (ap (λ (i : Cue). i ∷ []) (sym (same ∙ ap (λ (errand : Errand). errand_answer errand (Bad 0)) holds.errand)) ∙ first-input job old state new.inputs.items input idle stands inputs))
    idle.settled.free.clear idle.settled.free.goes refl

pub cloud-cut : (old new : Driver) (conn : ℕ) (input : Cue) → is_service_of old.service conn ≡ false → TakesLine old.lines new.lines conn (Bad 0) (Some input)
    → new.service ≡ old.service → new.inputs.items ≡ old.inputs.items ++ input ∷ [] → SameRest old new → Takes old new (Closed conn) None
cloud-cut old new conn input off takes service inputs rest job state idle stands =
    cut-by job old new conn input state (state.lines conn) (line_at old.lines conn) refl (service-known old.service state.service conn stands.service ∙ off) idle stands
    (stands.lines conn) takes.answers takes.here takes.others service inputs rest

ended-by : (job : Job) (old new : Driver) (conn : ℕ) (state : DriveState) (line : Option Waiting) (held : Option CloudLine) → state.lines conn ≡ line → is_service state.service conn ≡ false
    → IsIdle state → StandsFor job old state → HoldsLine held line → None ≡ taken held (Bad 0) → line_at new.lines conn ≡ None → KeepsOthers old.lines new.lines conn
    → new.service ≡ old.service → new.inputs ≡ old.inputs → SameRest old new → Reacts job state (Closed conn) new None
ended-by job old new conn state line (Some held) is off idle stands holds takes here others service inputs rest =
    absurd (let e : ◌≡◌ {A = Option Cue} None (Some (errand_answer held.errand (Bad 0))) = takes in cc)
ended-by job old new conn state (Some waiting) None is off idle stands holds takes here others service inputs rest = absurd holds
ended-by job old new conn state None None is off idle stands holds takes here others service inputs rest =
    at-once job state (Closed conn) new state (took-close state conn false None off is)
    (stands-with job old new state state.lines state.pending state.inputs stands service rest
    (lines-stand old.lines new.lines state.lines state.lines conn (state.lines conn) stands.lines
    (subst (λ (l : Option Waiting). HoldsLine (line_at new.lines conn) l) (sym is) (no-line (line_at new.lines conn) None here)) others (same-line state.lines conn))
    (stands.inputs ∙ sym (ap (λ s. s.items) inputs)))
    idle.settled.free.clear idle.settled.free.goes refl

pub cloud-ended : (old new : Driver) (conn : ℕ) → is_service_of old.service conn ≡ false → TakesLine old.lines new.lines conn (Bad 0) None
    → new.service ≡ old.service → new.inputs ≡ old.inputs → SameRest old new → Takes old new (Closed conn) None
cloud-ended old new conn off takes service inputs rest job state idle stands =
    ended-by job old new conn state (state.lines conn) (line_at old.lines conn) refl (service-known old.service state.service conn stands.service ∙ off) idle stands
    (stands.lines conn) takes.answers takes.here takes.others service inputs rest

-- ---- a timeout

tick-by : (job : Job) (old new : Driver) (state : DriveState) (held : Option Client) (client : Option Session) → state.client ≡ client → HoldsClient job held client → is_some held ≡ true
    → IsIdle state → StandsFor job old state → new.service ≡ old.service → new.lines ≡ old.lines → new.inputs.items ≡ old.inputs.items ++ Tick ∷ [] → SameRest old new → Reacts job state Quiet new None
tick-by job old new state None client is holds some idle stands service lines inputs rest = absurd (let e : false ≡ true = some in cc)
tick-by job old new state (Some held) None is holds some idle stands service lines inputs rest = absurd holds
tick-by job old new state (Some held) (Some s) is holds some idle stands service lines inputs rest =
    at-once job state Quiet new (record state { inputs = Tick ∷ [] }) (ap (timed_out state) is)
    (stands-with job old new state state.lines state.pending (Tick ∷ []) stands service rest
    (λ c. subst (λ (l : CloudLines). HoldsLine (line_at l c) (state.lines c)) (sym lines) (stands.lines c))
    (first-input job old state new.inputs.items Tick idle stands inputs))
    idle.settled.free.clear idle.settled.free.goes refl

pub ticks : (old new : Driver) → is_some old.client ≡ true → new.service ≡ old.service → new.lines ≡ old.lines → new.inputs.items ≡ old.inputs.items ++ Tick ∷ [] → SameRest old new → Takes old new Quiet None
ticks old new some service lines inputs rest job state idle stands =
    tick-by job old new state old.client state.client refl stands.client some idle stands service lines inputs rest

pub no-client : (job : Job) (held : Option Client) (client : Option Session) → HoldsClient job held client → is_some held ≡ false → client ≡ None
no-client job None None holds none = refl
no-client job None (Some s) holds none = absurd holds
no-client job (Some held) client holds none = absurd (let e : true ≡ false = none in cc)

pub rests : (driver : Driver) → is_some driver.client ≡ false → Takes driver driver Quiet None
rests driver none job state idle stands =
    at-once job state Quiet driver state (ap (timed_out state) (no-client job driver.client state.client stands.client none)) stands
    idle.settled.free.clear idle.settled.free.goes refl

pub opens : (driver : Driver) (conn : ℕ) → Takes driver driver (Opened conn) None
opens driver conn job state idle stands = at-once job state (Opened conn) driver state refl stands idle.settled.free.clear idle.settled.free.goes refl
