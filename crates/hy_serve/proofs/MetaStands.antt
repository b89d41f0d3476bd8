-- Lemmas on what an arrival and a message make of the metadata server.
use Rattle.std.proofs.Common.{◌≡◌, ◌==◌, ◌+◌, ℕ, true, List, [], ◌∷◌, All, Option, Some, None, Result, Ok, Err, refl, sym, ap, subst, ◌∙◌, cond, eq-eqb}
use Rattle.std.proofs.lemmas.Bool.{cases_Bool, cond-true, cond-false}
use Rattle.std.proofs.Math.Logic.{⊎_elim}
use Rattle.std.specs.Prelude.{nat_lt, if◌then◌else◌}
use Rattle.std.specs.Ordering.{nat_cmp}
use Rattle.std.specs.BTreeMap as tree
use Rattle.std.specs.BTreeMap.{BTreeMap}
use Rattle.hy_base.specs.declared.arrival.Arrived.TheVariants.{Opened, Bytes, Closed}
use Rattle.hy_base.specs.declared.limits.TheConstants.{MAX_SESSIONS}
use Rattle.hy_base.specs.Moves.{Request, to_send}
use Rattle.hy_record.specs.declared.message.MetaAsk.{MetaAsk}
use Rattle.hy_record.specs.declared.message.MetaSay.{MetaSay}
use Rattle.hy_mwire.specs.declared.message.Message.TheVariants.{Joined, Full}
use Rattle.hy_mwire.specs.Message.{IsFramedAsk, IsFramedSay}
use Rattle.hy_mwire.specs.Frames.{frame_of}
use Rattle.hy_mwire.specs.Stream.{after_next}
use Rattle.hy_meta.specs.declared.meta.SessionsFull.{SessionsFull}
use Rattle.hy_meta.specs.declared.service.Service.{Service}
use Rattle.hy_meta.specs.Held.{Serves}
use Rattle.hy_meta.specs.Meta.{service_answers}
use Rattle.hy_meta.specs.Sessions.{next_session, sessions_after}
use Rattle.hy_serve.specs.declared.letter.Turn.{Turn}
use Rattle.hy_serve.specs.declared.meta_lines.Session.{Session}
use Rattle.hy_serve.specs.declared.meta_lines.Session.TheVariants.{Of, Refused}
use Rattle.hy_serve.specs.declared.meta_lines.Step.{Step}
use Rattle.hy_serve.specs.declared.meta_lines.Step.TheVariants.{Waits, Joins, Asks}
use Rattle.hy_serve.specs.declared.meta_server.MetaServer.{MetaServer}
use Rattle.hy_serve.specs.MetaRole.{Line, unopened, talking, over, opened, closed, fed, in_session, is_talking, next_step, next_line, line_behind, MetaState, with_line, deliverable, letters_for, joined, stepped}
use Rattle.hy_serve.specs.MetaStanding.{line_of, home_of, StandsFor, SetsLine, requests_in, SendsAll, Turns, Answers, ReadsNext, TakesIn}
use Rattle.hy_serve.proofs.Tables.{put-at}
use Rattle.hy_serve.proofs.MetaLetters.{letters-same}
use Rattle.hy_serve.proofs.MetaFramed.{answers-framed}

-- ---- one connection

-- the connection has this line, and the others have theirs
pub set-stands : (old new : MetaServer) (state : MetaState) (conn : ℕ) (change : Line → Line) → StandsFor old state → SetsLine old new conn (change (line_of old conn))
    → StandsFor new (with_line state conn (change (state.lines conn)))
unfolding home_of
set-stands old new state conn change stands sets = record {
  lines = λ c.
      sets.lines c
      ∙ ap (λ (l : Line). if conn == c then change l else line_of old c) (stands.lines conn)
      ∙ ap (λ (l : Line). if conn == c then change (state.lines conn) else l) (stands.lines c);
  homes = λ client. ap (λ (homes : BTreeMap ℕ ℕ). tree.get nat_cmp homes client) sets.homes ∙ stands.homes client;
  given = ap (λ (service : Service). service.given) sets.service ∙ stands.given;
  serves = subst (λ (service : Service). Serves service state.asks) (sym sets.service) stands.serves;
}

-- the line that was set
pub line-here : (state : MetaState) (conn : ℕ) (line : Line) → (with_line state conn line).lines conn ≡ line
line-here state conn line = cond-true (conn == conn) line (state.lines conn) (eq-eqb conn conn refl)

-- ---- an arrival

pub takes-opened : (old new : MetaServer) (conn : ℕ) → SetsLine old new conn (opened (line_of old conn)) → TakesIn old new (Opened conn) None
takes-opened old new conn sets state none stands = record { stands = set-stands old new state conn opened stands sets; is = none }

pub takes-closed : (old new : MetaServer) (conn : ℕ) → SetsLine old new conn (closed (line_of old conn)) → TakesIn old new (Closed conn) None
takes-closed old new conn sets state none stands = record { stands = set-stands old new state conn closed stands sets; is = none }

pub takes-bytes : (old new : MetaServer) (conn : ℕ) (piece : List ℕ) → SetsLine old new conn (fed piece (line_of old conn)) → TakesIn old new (Bytes conn piece) (Some conn)
takes-bytes old new conn piece sets state none stands =
    let set = set-stands old new state conn (fed piece) stands sets in
    record { stands = record { lines = set.lines; homes = set.homes; given = set.given; serves = set.serves }; is = refl }

-- ---- a client joins

-- what is sent on an open connection is due
due-here : (lines : ℕ → Line) (conn : ℕ) (piece : List ℕ) → is_talking (lines conn) ≡ true → to_send conn piece ∷ [] ≡ deliverable lines (to_send conn piece ∷ [])
due-here lines conn piece talks = sym (cond-true (is_talking (lines conn)) (to_send conn piece ∷ []) [] talks)

in-session-talks : (session : Session) (line : Line) → is_talking line ≡ true → is_talking (in_session session line) ≡ true
in-session-talks session unopened talks = talks
in-session-talks session (talking was stream) talks = refl
in-session-talks session over talks = talks

none-left : (given : ℕ) (full : SessionsFull) → Err full ≡ next_session given → sessions_after given ≡ given
none-left given full is = ⊎_elim
    (λ y. absurd (let no : Err full ≡ Ok (given + 1) = is ∙ cond-true (nat_lt given MAX_SESSIONS) (Ok (given + 1)) (Err (record {})) y in cc))
    (λ n. cond-false (nat_lt given MAX_SESSIONS) (given + 1) given n)
    (cases_Bool (nat_lt given MAX_SESSIONS))

-- the server behind the joining of a client
pub joins-one : (old mid new : MetaServer) (conn client : ℕ) (turn : Turn) → Ok client ≡ next_session old.service.given → mid.service.given ≡ sessions_after old.service.given
    → ((asks : List MetaAsk) → Serves old.service asks → Serves mid.service asks) → mid.lines ≡ old.lines
    → tree.UpdatesBy nat_cmp (nat_cmp client) old.homes mid.homes (Some conn)
    → SetsLine mid new conn (in_session (Of client) (line_of mid conn)) → SendsAll turn (to_send conn (frame_of (Joined client)) ∷ [])
    → Answers old new conn Joins turn
unfolding line_of home_of
joins-one old mid new conn client turn id given same lines updates sets sends state reading stands talks =
    let between : MetaState = record state { given = sessions_after state.given; homes = λ c. if client == c then Some conn else state.homes c } in
    let stands_between : StandsFor mid between = record {
      lines = λ c. ap (λ table. line_of (record { lines = table; homes = mid.homes; service = mid.service }) c) lines ∙ stands.lines c;
      homes = λ c. put-at old.homes mid.homes client conn updates c ∙ ap (λ (h : Option ℕ). cond (client == c) (Some conn) h) (stands.homes c);
      given = given ∙ ap sessions_after stands.given;
      serves = same state.asks stands.serves;
    } in
    let set = set-stands mid new between conn (in_session (Of client)) stands_between sets in
    let here = line-here between conn (in_session (Of client) (state.lines conn)) in
    let open_still = ap is_talking here ∙ in-session-talks (Of client) (state.lines conn) (talks refl) in
    let is : next_session state.given ≡ Ok client = ap next_session (sym stands.given) ∙ sym id in
    subst (λ (r : Result ℕ SessionsFull). Turns (joined state conn r) conn new turn) (sym is)
    (record {
      stands = record { lines = set.lines; homes = set.homes; given = set.given; serves = set.serves };
      due = due-here (joined state conn (Ok client)).lines conn (frame_of (Joined client)) open_still ∙ ap (λ (r : List Request). deliverable (joined state conn (Ok client)).lines r) (sym (sends.due conn));
      reading = reading.reading ∙ sym (sends.goes_on conn);
    })

-- the server behind a client that got no session
pub joins-none : (old mid new : MetaServer) (conn : ℕ) (full : SessionsFull) (turn : Turn) → Err full ≡ next_session old.service.given
    → mid.service.given ≡ sessions_after old.service.given → ((asks : List MetaAsk) → Serves old.service asks → Serves mid.service asks)
    → mid.lines ≡ old.lines → mid.homes ≡ old.homes
    → SetsLine mid new conn (in_session Refused (line_of mid conn)) → SendsAll turn (to_send conn (frame_of Full) ∷ [])
    → Answers old new conn Joins turn
unfolding line_of home_of
joins-none old mid new conn full turn id given same lines homes sets sends state reading stands talks =
    let stands_between : StandsFor mid state = record {
      lines = λ c. ap (λ table. line_of (record { lines = table; homes = mid.homes; service = mid.service }) c) lines ∙ stands.lines c;
      homes = λ c. ap (λ (table : BTreeMap ℕ ℕ). tree.get nat_cmp table c) homes ∙ stands.homes c;
      given = given ∙ none-left old.service.given full id ∙ stands.given;
      serves = same state.asks stands.serves;
    } in
    let set = set-stands mid new state conn (in_session Refused) stands_between sets in
    let here = line-here state conn (in_session Refused (state.lines conn)) in
    let open_still = ap is_talking here ∙ in-session-talks Refused (state.lines conn) (talks refl) in
    let is : next_session state.given ≡ Err full = ap next_session (sym stands.given) ∙ sym id in
    subst (λ (r : Result ℕ SessionsFull). Turns (joined state conn r) conn new turn) (sym is)
    (record {
      stands = record { lines = set.lines; homes = set.homes; given = set.given; serves = set.serves };
      due = due-here (joined state conn (Err full)).lines conn (frame_of Full) open_still ∙ ap (λ (r : List Request). deliverable (joined state conn (Err full)).lines r) (sym (sends.due conn));
      reading = reading.reading ∙ sym (sends.goes_on conn);
    })

-- ---- a request is served

pub serves-one : (old new : MetaServer) (ask : MetaAsk) (turn : Turn) (says : List MetaSay) (requests : List Request) → new.lines ≡ old.lines → new.homes ≡ old.homes
    → new.service.given ≡ old.service.given → ((asks : List MetaAsk) → Serves old.service asks → Serves new.service (ask ∷ asks))
    → ((asks : List MetaAsk) → Serves old.service asks → says ≡ service_answers asks ask)
    → IsFramedAsk ask → (All IsFramedSay says → requests ≡ letters_for (home_of new) says)
    → SendsAll turn requests → (conn : ℕ) → Answers old new conn (Asks ask) turn
unfolding line_of home_of
serves-one old new ask turn says requests lines homes given serves answers framed are sends conn state reading stands talks =
    let said = answers state.asks stands.serves in
    let each : All IsFramedSay says = subst (λ (s : List MetaSay). All IsFramedSay s) (sym said) (answers-framed state.asks ask framed) in
    let home : (c : ℕ) → home_of new c ≡ state.homes c = λ c. ap (λ (table : BTreeMap ℕ ℕ). tree.get nat_cmp table c) homes ∙ stands.homes c in
    let due : requests_in conn turn ≡ letters_for state.homes (service_answers state.asks ask) =
    sends.due conn ∙ are each ∙ letters-same (home_of new) state.homes says home ∙ ap (λ (s : List MetaSay). letters_for state.homes s) said in
    record {
      stands = record {
        lines = λ c. ap (λ table. line_of (record { lines = table; homes = new.homes; service = new.service }) c) lines ∙ stands.lines c;
        homes = home;
        given = given ∙ stands.given;
        serves = serves state.asks stands.serves;
      };
      due = ap (λ (r : List Request). deliverable state.lines r) (sym due);
      reading = reading.reading ∙ sym (sends.goes_on conn);
    }

-- ---- a message is read

joins-talks : (line : Line) → next_step line ≡ Joins → is_talking (next_line line) ≡ true
joins-talks unopened is = absurd (let no : Waits ≡ Joins = is in cc)
joins-talks (talking session stream) is = ap (λ (s : Step). is_talking (line_behind session (after_next stream) s)) is
joins-talks over is = absurd (let no : Waits ≡ Joins = is in cc)

pub reads-next : (old mid new : MetaServer) (conn : ℕ) (step : Step) (turn : Turn) → step ≡ next_step (line_of old conn) → SetsLine old mid conn (next_line (line_of old conn))
    → Answers mid new conn step turn → ReadsNext old new conn turn
reads-next old mid new conn step turn is sets answers state reading stands =
    let read = with_line state conn (next_line (state.lines conn)) in
    let here : next_step (line_of old conn) ≡ next_step (state.lines conn) = ap next_step (stands.lines conn) in
    subst (λ (s : Step). Turns (stepped read conn s) conn new turn) (is ∙ here)
    (answers read (record { reading = reading.reading; done = reading.done }) (set-stands old mid state conn next_line stands sets)
    (λ joins. ap is_talking (line-here state conn (next_line (state.lines conn))) ∙ joins-talks (state.lines conn) (sym here ∙ sym is ∙ joins)))
