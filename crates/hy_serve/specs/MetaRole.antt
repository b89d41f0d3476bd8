-- The metadata service's side of the protocol over a net: each connection is one client's, which
-- joins by its first message.
use Rattle.std.specs.Prelude.{◌≡◌, ◌==◌, ℕ, suc, Bool, true, false, List, [], ◌∷◌, filter, Option, Some, None, Result, Ok, Err, OnOk, IsErrOf, ◌⊎◌, if◌then◌else◌}
use Rattle.std.specs.List.{flat_map}
use Rattle.hy_base.specs.declared.arrival.Arrived.{Arrived}
use Rattle.hy_base.specs.declared.arrival.Arrived.TheVariants.{Opened, Bytes, Closed, Quiet}
use Rattle.hy_base.specs.Moves.{Move, Call, Request, listen, dial, send, close, to_listen, to_dial, to_send, to_close, request_of}
use Rattle.hy_record.specs.declared.message.MetaAsk.{MetaAsk}
use Rattle.hy_record.specs.declared.message.MetaSay.{MetaSay}
use Rattle.hy_mwire.specs.declared.fault.FrameFault.{FrameFault}
use Rattle.hy_mwire.specs.declared.message.Message.{Message}
use Rattle.hy_mwire.specs.declared.message.Message.TheVariants.{Join, Joined, Full, Ask, Say}
use Rattle.hy_mwire.specs.Frames.{frame_of}
use Rattle.hy_mwire.specs.Stream.{Unread, fresh_stream, with_piece, judged_stream, next_answer, after_next}
use Rattle.hy_meta.specs.declared.meta.SessionsFull.{SessionsFull}
use Rattle.hy_meta.specs.Meta.{service_answers}
use Rattle.hy_meta.specs.Run.{asker_of, addressee_of}
use Rattle.hy_meta.specs.Sessions.{next_session, sessions_after}
use Rattle.hy_serve.specs.declared.fault.ServeFault.{ServeFault}
use Rattle.hy_serve.specs.declared.fault.ServeFault.TheVariants.{NetFault}
use Rattle.hy_serve.specs.declared.meta_lines.Session.{Session}
use Rattle.hy_serve.specs.declared.meta_lines.Session.TheVariants.{Unasked, Of, Refused}
use Rattle.hy_serve.specs.declared.meta_lines.Step.{Step}
use Rattle.hy_serve.specs.declared.meta_lines.Step.TheVariants.{Waits, Ends, Joins, Asks}
use Rattle.hy_serve.specs.Course.{Leads}

-- ---- connections

-- a connection: it was never opened; it is in this session, and has this stream, of which the
-- messages in front were taken; or nothing more of it counts
pub data Line : Type 0 where
  unopened : Line
  talking : (session : Session) → (stream : Unread) → Line
  over : Line

abbrev pub opened : Line → Line
opened unopened = talking Unasked fresh_stream
opened (talking session stream) = talking session stream
opened over = over

abbrev pub closed : Line → Line
closed unopened = unopened
closed (talking session stream) = over
closed over = over

-- the stream of a connection goes on by a piece
abbrev pub fed : List ℕ → Line → Line
fed piece unopened = unopened
fed piece (talking session stream) = talking session (judged_stream (with_piece stream piece))
fed piece over = over

abbrev pub in_session : Session → Line → Line
in_session session unopened = unopened
in_session session (talking was stream) = talking session stream
in_session session over = over

abbrev pub is_talking : Line → Bool
is_talking unopened = false
is_talking (talking session stream) = true
is_talking over = false

-- ---- messages

-- a client asks for itself alone
abbrev pub step_of_client : ℕ → MetaAsk → Step
step_of_client client ask = if (asker_of ask).client == client then Asks ask else Ends

-- the first message of a connection joins, and each later one is a request of the client that
-- joined; any other ends the connection
abbrev pub step_by : Session → Message → Step
step_by Unasked Join = Joins
step_by Unasked (Joined client) = Ends
step_by Unasked Full = Ends
step_by Unasked (Ask ask) = Ends
step_by Unasked (Say say) = Ends
step_by (Of client) Join = Ends
step_by (Of client) (Joined other) = Ends
step_by (Of client) Full = Ends
step_by (Of client) (Ask ask) = step_of_client client ask
step_by (Of client) (Say say) = Ends
step_by Refused said = Ends

-- what a stream comes to that is read on: nothing yet, a fault, or a message
abbrev pub step_of : Session → Result (Option Message) FrameFault → Step
step_of session (Ok None) = Waits
step_of session (Ok (Some said)) = step_by session said
step_of session (Err wrong) = Ends

-- what comes next on a connection
abbrev pub next_step : Line → Step
next_step unopened = Waits
next_step (talking session stream) = step_of session (next_answer stream)
next_step over = Waits

abbrev pub line_behind : Session → Unread → Step → Line
line_behind session stream Waits = talking session stream
line_behind session stream Ends = over
line_behind session stream Joins = talking session stream
line_behind session stream (Asks ask) = talking session stream

-- the connection behind it
abbrev pub next_line : Line → Line
next_line unopened = unopened
next_line (talking session stream) =
    line_behind session (after_next stream) (step_of session (next_answer stream))
next_line over = over

-- ---- states

-- where the server is: the arrivals that it is still to take, the connections, the one that is to
-- be read on, how many sessions were given, the connection on which each client joined, the
-- requests that were served, the newest first, the calls that are due, and whether it could not
-- listen
pub record MetaState : Type 0 where
  pub left : ℕ
  pub lines : ℕ → Line
  pub reading : Option ℕ
  pub given : ℕ
  pub homes : ℕ → Option ℕ
  pub asks : List MetaAsk
  pub due : List Request
  pub broken : Bool

abbrev pub meta_begun : ℕ → ℕ → MetaState
meta_begun port arrivals = record {
  left = arrivals;
  lines = λ conn. unopened;
  reading = None;
  given = 0;
  homes = λ client. None;
  asks = [];
  due = to_listen port ∷ [];
  broken = false;
}

-- no call is due, and nothing is to be read
pub record IsIdle (state : MetaState) : Type 0 where
  pub done : state.due ≡ []
  pub read : state.reading ≡ None
  pub listens : state.broken ≡ false

abbrev pub with_line : MetaState → ℕ → Line → MetaState
with_line state conn line = record state { lines = λ c. if conn == c then line else state.lines c }

-- ---- calls

-- a connection is open, where bytes are due on it
abbrev pub is_deliverable : (ℕ → Line) → Request → Bool
is_deliverable lines (to_listen port) = true
is_deliverable lines (to_dial port) = true
is_deliverable lines (to_send conn piece) = is_talking (lines conn)
is_deliverable lines (to_close conn) = true

-- without what is due on a connection that is not open
abbrev pub deliverable : (ℕ → Line) → List Request → List Request
deliverable lines requests = filter (is_deliverable lines) requests

-- nothing more of the connection counts; it is to be closed, and what was due on it falls away
abbrev pub cut : MetaState → ℕ → List Request → MetaState
cut state conn later = record (with_line state conn over) {
  due = to_close conn ∷ deliverable (with_line state conn over).lines later;
}

-- behind a call, where these are due later; a connection on which bytes could not be sent is cut
abbrev pub meta_called : MetaState → Call → List Request → MetaState
meta_called state (listen port true) later = record state { due = later }
meta_called state (listen port false) later = record state { due = later; broken = true }
meta_called state (dial port number) later = record state { due = later }
meta_called state (send conn piece true) later = record state { due = later }
meta_called state (send conn piece false) later = cut state conn later
meta_called state (close conn) later = record state { due = later }

-- the call was the first that was due
pub record MetaCalls (before : MetaState) (call : Call) (after : MetaState) : Type 0 where
  pub later : List Request
  pub due : before.due ≡ request_of call ∷ later
  pub is : after ≡ meta_called before call later

-- ---- arrivals

abbrev pub meta_took : MetaState → Arrived → MetaState
meta_took state (Opened conn) = with_line state conn (opened (state.lines conn))
meta_took state (Bytes conn piece) =
    record (with_line state conn (fed piece (state.lines conn))) { reading = Some conn }
meta_took state (Closed conn) = with_line state conn (closed (state.lines conn))
meta_took state Quiet = state

-- an arrival is taken when nothing else is to be done and one is left to take
pub record MetaTakes (before : MetaState) (a : Arrived) (after : MetaState) : Type 0 where
  pub idle : IsIdle before
  pub left : ℕ
  pub one : before.left ≡ suc left
  pub is : after ≡ meta_took (record before { left = left }) a

-- ---- messages that are served

-- the frame of a message, to the connection on which its client joined
abbrev pub letter_to : Option ℕ → MetaSay → List Request
letter_to None say = []
letter_to (Some conn) say = to_send conn (frame_of (Say say)) ∷ []

abbrev pub letters_for : (ℕ → Option ℕ) → List MetaSay → List Request
letters_for homes says = flat_map (λ say. letter_to (homes (addressee_of say).client) say) says

-- a client gets a session, or there is none left
abbrev pub joined : MetaState → ℕ → Result ℕ SessionsFull → MetaState
joined state conn (Ok client) =
    record (with_line state conn (in_session (Of client) (state.lines conn))) {
      given = sessions_after state.given;
      homes = λ c. if client == c then Some conn else state.homes c;
      due = to_send conn (frame_of (Joined client)) ∷ [];
    }
joined state conn (Err full) =
    record (with_line state conn (in_session Refused (state.lines conn))) {
      due = to_send conn (frame_of Full) ∷ [];
    }

-- a request is served, and its answers go to the open connections of their clients
abbrev pub served : MetaState → MetaAsk → MetaState
served state ask = record state {
  asks = ask ∷ state.asks;
  due = deliverable state.lines (letters_for state.homes (service_answers state.asks ask));
}

abbrev pub stepped : MetaState → ℕ → Step → MetaState
stepped state conn Waits = record state { reading = None }
stepped state conn Ends = record state { due = to_close conn ∷ [] }
stepped state conn Joins = joined state conn (next_session state.given)
stepped state conn (Asks ask) = served state ask

-- what comes next on the connection was read
abbrev pub meta_read : MetaState → ℕ → MetaState
meta_read state conn =
    stepped
    (with_line state conn (next_line (state.lines conn)))
    conn
    (next_step (state.lines conn))

-- the connection that is to be read on was read on, after what was due before
pub record MetaGoes (before after : MetaState) : Type 0 where
  pub conn : ℕ
  pub reading : before.reading ≡ Some conn
  pub done : before.due ≡ []
  pub is : after ≡ meta_read before conn

-- these moves of the server led to this state
abbrev pub MetaLeads : ℕ → ℕ → List Move → MetaState → Type 0
MetaLeads port arrivals moves state =
    Leads (meta_begun port arrivals) MetaCalls MetaTakes MetaGoes moves state

-- ---- how it ends

-- it waits for an arrival that it is to take
pub record WantsMore (state : MetaState) : Type 0 where
  pub idle : IsIdle state
  pub left : ℕ
  pub more : state.left ≡ suc left

-- it took all that it was to take, and did what was due
pub record IsDone (state : MetaState) : Type 0 where
  pub idle : IsIdle state
  pub none : state.left ≡ 0

-- how the server played, and why it ended
pub record ServesMeta (port arrivals : ℕ)
    (result : Result Unit ServeFault)
    (moves : List Move) : Type 0 where
  pub state : MetaState
  pub course : MetaLeads port arrivals moves state
  pub ok : OnOk result (IsDone state)
  pub fault : IsErrOf result NetFault → (state.broken ≡ true) ⊎ WantsMore state
