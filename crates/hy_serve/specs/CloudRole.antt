-- The cloud's side of the protocol over a net: one request a connection, which is answered, and the
-- connection closed.
use Rattle.std.specs.Prelude.{◌≡◌, ◌==◌, ℕ, suc, Bool, true, false, ◌||◌, List, [], ◌∷◌, ◌++◌, length, nat_lt, Option, Some, None, Result, OnOk, IsErrOf, ◌⊎◌, if◌then◌else◌}
use Rattle.hy_base.specs.declared.arrival.Arrived.{Arrived}
use Rattle.hy_base.specs.declared.arrival.Arrived.TheVariants.{Opened, Bytes, Closed, Quiet}
use Rattle.hy_base.specs.Moves.{Move, Call, Request, listen, dial, send, close, to_listen, to_send, to_close, request_of}
use Rattle.hy_record.specs.declared.cloud.CloudSay.{CloudSay}
use Rattle.hy_record.specs.declared.cloud.CloudSay.TheVariants.{Bad}
use Rattle.hy_record.specs.declared.cloud.Wish.{Wish}
use Rattle.hy_cwire.specs.declared.ask_head.AskHead.{AskHead}
use Rattle.hy_cwire.specs.declared.fault.HttpFault.{HttpFault}
use Rattle.hy_cwire.specs.declared.progress.Progress.{Progress}
use Rattle.hy_cwire.specs.declared.progress.Progress.TheVariants.{Head, Body, Given, Broken}
use Rattle.hy_cwire.specs.Asks.{wish_of}
use Rattle.hy_cwire.specs.Fault.{status_of}
use Rattle.hy_cwire.specs.Readers.{IsAskAt}
use Rattle.hy_cwire.specs.Stages.{IsOpen}
use Rattle.hy_cwire.specs.Writing.{say_bytes}
use Rattle.hy_protocol.specs.Cloud.{cloud_answer}
use Rattle.hy_serve.specs.declared.fault.ServeFault.{ServeFault}
use Rattle.hy_serve.specs.declared.fault.ServeFault.TheVariants.{NetFault}
use Rattle.hy_serve.specs.Course.{Leads}

-- a connection: it was never opened, it asks and so many bytes came, or nothing more of it counts
pub data Line : Type 0 where
  unopened : Line
  asking : (bytes : List ℕ) → Line
  over : Line

-- where a cloud's server is: the arrivals that it is still to take, the connections, the one whose
-- bytes are to be judged, the requests that it served, the newest first, the calls that are due,
-- and whether it could not listen
pub record CloudState : Type 0 where
  pub left : ℕ
  pub lines : ℕ → Line
  pub judging : Option ℕ
  pub wishes : List Wish
  pub due : List Request
  pub broken : Bool

abbrev pub cloud_begun : ℕ → ℕ → CloudState
cloud_begun port arrivals = record {
  left = arrivals;
  lines = λ conn. unopened;
  judging = None;
  wishes = [];
  due = to_listen port ∷ [];
  broken = false;
}

-- no call is due, and nothing is to be judged
pub record IsIdle (state : CloudState) : Type 0 where
  pub done : state.due ≡ []
  pub judged : state.judging ≡ None
  pub listens : state.broken ≡ false

abbrev pub with_line : CloudState → ℕ → Line → CloudState
with_line state conn line = record state { lines = λ c. if conn == c then line else state.lines c }

-- ---- calls

abbrev pub is_failed_listen : Call → Bool
is_failed_listen (listen port true) = false
is_failed_listen (listen port false) = true
is_failed_listen (dial port number) = false
is_failed_listen (send conn piece done) = false
is_failed_listen (close conn) = false

-- the call was the first that was due
pub record CloudCalls (before : CloudState) (call : Call) (after : CloudState) : Type 0 where
  pub later : List Request
  pub due : before.due ≡ request_of call ∷ later
  pub is : after ≡ record before { due = later; broken = before.broken || is_failed_listen call }

-- ---- arrivals

abbrev pub opened : Line → Line
opened unopened = asking []
opened (asking bytes) = asking bytes
opened over = over

abbrev pub closed : Line → Line
closed unopened = unopened
closed (asking bytes) = over
closed over = over

-- the bytes of a connection that asks go on, and are to be judged
abbrev pub fed : CloudState → ℕ → List ℕ → Line → CloudState
fed state conn piece unopened = state
fed state conn piece (asking bytes) =
    record (with_line state conn (asking (bytes ++ piece))) { judging = Some conn }
fed state conn piece over = state

abbrev pub cloud_took : CloudState → Arrived → CloudState
cloud_took state (Opened conn) = with_line state conn (opened (state.lines conn))
cloud_took state (Bytes conn piece) = fed state conn piece (state.lines conn)
cloud_took state (Closed conn) = with_line state conn (closed (state.lines conn))
cloud_took state Quiet = state

-- an arrival is taken when nothing else is to be done and one is left to take
pub record CloudTakes (before : CloudState) (a : Arrived) (after : CloudState) : Type 0 where
  pub idle : IsIdle before
  pub left : ℕ
  pub one : before.left ≡ suc left
  pub is : after ≡ cloud_took (record before { left = left }) a

-- ---- requests

-- what bytes come to: a request that is not whole yet, a request, or a fault
pub data Outcome : Type 0 where
  waits : Outcome
  asks : Wish → Outcome
  wrongs : HttpFault → Outcome

abbrev pub outcome_of : Progress AskHead → Outcome
outcome_of (Head front) = waits
outcome_of (Body head body) =
    if nat_lt (length body) head.size then waits else asks (wish_of head body)
outcome_of Given = waits
outcome_of (Broken wrong) = wrongs wrong

-- these bytes, behind which more may come, come to this
pub record ComesTo (bytes : List ℕ) (outcome : Outcome) : Type 0 where
  pub progress : Progress AskHead
  pub at : IsAskAt bytes progress
  pub open_still : IsOpen progress
  pub is : outcome ≡ outcome_of progress

-- the answer, and the end of its connection
abbrev pub answer_on : ℕ → CloudSay → List Request
answer_on conn say = to_send conn (say_bytes say) ∷ to_close conn ∷ []

abbrev pub answered : CloudState → ℕ → CloudSay → CloudState
answered state conn say = record (with_line state conn over) { due = answer_on conn say }

-- a whole request is served and answered, and a fault is answered by its status; the connection
-- counts no more
abbrev pub cloud_judged : CloudState → ℕ → Outcome → CloudState
cloud_judged state conn waits = record state { judging = None }
cloud_judged state conn (asks wish) =
    answered
    (record state { judging = None; wishes = wish ∷ state.wishes })
    conn
    (cloud_answer state.wishes wish)
cloud_judged state conn (wrongs wrong) =
    answered (record state { judging = None }) conn (Bad (status_of wrong))

-- the bytes that were to be judged were judged
pub record CloudGoes (before after : CloudState) : Type 0 where
  pub conn : ℕ
  pub bytes : List ℕ
  pub outcome : Outcome
  pub judging : before.judging ≡ Some conn
  pub line : before.lines conn ≡ asking bytes
  pub comes : ComesTo bytes outcome
  pub is : after ≡ cloud_judged before conn outcome

-- these moves of a cloud's server led to this state
abbrev pub CloudLeads : ℕ → ℕ → List Move → CloudState → Type 0
CloudLeads port arrivals moves state =
    Leads (cloud_begun port arrivals) CloudCalls CloudTakes CloudGoes moves state

-- ---- how it ends

-- it waits for an arrival that it is to take
pub record WantsMore (state : CloudState) : Type 0 where
  pub idle : IsIdle state
  pub left : ℕ
  pub more : state.left ≡ suc left

-- it took all that it was to take, and did what was due
pub record IsDone (state : CloudState) : Type 0 where
  pub idle : IsIdle state
  pub none : state.left ≡ 0

-- how a cloud's server played, and why it ended
pub record ServesCloud (port arrivals : ℕ)
    (result : Result Unit ServeFault)
    (moves : List Move) : Type 0 where
  pub state : CloudState
  pub course : CloudLeads port arrivals moves state
  pub ok : OnOk result (IsDone state)
  pub fault : IsErrOf result NetFault → (state.broken ≡ true) ⊎ WantsMore state
