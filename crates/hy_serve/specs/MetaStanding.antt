-- What the metadata server keeps of the state that it is in.
use Rattle.std.specs.Prelude.{◌≡◌, ◌==◌, ◌<◌, ◌+◌, ℕ, true, List, [], ◌∷◌, length, map, Option, Some, None, ⊤, if◌then◌else◌}
use Rattle.std.specs.Ordering.{nat_cmp}
use Rattle.std.specs.BTreeMap as tree
use Rattle.hy_base.specs.declared.arrival.Arrived.{Arrived}
use Rattle.hy_base.specs.Moves.{Request, to_send, to_close}
use Rattle.hy_mwire.specs.Message.{IsFramedAsk}
use Rattle.hy_meta.specs.Held.{Serves}
use Rattle.hy_serve.specs.declared.letter.Letter.{Letter}
use Rattle.hy_serve.specs.declared.letter.Turn.{Turn}
use Rattle.hy_serve.specs.declared.letter.Turn.TheVariants.{Rests, Closes, Sends}
use Rattle.hy_serve.specs.declared.meta_server.MetaServer.{MetaServer}
use Rattle.hy_serve.specs.MetaLines.{seen}
use Rattle.hy_serve.specs.declared.meta_lines.Step.{Step}
use Rattle.hy_serve.specs.declared.meta_lines.Step.TheVariants.{Waits, Ends, Joins, Asks}
use Rattle.hy_serve.specs.MetaRole.{Line, unopened, talking, over, is_talking, MetaState, deliverable, meta_took, stepped, meta_read}

-- the connection of this number
unfoldable pub line_of : MetaServer → ℕ → Line
line_of server conn = seen (tree.get nat_cmp server.lines conn)

-- the connection on which this client joined
unfoldable pub home_of : MetaServer → ℕ → Option ℕ
home_of server client = tree.get nat_cmp server.homes client

-- the server is in this state, but for the calls that are due and for what is to be read and taken
pub record StandsFor (server : MetaServer) (state : MetaState) : Type 0 where
  pub lines : (conn : ℕ) → line_of server conn ≡ state.lines conn
  pub homes : (client : ℕ) → home_of server client ≡ state.homes client
  pub given : server.service.given ≡ state.given
  pub serves : Serves server.service state.asks

-- one connection is this now, and nothing else changed
pub record SetsLine (old new : MetaServer) (conn : ℕ) (line : Line) : Type 0 where
  pub lines : (c : ℕ) → line_of new c ≡ (if conn == c then line else line_of old c)
  pub homes : new.homes ≡ old.homes
  pub service : new.service ≡ old.service

-- ---- what is to be done

abbrev pub request_for : Letter → Request
request_for letter = to_send letter.conn letter.bytes

abbrev pub requests_for : List Letter → List Request
requests_for letters = map request_for letters

-- the calls of a turn, where each connection is open
abbrev pub requests_in : ℕ → Turn → List Request
requests_in conn Rests = []
requests_in conn Closes = to_close conn ∷ []
requests_in conn (Sends letters) = requests_for letters.items

-- what is to be read behind a turn
abbrev pub reading_behind : ℕ → Turn → Option ℕ
reading_behind conn Rests = None
reading_behind conn Closes = Some conn
reading_behind conn (Sends letters) = Some conn

-- a frame carries what is asked
abbrev pub IsFramedStep : Step → Type 0
IsFramedStep Waits = ⊤
IsFramedStep Ends = ⊤
IsFramedStep Joins = ⊤
IsFramedStep (Asks ask) = IsFramedAsk ask

-- these are due in the turn, whichever connection was read
pub record SendsAll (turn : Turn) (requests : List Request) : Type 0 where
  pub due : (conn : ℕ) → requests_in conn turn ≡ requests
  pub goes_on : (conn : ℕ) → reading_behind conn turn ≡ Some conn

-- the connection is to be read on, and no call is due
pub record IsReading (conn : ℕ) (state : MetaState) : Type 0 where
  pub reading : state.reading ≡ Some conn
  pub done : state.due ≡ []

-- the server is in this state, in which the turn is due, and is to be read on behind it
pub record Turns (after : MetaState) (conn : ℕ) (server : MetaServer) (turn : Turn) : Type 0 where
  pub stands : StandsFor server after
  pub due : after.due ≡ deliverable after.lines (requests_in conn turn)
  pub reading : after.reading ≡ reading_behind conn turn

-- what comes next on the connection is this, and it is due
abbrev pub Answers : MetaServer → MetaServer → ℕ → Step → Turn → Type 0
Answers old new conn step turn = (state : MetaState)
    → IsReading conn state
    → StandsFor old state
    → (step ≡ Joins → is_talking (state.lines conn) ≡ true)
    → Turns (stepped state conn step) conn new turn

-- what comes next on the connection was read, and is due
abbrev pub ReadsNext : MetaServer → MetaServer → ℕ → Turn → Type 0
ReadsNext old new conn turn = (state : MetaState)
    → IsReading conn state
    → StandsFor old state
    → Turns (meta_read state conn) conn new turn

-- the arrival was taken, and this is to be read behind it
pub record Took (after : MetaState) (server : MetaServer) (reading : Option ℕ) : Type 0 where
  pub stands : StandsFor server after
  pub is : after.reading ≡ reading

abbrev pub TakesIn : MetaServer → MetaServer → Arrived → Option ℕ → Type 0
TakesIn old new a reading = (state : MetaState)
    → state.reading ≡ None
    → StandsFor old state
    → Took (meta_took state a) new reading

-- ---- how much is to be read

abbrev pub weight_of : Line → ℕ
weight_of unopened = 0
weight_of (talking session stream) = length stream.rest + 1
weight_of over = 0

abbrev pub weight_at : MetaServer → ℕ → ℕ
weight_at server conn = weight_of (line_of server conn)

-- there is less to be read behind a turn
abbrev pub Falls : MetaServer → MetaServer → ℕ → Turn → Type 0
Falls old new conn Rests = Unit {0}
Falls old new conn Closes = weight_at new conn < weight_at old conn
Falls old new conn (Sends letters) = weight_at new conn < weight_at old conn
