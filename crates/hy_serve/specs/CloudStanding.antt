-- What a cloud's server keeps of the state that it is in.
use Rattle.std.specs.Prelude.{◌≡◌, ◌==◌, ℕ, false, List, [], ◌∷◌, ◌++◌, Option, Some, None}
use Rattle.std.specs.Ordering.{nat_cmp}
use Rattle.std.specs.BTreeMap as tree
use Rattle.hy_base.specs.declared.arrival.Arrived.{Arrived}
use Rattle.hy_base.specs.Moves.{Request}
use Rattle.hy_cloud.specs.declared.cloud.Cloud.{Cloud}
use Rattle.hy_cloud.specs.Objects.{StandsForWishes}
use Rattle.hy_cwire.specs.declared.ask_head.AskHead.{AskHead}
use Rattle.hy_cwire.specs.declared.progress.Progress.{Progress}
use Rattle.hy_cwire.specs.Readers.{IsAskAt, ask_body_size}
use Rattle.hy_cwire.specs.Writing.{IsSendableAct}
use Rattle.hy_record.specs.declared.cloud.Wish.{Wish}
use Rattle.hy_serve.specs.declared.answer.Answer.{Answer}
use Rattle.hy_serve.specs.declared.cloud_lines.Reading.{Reading}
use Rattle.hy_serve.specs.declared.cloud_lines.Reading.TheVariants.{Partial, Asks, Wrong}
use Rattle.hy_serve.specs.declared.cloud_server.CloudServer.{CloudServer}
use Rattle.hy_serve.specs.Answer.{requests_of}
use Rattle.hy_serve.specs.Incomplete.{IsIncomplete}
use Rattle.hy_serve.specs.CloudRole.{Line, unopened, asking, over, CloudState, Outcome, waits, asks, wrongs, ComesTo, CloudGoes, cloud_took, answer_on}
use Rattle.hy_cwire.specs.Fault.{status_of}
use Rattle.hy_protocol.specs.Cloud.{cloud_answer}
use Rattle.hy_record.specs.declared.cloud.CloudSay.TheVariants.{Bad}

-- the connection: none where it was never opened, none inside where it counts no more
abbrev pub HeldLine : Type 0
HeldLine = Option (Option (Progress AskHead))

unfoldable pub line_at : CloudServer → ℕ → HeldLine
line_at server conn = tree.get nat_cmp server.lines conn

-- a request that is neither whole nor faulty
abbrev pub IsWaiting : Progress AskHead → Type 0
IsWaiting progress = IsIncomplete ask_body_size progress

pub record IsAsking (progress : Progress AskHead) (line : Line) : Type 0 where
  pub bytes : List ℕ
  pub is : line ≡ asking bytes
  pub at : IsAskAt bytes progress
  pub waiting : IsWaiting progress

abbrev pub HoldsLine : HeldLine → Line → Type 0
HoldsLine None line = line ≡ unopened
HoldsLine (Some None) line = line ≡ over
HoldsLine (Some (Some progress)) line = IsAsking progress line

-- no request puts more than a value
abbrev pub AreSmall : List Wish → Type 0
AreSmall [] = Unit {0}
AreSmall (wish ∷ wishes) = IsSendableAct wish.act × AreSmall wishes

-- the cloud serves these requests
pub record Stocks (cloud : Cloud) (wishes : List Wish) : Type 0 where
  pub stands : StandsForWishes cloud wishes
  pub small : AreSmall wishes

-- the server is in this state, but for the calls that are due
pub record StandsFor (server : CloudServer) (state : CloudState) : Type 0 where
  pub lines : (conn : ℕ) → HoldsLine (line_at server conn) (state.lines conn)
  pub cloud : Stocks server.cloud state.wishes

-- it is in some state
abbrev pub IsSome : CloudServer → Type 0
IsSome server = (state : CloudState) × StandsFor server state

abbrev pub IsStocked : Cloud → Type 0
IsStocked cloud = (wishes : List Wish) × Stocks cloud wishes

-- one connection changed, and nothing else
pub record SetsLine (old new : CloudServer) (conn : ℕ) (change : Line → Line) : Type 0 where
  pub line : (line : Line)
      → HoldsLine (line_at old conn) line
      → HoldsLine (line_at new conn) (change line)
  pub others : (c : ℕ) → (conn == c) ≡ false → line_at new c ≡ line_at old c
  pub cloud : new.cloud ≡ old.cloud

-- ---- requests

abbrev pub outcome : Reading → Outcome
outcome Partial = waits
outcome (Asks wish) = asks wish
outcome (Wrong wrong) = wrongs wrong

abbrev pub IsSmall : Reading → Type 0
IsSmall Partial = Unit {0}
IsSmall (Asks wish) = IsSendableAct wish.act
IsSmall (Wrong wrong) = Unit {0}

-- the line of a connection of which these bytes came
abbrev pub line_behind : List ℕ → Reading → Line
line_behind bytes Partial = asking bytes
line_behind bytes (Asks wish) = over
line_behind bytes (Wrong wrong) = over

-- the reader goes on where the request is not whole
abbrev pub GoesOn : List ℕ → Progress AskHead → Reading → Type 0
GoesOn bytes progress Partial = IsAskAt bytes progress × IsWaiting progress
GoesOn bytes progress (Asks wish) = Unit {0}
GoesOn bytes progress (Wrong wrong) = Unit {0}

-- these bytes came to this
pub record ReadsTo (bytes : List ℕ) (progress : Progress AskHead) (reading : Reading) : Type 0 where
  pub comes : ComesTo bytes (outcome reading)
  pub small : IsSmall reading
  pub goes_on : GoesOn bytes progress reading

-- a reader of a request that was not whole took a piece
abbrev pub Reads : Progress AskHead → Progress AskHead → List ℕ → Reading → Type 0
Reads old new piece reading = IsWaiting old
    → (bytes : List ℕ)
    → IsAskAt bytes old
    → ReadsTo (bytes ++ piece) new reading

-- the bytes of a connection that asks came to this; those of another count for nothing
pub record ReadsAsking (bytes : List ℕ) (held : HeldLine) (reading : Reading) : Type 0 where
  pub comes : ComesTo bytes (outcome reading)
  pub small : IsSmall reading
  pub line : HoldsLine held (line_behind bytes reading)

abbrev pub ReadsLine : Line → List ℕ → HeldLine → Reading → Type 0
ReadsLine unopened piece held reading = (reading ≡ Partial) × HoldsLine held unopened
ReadsLine (asking bytes) piece held reading = ReadsAsking (bytes ++ piece) held reading
ReadsLine over piece held reading = (reading ≡ Partial) × HoldsLine held over

abbrev pub ReadsOn :
    Option (Progress AskHead) → Option (Progress AskHead) → List ℕ → Reading → Type 0
ReadsOn old new piece reading =
    (line : Line) → HoldsLine (Some old) line → ReadsLine line piece (Some new) reading

-- the bytes of this connection went on, and nothing else
pub record ReadsAt (old new : CloudServer) (conn : ℕ)
    (piece : List ℕ)
    (reading : Reading) : Type 0 where
  pub line : (line : Line)
      → HoldsLine (line_at old conn) line
      → ReadsLine line piece (line_at new conn) reading
  pub others : (c : ℕ) → (conn == c) ≡ false → line_at new c ≡ line_at old c
  pub cloud : new.cloud ≡ old.cloud

-- the calls that answer it
abbrev pub replies : List Wish → ℕ → Outcome → List Request
replies wishes conn waits = []
replies wishes conn (asks wish) = answer_on conn (cloud_answer wishes wish)
replies wishes conn (wrongs wrong) = answer_on conn (Bad (status_of wrong))

abbrev pub wishes_behind : List Wish → Outcome → List Wish
wishes_behind wishes waits = wishes
wishes_behind wishes (asks wish) = wish ∷ wishes
wishes_behind wishes (wrongs wrong) = wishes

-- what was read was answered, and nothing but the objects changed
pub record Replies (old new : CloudServer) (conn : ℕ)
    (reading : Reading)
    (answer : Option Answer) : Type 0 where
  pub lines : new.lines ≡ old.lines
  pub answers : (wishes : List Wish)
      → Stocks old.cloud wishes
      → requests_of answer ≡ replies wishes conn (outcome reading)
  pub serves : (wishes : List Wish)
      → Stocks old.cloud wishes
      → Stocks new.cloud (wishes_behind wishes (outcome reading))

-- ---- a whole arrival

-- the state behind the arrival, or the one behind the judgement that it calls for
pub data Settles (mid : CloudState) : CloudState → Type 0 where
  stays : Settles mid mid
  judges : (after : CloudState) → CloudGoes mid after → Settles mid after

-- the arrival was taken, and the answer is due
pub record Reacts (state : CloudState) (a : Arrived)
    (server : CloudServer)
    (answer : Option Answer) : Type 0 where
  pub after : CloudState
  pub settles : Settles (cloud_took state a) after
  pub stands : StandsFor server after
  pub judged : after.judging ≡ None
  pub due : after.due ≡ requests_of answer
  pub left : after.left ≡ state.left
  pub listens : after.broken ≡ state.broken
