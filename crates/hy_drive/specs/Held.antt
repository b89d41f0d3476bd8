-- What is kept of the connections.
use Rattle.std.specs.Prelude.{◌≡◌, ◌==◌, ◌+◌, ◌-◌, ◌^◌, min, ℕ, false, List, [], ◌++◌, drop, Option, Some, None}
use Rattle.std.specs.Ordering.{nat_cmp}
use Rattle.std.specs.BTreeMap as tree
use Rattle.hy_record.specs.declared.cloud.CloudAsk.{CloudAsk}
use Rattle.hy_record.specs.declared.cloud.CloudSay.{CloudSay}
use Rattle.hy_record.specs.declared.turn.Cue.{Cue}
use Rattle.hy_record.specs.declared.turn.Cue.TheVariants.{Cloud}
use Rattle.hy_mwire.specs.declared.fault.FrameFault.{FrameFault}
use Rattle.hy_mwire.specs.declared.message.Message.{Message}
use Rattle.hy_mwire.specs.Front.{front_at, partial, message, fault}
use Rattle.hy_mwire.specs.Message.{IsMessage}
use Rattle.hy_mwire.specs.Stream.{StandsFor}
use Rattle.hy_cwire.specs.declared.kind.WishKind.{WishKind}
use Rattle.hy_cwire.specs.declared.progress.Progress.{Progress}
use Rattle.hy_cwire.specs.declared.progress.Progress.TheVariants.{Head}
use Rattle.hy_cwire.specs.declared.say_head.SayHead.{SayHead}
use Rattle.hy_cwire.specs.Readers.{Answering, IsSayAt, say_body_size}
use Rattle.hy_serve.specs.Incomplete.{IsIncomplete}
use Rattle.hy_drive.specs.declared.errand.Errand.{Errand}
use Rattle.hy_drive.specs.declared.cloud_lines.CloudLine.{CloudLine}
use Rattle.hy_drive.specs.declared.cloud_lines.CloudLines.{CloudLines}
use Rattle.hy_drive.specs.declared.service_line.News.{News}
use Rattle.hy_drive.specs.declared.service_line.News.TheVariants.{Nothing, Said, Wrong}
use Rattle.hy_drive.specs.declared.service_line.ServiceLine.{ServiceLine}
use Rattle.hy_drive.specs.State.{Service, live, over, Waiting, IsHeard, answer_to}
use Rattle.hy_drive.specs.Judging.{kind_of, ComesTo}

-- ---- the service

-- the stream of the connection stands for what is left of some messages
pub record IsLive (line : ServiceLine) (service : Service) : Type 0 where
  pub is : service ≡ live line.conn line.reader.rest line.reader.place
  pub taken : List ℕ
  pub said : List Message
  pub stands : StandsFor taken said line.reader

abbrev pub HoldsService : Option ServiceLine → Service → Type 0
HoldsService None service = service ≡ over
HoldsService (Some line) service = IsLive line service

-- the stream behind a message of so many bytes
abbrev pub behind : ℕ → List ℕ → ℕ → ℕ → Service
behind conn rest place size = live conn (drop size rest) (min (place + size) (2 ^ 64 - 1))

-- a message in front was given, and its bytes are gone
pub record Gives (conn : ℕ) (rest : List ℕ) (place : ℕ)
    (held : Option ServiceLine)
    (said : Message) : Type 0 where
  pub size : ℕ
  pub front : front_at place rest ≡ message said size
  pub known : IsMessage said
  pub holds : HoldsService held (behind conn rest place size)

-- what stands in front of a stream, and what is left of it
abbrev pub NewsAt : ℕ → List ℕ → ℕ → ServiceLine → News → Type 0
NewsAt conn rest place new Nothing =
    (front_at place rest ≡ partial) × HoldsService (Some new) (live conn rest place)
NewsAt conn rest place new (Said said) = Gives conn rest place (Some new) said
NewsAt conn rest place new (Wrong wrong) = front_at place rest ≡ fault wrong

abbrev pub Reads : ServiceLine → ServiceLine → News → Type 0
Reads old new news = (conn : ℕ) (rest : List ℕ) (place : ℕ)
    → HoldsService (Some old) (live conn rest place)
    → NewsAt conn rest place new news

-- the stream went on
abbrev pub StreamsOn : Option ServiceLine → Option ServiceLine → List ℕ → Type 0
StreamsOn old new piece = (conn : ℕ) (rest : List ℕ) (place : ℕ)
    → HoldsService old (live conn rest place)
    → front_at place rest ≡ partial
    → HoldsService new (live conn (rest ++ piece) place)

-- no message was heard: none is whole, or the stream is faulty, and counts no more
pub data HearsNothing (service : Service) (new : Option ServiceLine) : Type 0 where
  waits : IsHeard service → HoldsService new service → HearsNothing service new
  faulty : (conn : ℕ) (rest : List ℕ) (place : ℕ) (wrong : FrameFault)
      → service ≡ live conn rest place
      → front_at place rest ≡ fault wrong
      → HoldsService new over
      → HearsNothing service new

-- this message was heard
pub record HearsMessage (service : Service)
    (new : Option ServiceLine)
    (said : Message) : Type 0 where
  pub conn : ℕ
  pub rest : List ℕ
  pub place : ℕ
  pub is : service ≡ live conn rest place
  pub gives : Gives conn rest place new said

abbrev pub HearsAt : Service → Option ServiceLine → Option Message → Type 0
HearsAt service new None = HearsNothing service new
HearsAt service new (Some said) = HearsMessage service new said

abbrev pub Hears : Option ServiceLine → Option ServiceLine → Option Message → Type 0
Hears old new heard = (service : Service) → HoldsService old service → HearsAt service new heard

-- ---- the clouds

abbrev pub errand_of : CloudAsk → Errand
errand_of ask = record {
  client = ask.client;
  op = ask.op;
  cloud = ask.cloud;
  key = ask.wish.key;
  stamp = ask.wish.stamp;
}

-- the answer, as an input of the client
abbrev pub errand_answer : Errand → CloudSay → Cue
errand_answer errand say =
    Cloud (record {
      client = errand.client;
      op = errand.op;
      cloud = errand.cloud;
      key = errand.key;
      stamp = errand.stamp;
      say = say;
    })

-- the connection of this number, if an answer is awaited on it
unfoldable pub line_at : CloudLines → ℕ → Option CloudLine
line_at lines conn = tree.get nat_cmp lines.lines conn

-- an answer that is neither whole nor faulty
abbrev pub IsUnfinished : Progress SayHead → Type 0
IsUnfinished progress = IsIncomplete say_body_size progress

-- so far the answer to the request came
pub record IsAwaited (line : CloudLine) (waiting : Waiting) : Type 0 where
  pub errand : line.errand ≡ errand_of waiting.ask
  pub asked : line.reader.asked ≡ kind_of waiting.ask.wish.act
  pub at : IsSayAt waiting.bytes line.reader.progress
  pub unfinished : IsUnfinished line.reader.progress

abbrev pub HoldsLine : Option CloudLine → Option Waiting → Type 0
HoldsLine None None = Unit {0}
HoldsLine (Some line) (Some waiting) = IsAwaited line waiting
HoldsLine None (Some waiting) = ⊥
HoldsLine (Some line) None = ⊥

abbrev pub AreNone : CloudLines → Type 0
AreNone lines = (conn : ℕ) → line_at lines conn ≡ None

-- the other connections are as they were
abbrev pub KeepsOthers : CloudLines → CloudLines → ℕ → Type 0
KeepsOthers old new conn = (c : ℕ) → (conn == c) ≡ false → line_at new c ≡ line_at old c

-- an answer is awaited on the connection, of which nothing came
pub record Awaits (old new : CloudLines) (conn : ℕ)
    (errand : Errand)
    (asked : WishKind) : Type 0 where
  pub here : line_at new conn ≡ Some (record {
    errand = errand;
    reader = record { asked = asked; progress = Head [] };
  })
  pub at : IsSayAt [] (Head [])
  pub others : KeepsOthers old new conn

-- the reader goes on where there is no answer yet
abbrev pub GoesOn : List ℕ → Progress SayHead → Option CloudSay → Type 0
GoesOn bytes progress None = IsSayAt bytes progress × IsUnfinished progress
GoesOn bytes progress (Some say) = Unit {0}

-- these bytes came to this
pub record ReadsTo (bytes : List ℕ) (asked : WishKind)
    (new : Answering)
    (answer : Option CloudSay) : Type 0 where
  pub comes : ComesTo asked bytes answer
  pub asked_still : new.asked ≡ asked
  pub goes_on : GoesOn bytes new.progress answer

-- a reader of an answer that was not whole took a piece
abbrev pub ReadsReply : Answering → Answering → List ℕ → Option CloudSay → Type 0
ReadsReply old new piece answer = IsUnfinished old.progress
    → (bytes : List ℕ)
    → IsSayAt bytes old.progress
    → ReadsTo (bytes ++ piece) old.asked new answer

-- a request with more bytes of its answer
abbrev pub with_more : Waiting → List ℕ → Waiting
with_more waiting piece = record { ask = waiting.ask; bytes = waiting.bytes ++ piece }

abbrev pub HasErrand : Option CloudLine → CloudAsk → Type 0
HasErrand None ask = ⊥
HasErrand (Some line) ask = line.errand ≡ errand_of ask

-- the connection waits on, or its errand is kept
abbrev pub LineBehind : Option CloudLine → Waiting → Option CloudSay → Type 0
LineBehind held waiting None = HoldsLine held (Some waiting)
LineBehind held waiting (Some say) = HasErrand held waiting.ask

pub record ReadsWaiting (waiting : Waiting)
    (held : Option CloudLine)
    (answer : Option CloudSay) : Type 0 where
  pub comes : ComesTo (kind_of waiting.ask.wish.act) waiting.bytes answer
  pub line : LineBehind held waiting answer

abbrev pub ReadsAt : Option Waiting → List ℕ → Option CloudLine → Option CloudSay → Type 0
ReadsAt None piece held answer = (answer ≡ None) × (held ≡ None)
ReadsAt (Some waiting) piece held answer = ReadsWaiting (with_more waiting piece) held answer

-- the answer on the connection went on
pub record ReadsLine (old new : CloudLines) (conn : ℕ)
    (piece : List ℕ)
    (answer : Option CloudSay) : Type 0 where
  pub line : (waiting : Option Waiting)
      → HoldsLine (line_at old conn) waiting
      → ReadsAt waiting piece (line_at new conn) answer
  pub others : KeepsOthers old new conn

abbrev pub taken : Option CloudLine → CloudSay → Option Cue
taken None say = None
taken (Some line) say = Some (errand_answer line.errand say)

-- the connection counts no more
pub record TakesLine (old new : CloudLines) (conn : ℕ)
    (say : CloudSay)
    (input : Option Cue) : Type 0 where
  pub answers : input ≡ taken (line_at old conn) say
  pub here : line_at new conn ≡ None
  pub others : KeepsOthers old new conn

-- the answer is an input, and the connection counts no more
pub record Answers (waiting : Waiting) (held : Option CloudLine) (input : Cue) : Type 0 where
  pub say : CloudSay
  pub comes : ComesTo (kind_of waiting.ask.wish.act) waiting.bytes (Some say)
  pub is : input ≡ answer_to waiting.ask say
  pub gone : held ≡ None

abbrev pub RepliesWaiting : Waiting → Option CloudLine → Option Cue → Type 0
RepliesWaiting waiting held None =
    ComesTo (kind_of waiting.ask.wish.act) waiting.bytes None × HoldsLine held (Some waiting)
RepliesWaiting waiting held (Some input) = Answers waiting held input

abbrev pub RepliesAt : Option Waiting → List ℕ → Option CloudLine → Option Cue → Type 0
RepliesAt None piece held input = (input ≡ None) × (held ≡ None)
RepliesAt (Some waiting) piece held input = RepliesWaiting (with_more waiting piece) held input

-- the bytes of the connection came to this
pub record ReadsOn (old new : CloudLines) (conn : ℕ)
    (piece : List ℕ)
    (input : Option Cue) : Type 0 where
  pub line : (waiting : Option Waiting)
      → HoldsLine (line_at old conn) waiting
      → RepliesAt waiting piece (line_at new conn) input
  pub others : KeepsOthers old new conn
