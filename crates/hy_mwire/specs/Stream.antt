-- What a reader of a stream stands for, and what its calls do.
use Rattle.std.specs.Prelude.{◌≡◌, ℕ, ◌+◌, ◌-◌, ◌^◌, min, List, [], ◌∷◌, ◌++◌, drop, All, Option, Some, None, Result, Ok, Err}
use Rattle.hy_mwire.specs.declared.message.Message.{Message}
use Rattle.hy_mwire.specs.declared.fault.FrameFault.{FrameFault}
use Rattle.hy_mwire.specs.Message.{IsMessage}
use Rattle.hy_mwire.specs.Frames.{frames_of, place_behind}
use Rattle.hy_mwire.specs.Front.{Front, partial, message, fault, front_at, AreBytes}

-- the bytes of a stream that no message given has, their place in it, and the fault that was answered
pub record Unread : Type 0 where
  pub rest : List ℕ
  pub place : ℕ
  pub answered : Option FrameFault

-- before the first byte
abbrev pub fresh_stream : Unread
fresh_stream = record { rest = []; place = 0; answered = None }

-- what stands in front
abbrev pub front : Unread → Front
front unread = front_at unread.place unread.rest

abbrev pub fault_in : Front → Option FrameFault
fault_in partial = None
fault_in (message said size) = None
fault_in (fault wrong) = Some wrong

abbrev pub fault_due : Unread → Option FrameFault → Option FrameFault
fault_due unread (Some wrong) = Some wrong
fault_due unread None = fault_in (front unread)

-- the fault that stands in front is answered, and from then on
abbrev pub judged_stream : Unread → Unread
judged_stream unread = record { rest = unread.rest; place = unread.place; answered = fault_due unread unread.answered }

abbrev pub longer : Unread → List ℕ → Option FrameFault → Unread
longer unread piece (Some wrong) = unread
longer unread piece None = record { rest = unread.rest ++ piece; place = unread.place; answered = None }

-- a piece is taken, unless a fault was answered before
abbrev pub with_piece : Unread → List ℕ → Unread
with_piece unread piece = longer unread piece unread.answered

-- whether a fault is answered
abbrev pub fed_answer : Option FrameFault → Result Unit FrameFault
fed_answer None = Ok tt
fed_answer (Some wrong) = Err wrong

abbrev pub next_of : Front → Option FrameFault → Result (Option Message) FrameFault
next_of front (Some wrong) = Err wrong
next_of partial None = Ok None
next_of (message said size) None = Ok (Some said)
next_of (fault wrong) None = Err wrong

-- what is answered next: a fault that was answered before, the message in front, that there is none yet, or the fault in front
abbrev pub next_answer : Unread → Result (Option Message) FrameFault
next_answer unread = next_of (front unread) unread.answered

abbrev pub passed : Unread → Front → Option FrameFault → Unread
passed unread front (Some wrong) = unread
passed unread partial None = unread
passed unread (message said size) None = record { rest = drop size unread.rest; place = min (unread.place + size) (2 ^ 64 - 1); answered = None }
passed unread (fault wrong) None = record { rest = unread.rest; place = unread.place; answered = Some wrong }

-- the message in front was given, or the fault in front is answered from then on
abbrev pub after_next : Unread → Unread
after_next unread = passed unread (front unread) unread.answered

-- the message that was given
abbrev pub said_in : Result (Option Message) FrameFault → List Message
said_in (Ok None) = []
said_in (Ok (Some said)) = said ∷ []
said_in (Err wrong) = []

-- these bytes were taken, and of them these messages were given; a fault that was answered stands behind them
pub record StandsFor (taken : List ℕ) (said : List Message) (unread : Unread) : Type 0 where
  pub bytes : AreBytes taken
  pub messages : All IsMessage said
  pub parts : taken ≡ frames_of said ++ unread.rest
  pub place : unread.place ≡ place_behind said
  pub answered : (wrong : FrameFault) → unread.answered ≡ Some wrong → front unread ≡ fault wrong
