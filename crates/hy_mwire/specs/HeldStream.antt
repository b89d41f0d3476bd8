-- How a stream lies in a reader.
use Rattle.std.specs.Prelude.{◌≡◌, Option, Some, None, ⊤}
use Rattle.hy_mwire.specs.declared.reader.Reader.TheInside.{Inside}
use Rattle.hy_mwire.specs.declared.reader.Ready.{Ready}
use Rattle.hy_mwire.specs.Front.{Front, message}
use Rattle.hy_mwire.specs.Stream.{Unread, front}

-- what the fields stand for
abbrev pub unread_of : Inside → Unread
unread_of reader = record { rest = reader.unread; place = reader.place; answered = reader.answered }

-- a message that is ready stands in front
abbrev pub IsReady : Front → Option Ready → Type 0
IsReady front None = ⊤
IsReady front (Some ready) = front ≡ message ready.message ready.size

abbrev pub IsHeldStream : Inside → Type 0
IsHeldStream reader = IsReady (front (unread_of reader)) reader.ready
