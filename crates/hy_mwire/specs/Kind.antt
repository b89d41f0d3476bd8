-- The byte that names each kind of message.
use Rattle.std.specs.Prelude.{ℕ, ◌==◌, List, [], ◌∷◌, Option}
use Rattle.std.specs.List.{find}
use Rattle.hy_mwire.specs.declared.kind.MessageKind.{MessageKind}
use Rattle.hy_mwire.specs.declared.kind.MessageKind.TheVariants.{Join, Joined, Full, Ask, Say}
use Rattle.hy_mwire.specs.declared.kind.AskKind.{AskKind}
use Rattle.hy_mwire.specs.declared.kind.AskKind.TheVariants.{Read, Update, Watch, Olds, Forget}
use Rattle.hy_mwire.specs.declared.kind.SayKind.{SayKind}
use Rattle.hy_mwire.specs.declared.kind.SayKind.TheVariants.{Has, Applied, Kept, Fired, OldList, Forgot}

abbrev pub ask_byte : AskKind → ℕ
ask_byte Read = 0x02
ask_byte Update = 0x03
ask_byte Watch = 0x04
ask_byte Olds = 0x05
ask_byte Forget = 0x06

abbrev pub say_byte : SayKind → ℕ
say_byte Has = 0x82
say_byte Applied = 0x83
say_byte Kept = 0x84
say_byte Fired = 0x85
say_byte OldList = 0x86
say_byte Forgot = 0x87

-- the byte that names the kind
abbrev pub kind_byte : MessageKind → ℕ
kind_byte Join = 0x01
kind_byte (Ask kind) = ask_byte kind
kind_byte Joined = 0x81
kind_byte (Say kind) = say_byte kind
kind_byte Full = 0x88

-- every kind there is
abbrev pub all_kinds : List MessageKind
all_kinds = Join ∷ Ask Read ∷ Ask Update ∷ Ask Watch ∷ Ask Olds ∷ Ask Forget ∷ Joined ∷ Say Has ∷ Say Applied ∷ Say Kept ∷ Say Fired ∷ Say OldList ∷ Say Forgot ∷ Full ∷ []

-- the kind that the byte names, if one does
abbrev pub kind_of : ℕ → Option MessageKind
kind_of byte = find (λ kind. kind_byte kind == byte) all_kinds
