-- What is to come over a net in memory.
use Rattle.std.specs.Prelude.{◌≡◌, ℕ, nat_lt, List, [], ◌∷◌, length, take, drop, if◌then◌else◌}
use Rattle.hy_base.specs.declared.arrival.Arrived.{Arrived}
use Rattle.hy_base.specs.declared.arrival.Arrived.TheVariants.{Opened, Bytes, Closed, Quiet}
use Rattle.hy_base.specs.declared.net_script.Script.{Script}
use Rattle.hy_base.specs.Moves.{Move, arrived, called}

-- these are to come, of a piece in front without its first bytes
abbrev pub without_front : ℕ → List Arrived → List Arrived
without_front inside [] = []
without_front inside (Opened conn ∷ later) = Opened conn ∷ later
without_front inside (Bytes conn bytes ∷ later) = Bytes conn (drop inside bytes) ∷ later
without_front inside (Closed conn ∷ later) = Closed conn ∷ later
without_front inside (Quiet ∷ later) = Quiet ∷ later

-- what is to come
abbrev pub rest_of : Script → List Arrived
rest_of script = without_front script.inside (drop script.given script.all.items)

-- what comes next into so much room; Quiet behind the last
abbrev pub next_arrived : ℕ → List Arrived → Arrived
next_arrived room [] = Quiet
next_arrived room (Opened conn ∷ later) = Opened conn
next_arrived room (Bytes conn bytes ∷ later) = Bytes conn (take room bytes)
next_arrived room (Closed conn ∷ later) = Closed conn
next_arrived room (Quiet ∷ later) = Quiet

-- what is to come then: a piece that was too long is given on
abbrev pub rest_behind : ℕ → List Arrived → List Arrived
rest_behind room [] = []
rest_behind room (Opened conn ∷ later) = later
rest_behind room (Bytes conn bytes ∷ later) = if nat_lt room (length bytes) then Bytes conn (drop room bytes) ∷ later else later
rest_behind room (Closed conn ∷ later) = later
rest_behind room (Quiet ∷ later) = later

-- this came into some room, when that was to come, and then this is to come
pub record Gives (old : List Arrived) (a : Arrived) (new : List Arrived) : Type 0 where
  pub room : ℕ
  pub came : a ≡ next_arrived room old
  pub rest : new ≡ rest_behind room old

-- of the script this is left when the arrivals of these moves have come
unfoldable pub Leaves : List Arrived → List Move → List Arrived → Type 0
Leaves script [] rest = rest ≡ script
Leaves script (called call ∷ before) rest = Leaves script before rest
Leaves script (arrived a ∷ before) rest = (mid : List Arrived) × Leaves script before mid × Gives mid a rest
