-- What the code holds of a front.
use Rattle.std.specs.Prelude.{◌≡◌, ◌≢◌, ◌≤◌, ℕ}
use Rattle.hy_mwire.specs.declared.fault.FrameFault.TheVariants.{NoMemory}
use Rattle.hy_mwire.specs.declared.front.Front.{Front as Seen}
use Rattle.hy_mwire.specs.declared.front.Front.TheVariants as seen
use Rattle.hy_mwire.specs.Front.{Front, partial, message, fault}

-- it is this front
abbrev pub Sees : Front → Seen → Type 0
Sees front seen.Partial = front ≡ partial
Sees front (seen.Message said size) = front ≡ message said size
Sees front (seen.Fault wrong) = front ≡ fault wrong

-- a message lies within the bytes, and a fault is one of the stream
abbrev pub IsWithin : ℕ → Seen → Type 0
IsWithin room seen.Partial = Unit {0}
IsWithin room (seen.Message said size) = size ≤ room
IsWithin room (seen.Fault wrong) = wrong ≢ NoMemory
