-- How far a message has come, by the bytes that were taken of it.
use Rattle.std.specs.Prelude.{◌≡◌, ◌≢◌, ℕ, ◌<◌, ◌≤◌, nat_lt, if◌then◌else◌, List, length, take, drop, Option, None, Result, Ok, Err, ⊤}
use Rattle.hy_cwire.specs.declared.block.TheConstants.{MAX_HEAD}
use Rattle.hy_cwire.specs.declared.fault.HttpFault.{HttpFault}
use Rattle.hy_cwire.specs.declared.fault.HttpFault.TheVariants.{HeadTooLong, Cut, NoMemory}
use Rattle.hy_cwire.specs.declared.progress.Progress.{Progress}
use Rattle.hy_cwire.specs.declared.progress.Progress.TheVariants.{Head, Body, Given, Broken}
use Rattle.hy_cwire.specs.Block.{IsBlock, HasNoBlock}

-- the bytes are no message, and this is why: no block ends in time, the block has a fault, or the peer closed before
-- the head or the body was whole
pub data IsBroken
    {H : Type 0} (comes_to : List ℕ → Result H HttpFault → Type 0) (size : H → ℕ) (bytes : List ℕ)
    (wrong : HttpFault) : Type 0 where
  too_long : wrong ≡ HeadTooLong → HasNoBlock bytes → MAX_HEAD ≤ length bytes → IsBroken comes_to size bytes wrong
  bad_head : (n : ℕ) → IsBlock bytes n → comes_to (take n bytes) (Err wrong) → IsBroken comes_to size bytes wrong
  no_head : wrong ≡ Cut (length bytes) 0 → HasNoBlock bytes → length bytes < MAX_HEAD → IsBroken comes_to size bytes wrong
  no_body : (n : ℕ) (head : H) → wrong ≡ Cut (length (drop n bytes)) (size head) → IsBlock bytes n
      → comes_to (take n bytes) (Ok head) → length (drop n bytes) < size head → IsBroken comes_to size bytes wrong

-- these bytes were taken, and so far the message came
abbrev pub IsAt : {H : Type 0} → (List ℕ → Result H HttpFault → Type 0) → (H → ℕ) → List ℕ → Progress H → Type 0
IsAt comes_to size bytes (Head front) = (front ≡ bytes) × HasNoBlock bytes × (length bytes < MAX_HEAD)
IsAt comes_to size bytes (Body head body) =
    (n : ℕ) × IsBlock bytes n × comes_to (take n bytes) (Ok head) × (body ≡ take (size head) (drop n bytes))
IsAt {H = H} comes_to size bytes Given =
    (n : ℕ) × (head : H) × IsBlock bytes n × comes_to (take n bytes) (Ok head) × (size head ≤ length (drop n bytes))
IsAt comes_to size bytes (Broken wrong) = IsBroken comes_to size bytes wrong

-- no fault was answered
abbrev pub IsLive : {H : Type 0} → Progress H → Type 0
IsLive (Head front) = ⊤
IsLive (Body head body) = ⊤
IsLive Given = ⊤
IsLive (Broken wrong) = ⊥

-- the fault that is answered
abbrev pub answer_of : {H : Type 0} → Progress H → Result Unit HttpFault
answer_of (Head front) = Ok tt
answer_of (Body head body) = Ok tt
answer_of Given = Ok tt
answer_of (Broken wrong) = Err wrong

-- the block comes to this, and of the bytes behind it the body has as many as it may
abbrev pub Begins : {H : Type 0} → (List ℕ → Result H HttpFault → Type 0) → (H → ℕ) → List ℕ → List ℕ → Progress H → Type 0
Begins comes_to size block behind (Head front) = ⊥
Begins comes_to size block behind (Body head body) = comes_to block (Ok head) × (body ≡ take (size head) behind)
Begins comes_to size block behind Given = ⊥
Begins comes_to size block behind (Broken wrong) = comes_to block (Err wrong)

-- no message is there to be given
abbrev pub IsUnfinished : {H : Type 0} → (H → ℕ) → Progress H → Type 0
IsUnfinished size (Head front) = ⊤
IsUnfinished size (Body head body) = length body < size head
IsUnfinished size Given = ⊤
IsUnfinished size (Broken wrong) = ⊤

-- want of memory is answered once, and is no fault of the message
abbrev pub IsSound : {H : Type 0} → Progress H → Type 0
IsSound (Head front) = ⊤
IsSound (Body head body) = ⊤
IsSound Given = ⊤
IsSound (Broken wrong) = wrong ≢ NoMemory

-- the peer closed
abbrev pub after_end : {H : Type 0} → (H → ℕ) → Progress H → Progress H
after_end size (Head front) = Broken (Cut (length front) 0)
after_end size (Body head body) =
    if nat_lt (length body) (size head) then Broken (Cut (length body) (size head)) else Body head body
after_end size Given = Given
after_end size (Broken wrong) = Broken wrong

-- a message that is whole was given
abbrev pub after_next : {H : Type 0} → (H → ℕ) → Progress H → Progress H
after_next size (Head front) = Head front
after_next size (Body head body) = if nat_lt (length body) (size head) then Body head body else Given
after_next size Given = Given
after_next size (Broken wrong) = Broken wrong

-- what is answered next, by what a head and a body give
abbrev pub next_answer : {H M : Type 0} → (H → List ℕ → Option M) → Progress H → Result (Option M) HttpFault
next_answer gives (Head front) = Ok None
next_answer gives (Body head body) = Ok (gives head body)
next_answer gives Given = Ok None
next_answer gives (Broken wrong) = Err wrong

-- the message was not given, and the peer did not close before it was whole
abbrev pub IsOpen : {H : Type 0} → Progress H → Type 0
IsOpen (Head front) = ⊤
IsOpen (Body head body) = ⊤
IsOpen Given = ⊥
IsOpen (Broken wrong) = (have want : ℕ) → wrong ≢ Cut have want
