-- What a call adds to what a net tells. A net may stand for many lists of moves, and may cease to tell.
use Rattle.std.specs.Prelude.{◌≡◌, ℕ, List, [], ◌∷◌, ◌++◌, Result, Ok, Err}
use Rattle.hy_base.specs.declared.failure.Failed.{Failed}
use Rattle.hy_base.specs.declared.arrival.Arrival.{Arrival}
use Rattle.hy_base.specs.Moves.{Move, Call, arrived, called, came}

-- moves of which this holds are told behind those that were told before
pub record Added {S : Type 0} (tells : S → List Move → Type 0) (new : S) (P : List Move → Type 0) (before : List Move) : Type 0 where
  pub moves : List Move
  pub holds : P moves
  pub told : tells new (moves ++ before)

-- what tells now told before; and to each list of moves that it stood for, moves of which this holds were added
pub record Adds {S : Type 0} (told : S → Type 0) (tells : S → List Move → Type 0) (old new : S) (P : List Move → Type 0) : Type 0 where
  pub was : told new → told old
  pub adds : told new → (before : List Move) → tells old before → Added tells new P before

-- this move was added, and no other
abbrev pub Moves : {S : Type 0} → (S → Type 0) → (S → List Move → Type 0) → S → S → Move → Type 0
Moves told tells old new move = Adds told tells old new (λ moves. moves ≡ move ∷ [])

abbrev pub Calls : {S : Type 0} → (S → Type 0) → (S → List Move → Type 0) → S → S → Call → Type 0
Calls told tells old new call = Moves told tells old new (called call)

-- what was taken was added; nothing, where nothing could be had
abbrev pub Takes : {S : Type 0} → (S → Type 0) → (S → List Move → Type 0) → S → S → List ℕ → Result Arrival Failed → Type 0
Takes told tells old new buf (Ok arrival) = Moves told tells old new (arrived (came arrival buf))
Takes told tells old new buf (Err failed) = Adds told tells old new (λ moves. moves ≡ [])
