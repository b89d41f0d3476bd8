-- What the metadata server does over a net between two arrivals.
use Rattle.std.specs.Prelude.{◌≡◌, ◌+◌, ℕ, List, [], ◌∷◌, ◌++◌, Option, None, Result, OnOk}
use Rattle.hy_base.specs.declared.failure.NoMemory.{NoMemory}
use Rattle.hy_base.specs.Moves.{Move, Request}
use Rattle.hy_serve.specs.declared.meta_server.MetaServer.{MetaServer}
use Rattle.hy_serve.specs.MetaRole.{MetaState, IsIdle, deliverable, MetaLeads}
use Rattle.hy_serve.specs.MetaStanding.{StandsFor, IsReading}

-- ---- calls

-- a state that goes on where this one was
pub record Continues (state after : MetaState) : Type 0 where
  pub left : after.left ≡ state.left
  pub broken : after.broken ≡ state.broken
  pub reading : after.reading ≡ state.reading

-- the moves led to a state in which these calls are still due
pub record Called (port arrivals : ℕ) (server : MetaServer) (state : MetaState)
    (later : List Request)
    (moves : List Move) : Type 0 where
  pub after : MetaState
  pub course : MetaLeads port arrivals moves after
  pub stands : StandsFor server after
  pub due : after.due ≡ deliverable after.lines later
  pub continues : Continues state after

-- where these calls were due, the moves made them but for those that are due later
abbrev pub Makes : MetaServer → MetaServer → List Request → List Request → List Move → Type 0
Makes old new requests later moves = (port arrivals : ℕ) (before : List Move) (state : MetaState)
    → MetaLeads port arrivals before state
    → StandsFor old state
    → state.due ≡ deliverable state.lines requests
    → Called port arrivals new state later (moves ++ before)

-- the first of the calls that were due was made, whatever is due later
abbrev pub MakesFirst : MetaServer → MetaServer → Request → List Move → Type 0
MakesFirst old new request moves =
    (later : List Request) → Makes old new (request ∷ later) later moves

-- ---- a connection that is read on

-- the moves led to a state in which the connection is to be read on
pub record Continued (port arrivals conn : ℕ) (server : MetaServer) (state : MetaState)
    (moves : List Move) : Type 0 where
  pub after : MetaState
  pub course : MetaLeads port arrivals moves after
  pub stands : StandsFor server after
  pub reads : IsReading conn after
  pub left : after.left ≡ state.left
  pub broken : after.broken ≡ state.broken

-- messages of the connection were read, and it is to be read on
abbrev pub ReadsSome : MetaServer → MetaServer → ℕ → List Move → Type 0
ReadsSome old new conn moves = (port arrivals : ℕ) (before : List Move) (state : MetaState)
    → MetaLeads port arrivals before state
    → StandsFor old state
    → IsReading conn state
    → Continued port arrivals conn new state (moves ++ before)

-- nothing is to be read or called
pub record Settles (server : MetaServer) (state after : MetaState) : Type 0 where
  pub stands : StandsFor server after
  pub done : after.due ≡ []
  pub read : after.reading ≡ None
  pub left : after.left ≡ state.left
  pub broken : after.broken ≡ state.broken

-- the moves led to a state; to one in which nothing is to be read, unless memory ran out
pub record Settled (port arrivals : ℕ) (server : MetaServer) (state : MetaState)
    (result : Result Unit NoMemory)
    (moves : List Move) : Type 0 where
  pub after : MetaState
  pub course : MetaLeads port arrivals moves after
  pub ok : OnOk result (Settles server state after)

-- what was to be read was read, and what was due was called
abbrev pub ReadsAll : MetaServer → MetaServer → Option ℕ → Result Unit NoMemory → List Move → Type 0
ReadsAll old new reading result moves = (port arrivals : ℕ) (before : List Move) (state : MetaState)
    → MetaLeads port arrivals before state
    → StandsFor old state
    → state.reading ≡ reading
    → state.due ≡ []
    → Settled port arrivals new state result (moves ++ before)

-- ---- between two arrivals

-- these moves led to a state that the server stands for, in which nothing is due and so many of the
-- arrivals were taken
pub record MetaWaits (port arrivals taken : ℕ)
    (server : MetaServer)
    (moves : List Move) : Type 0 where
  pub state : MetaState
  pub course : MetaLeads port arrivals moves state
  pub idle : IsIdle state
  pub left : state.left + taken ≡ arrivals
  pub stands : StandsFor server state
