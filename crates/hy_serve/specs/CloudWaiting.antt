-- A cloud's server between two arrivals.
use Rattle.std.specs.Prelude.{◌≡◌, ◌+◌, ℕ, List}
use Rattle.hy_base.specs.Moves.{Move}
use Rattle.hy_serve.specs.declared.cloud_server.CloudServer.{CloudServer}
use Rattle.hy_serve.specs.CloudRole.{CloudState, IsIdle, CloudLeads}
use Rattle.hy_serve.specs.CloudStanding.{StandsFor}

-- these moves led to a state that the server stands for, in which nothing is due and so many of the
-- arrivals were taken
pub record Waits (port arrivals taken : ℕ) (server : CloudServer) (moves : List Move) : Type 0 where
  pub state : CloudState
  pub course : CloudLeads port arrivals moves state
  pub idle : IsIdle state
  pub left : state.left + taken ≡ arrivals
  pub stands : StandsFor server state
