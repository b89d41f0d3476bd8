-- An answer, and the calls that give it.
use Rattle.std.specs.Prelude.{◌≡◌, Bool, List, [], ◌∷◌, Option, Some, None}
use Rattle.hy_base.specs.Moves.{Move, Request, called, send, close, to_send, to_close}
use Rattle.hy_serve.specs.declared.answer.Answer.{Answer}

-- the calls that are due
abbrev pub requests_of : Option Answer → List Request
requests_of None = []
requests_of (Some answer) = to_send answer.conn answer.bytes ∷ to_close answer.conn ∷ []

-- the calls that were made, the newest first
abbrev pub made : Option Answer → Bool → List Move
made None sent = []
made (Some answer) sent =
    called (close answer.conn) ∷ called (send answer.conn answer.bytes sent) ∷ []

-- the answer was sent, whether or not it could be, and its connection was closed
pub record Answers (answer : Option Answer) (moves : List Move) : Type 0 where
  pub sent : Bool
  pub are : moves ≡ made answer sent
