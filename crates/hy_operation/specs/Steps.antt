-- What a machine did at an input.
use Rattle.std.specs.Prelude.{◌≡◌, Result, MatchResult}
use Rattle.hy_base.specs.declared.failure.NoMemory.{NoMemory}
use Rattle.hy_record.specs.declared.turn.Turn.{Turn}

-- it did this and stands for one input more, or memory ran out and it stands for the same inputs
abbrev pub Steps : Result Turn NoMemory → Turn → Type 0 → Type 0 → Type 0
Steps result turn more same = MatchResult result (λ t. (t ≡ turn) × more) (λ _. same)
