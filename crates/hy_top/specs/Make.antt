-- What the making of a schedule answers.
use Rattle.std.specs.Prelude.{◌≡◌, ℕ, List, Result, Ok, Err}
use Rattle.hy_make.specs.Making.{generated_schedule, generated_summary, summary_text}
use Rattle.hy_top.specs.Replay.{HashesApart}
use Rattle.hy_top.specs.declared.status.Status.{Status}
use Rattle.hy_top.specs.declared.status.Status.TheVariants.{NoMemory}

-- the output is the line of what came of the schedule of the seed with so many events; where no two different strings that were
-- hashed in its run share a hash, each of its orders is legal
pub record IsMade (seed events : ℕ) (output : List ℕ) : Type 0 where
  pub line : output ≡ summary_text (generated_summary seed events)
  pub legal : HashesApart (generated_schedule seed events) → (generated_summary seed events).legal ≡ (generated_summary seed events).keys

-- what the making of a schedule answers
abbrev pub MakesSummary : ℕ → ℕ → Result (List ℕ) Status → Type 0
MakesSummary seed events (Ok output) = IsMade seed events output
MakesSummary seed events (Err NoMemory) = Unit {0}
MakesSummary seed events (Err other) = ⊥
