-- What the command that asks for the worked values answers.
use Rattle.std.specs.Prelude.{◌≡◌, ℕ, List, Result, Ok, Err}
use Rattle.hy_vectors.specs.Vectors.{vectors_text}
use Rattle.hy_top.specs.declared.status.Status.{Status}
use Rattle.hy_top.specs.declared.status.Status.TheVariants.{NoMemory}

-- the output is the text of the worked values; want of memory may come at any time
abbrev pub GivesVectors : Result (List ℕ) Status → Type 0
GivesVectors (Ok output) = output ≡ vectors_text
GivesVectors (Err NoMemory) = Unit {0}
GivesVectors (Err other) = ⊥
