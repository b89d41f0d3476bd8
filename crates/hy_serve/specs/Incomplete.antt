-- A message of which more is to come.
use Rattle.std.specs.Prelude.{◌<◌, ℕ, length}
use Rattle.hy_cwire.specs.declared.progress.Progress.{Progress}
use Rattle.hy_cwire.specs.declared.progress.Progress.TheVariants.{Head, Body, Given, Broken}

-- it is neither whole nor faulty, where the body of a head has this size
abbrev pub IsIncomplete : {H : Type 0} → (H → ℕ) → Progress H → Type 0
IsIncomplete size (Head front) = Unit {0}
IsIncomplete size (Body head body) = length body < size head
IsIncomplete size Given = ⊥
IsIncomplete size (Broken wrong) = ⊥
