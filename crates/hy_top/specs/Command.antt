-- What the words of the command line ask for.
use Rattle.std.specs.Prelude.{◌≡◌, ℕ, Bool, true, false, List, Ok}
use Rattle.hy_words.specs.Words.{command_of}
use Rattle.hy_words.specs.declared.command.Command.{Command}
use Rattle.hy_words.specs.declared.command.Command.TheVariants.{OnText, Meta, Cloud, OnStore}
use Rattle.hy_words.specs.declared.command.StoreCommand.TheVariants.{Put}

-- the words ask for the command
abbrev pub Asks : List (List ℕ) → Command → Type 0
Asks words command = command_of words ≡ Ok command

-- the words ask for a command
abbrev pub IsCommand : List (List ℕ) → Type 0
IsCommand words = (command : Command) × Asks words command

-- ---- the input and the net

-- whether the command reads the input
abbrev pub reads : Command → Bool
reads (OnText command) = true
reads (OnStore Put request) = true
reads other = false

-- whether the command uses the net
abbrev pub talks : Command → Bool
talks (Meta port arrivals) = true
talks (Cloud port arrivals) = true
talks (OnStore command request) = true
talks other = false

-- the words ask for a command that reads the input
pub record IsReader (words : List (List ℕ)) : Type 0 where
  pub command : Command
  pub asked : Asks words command
  pub reads : reads command ≡ true

-- the words ask for a command that uses the net
pub record IsTalker (words : List (List ℕ)) : Type 0 where
  pub command : Command
  pub asked : Asks words command
  pub talks : talks command ≡ true
