-- What a job answers, an output or a refusal, and when.
use Rattle.std.specs.Prelude.{ℕ, List, Result, Ok, Err}
use Rattle.hy_base.specs.Source.{SourceUse}
use Rattle.hy_serve.specs.CloudRole.{ServesCloud}
use Rattle.hy_serve.specs.MetaRole.{ServesMeta}
use Rattle.hy_top.specs.Check.{Checks}
use Rattle.hy_top.specs.Command.{Asks, IsCommand}
use Rattle.hy_top.specs.Input.{IsWholeInput, IsUnreadable, IsOverlong}
use Rattle.hy_top.specs.Keep.{Keeps}
use Rattle.hy_top.specs.Line.{refusal_line}
use Rattle.hy_top.specs.Make.{MakesSummary}
use Rattle.hy_top.specs.Replay.{Replays}
use Rattle.hy_top.specs.NetUse.{NetUse}
use Rattle.hy_top.specs.Operate.{DoesOnStore}
use Rattle.hy_top.specs.Serve.{ServesAt}
use Rattle.hy_top.specs.Vectors.{GivesVectors}
use Rattle.hy_words.specs.declared.command.Command.{Command}
use Rattle.hy_words.specs.declared.command.Command.TheVariants.{OnText, Make, Vectors, Meta, Cloud, OnStore}
use Rattle.hy_words.specs.declared.command.TextCommand.{TextCommand}
use Rattle.hy_words.specs.declared.command.TextCommand.TheVariants.{Replay, Check, Keep}
use Rattle.hy_top.specs.declared.status.Status.{Status}
use Rattle.hy_top.specs.declared.status.Status.TheVariants.{Done, BadWords, ReadFault, TooLong, NoMemory}

-- what a command on a text makes of it
abbrev pub Makes : TextCommand → List ℕ → Result (List ℕ) Status → Type 0
Makes Replay text answer = Replays text answer
Makes Check text answer = Checks text answer
Makes (Keep stop) text answer = Keeps stop text answer

-- the input was read to its end, and the command made this of it
pub record ReadsAndMakes (command : TextCommand) (input : SourceUse) (answer : Result (List ℕ) Status) : Type 0 where
  pub text : List ℕ
  pub read : IsWholeInput input text
  pub made : Makes command text answer

-- what a command on a text answers over an input
abbrev pub DoesOnText : TextCommand → SourceUse → Result (List ℕ) Status → Type 0
DoesOnText command input (Err ReadFault) = IsUnreadable input
DoesOnText command input (Err TooLong) = IsOverlong input
DoesOnText command input (Err NoMemory) = Unit {0}
DoesOnText command input answer = ReadsAndMakes command input answer

-- what a command answers over an input and a net
abbrev pub Does : Command → SourceUse → NetUse → Result (List ℕ) Status → Type 0
Does (OnText command) input net answer = DoesOnText command input answer
Does (Make seed events) input net answer = MakesSummary seed events answer
Does Vectors input net answer = GivesVectors answer
Does (Meta port arrivals) input net answer = ServesAt (ServesMeta port arrivals) arrivals net answer
Does (Cloud port arrivals) input net answer = ServesAt (ServesCloud port arrivals) arrivals net answer
Does (OnStore command request) input net answer = DoesOnStore command request input net answer

-- the words ask for a command, and it answered this
pub record IsDone (words : List (List ℕ)) (input : SourceUse) (net : NetUse) (answer : Result (List ℕ) Status) : Type 0 where
  pub command : Command
  pub asked : Asks words command
  pub done : Does command input net answer

-- when the words, the input and the net come to an answer; want of memory may come at any time
abbrev pub ComesTo : List (List ℕ) → SourceUse → NetUse → Result (List ℕ) Status → Type 0
ComesTo words input net (Err BadWords) = ¬ IsCommand words
ComesTo words input net (Err NoMemory) = Unit {0}
ComesTo words input net answer = IsDone words input net answer

-- the text that tells an answer: the output, or the line of the refusal
abbrev pub text_due : Result (List ℕ) Status → List ℕ
text_due (Ok output) = output
text_due (Err status) = refusal_line status

-- the status that tells an answer
abbrev pub status_due : Result (List ℕ) Status → Status
status_due (Ok output) = Done
status_due (Err status) = status
