-- The command of the name that the first word is.
use Rattle.std.proofs.Common.{◌≡◌, List, ℕ, Result, Ok, map, ap, ◌∙◌}
use Rattle.std.specs.String.{string_bytes}
use Rattle.hy_base.specs.Results.{◌>>=◌}
use Rattle.hy_base.specs.declared.fault.Cause.{Cause}
use Rattle.hy_text.specs.Line.{later_words}
use Rattle.hy_text.specs.Table.{value_named}
use Rattle.hy_words.specs.Words.{name_word, all_names, command_by}
use Rattle.hy_words.specs.declared.name.Name.{Name}
use Rattle.hy_words.proofs.reading.read_command.Goals as goal

pub returns-clause-command : goal.returns-clause-command
returns-clause-command c =
    c.command_by.ensures.command
    ∙ ap (λ (l : List (List ℕ)). command_by c.in_ok-read_named.field-0 l) c.first_word.ensures.rest
    ∙ ap (λ (r : Result Name Cause). r >>= λ name. command_by name (later_words (map string_bytes c.args.words.now)))
    (c.in_ok-read_named.ensures ∙ ap (value_named name_word all_names) c.first_word.ensures.word)
