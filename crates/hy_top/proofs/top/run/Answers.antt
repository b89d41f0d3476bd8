-- The input is not touched, as the job says of the words as they are read.
use Rattle.std.proofs.Common.{◌≡◌, map, subst}
use Rattle.std.specs.String.{string_bytes}
use Rattle.hy_top.specs.Command.{IsReader}
use Rattle.hy_top.proofs.top.run.Goals as goal

pub returns-clause-unread : goal.returns-clause-unread
returns-clause-unread g c =
    subst (λ words. (IsReader (map string_bytes words) → ⊥) → c.answer_of-answer.new.input ≡ c.args.input.now)
    c.deref.ensures.value c.answer_of-answer.ensures.unread
