-- What is no token is none of the three methods.
use Rattle.std.proofs.Common.{sym, ap, refl}
use Rattle.hy_cwire.specs.Asks.{kind_or_fault}
use Rattle.hy_cwire.proofs.Tokens.{kind_named-none}
use Rattle.hy_cwire.proofs.ask_head.kind_of.Goals as goal

pub returns-in-Err-Invalid : goal.returns-in-Err-Invalid
returns-in-Err-Invalid c = λ some.
    let none = (rw c.in-Err-Invalid.field-0-is at c.in-Err-Invalid.ensures.invalid).0 refl in
    sym (ap kind_or_fault (kind_named-none c.args.method.now none))
