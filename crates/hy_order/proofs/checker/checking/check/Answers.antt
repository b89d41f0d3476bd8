use Rattle.std.proofs.Common.{◌∙◌, ap}
use Rattle.std.proofs.lemmas.Result.{IfOk-weaker}
use Rattle.hy_order.specs.Violation.{first_violation}
use Rattle.hy_order.proofs.Legal.{Legal-verdict}
use Rattle.hy_order.proofs.checker.checking.check.Goals as goal

pub returns-clause-legal : goal.returns-clause-legal
returns-clause-legal c =
    IfOk-weaker c.verdict_on.result _ _
    (λ verdict is.
    Legal-verdict c.args.history.now c.args.order.now.key c.args.order.now.ops verdict
    (is ∙ ap (λ history. first_violation history c.args.order.now.key c.args.order.now.ops) c.in_ok-index.ensures))
    c.verdict_on.ensures.verdict
