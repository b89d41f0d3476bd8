use Rattle.std.proofs.Common.{◌≡◌, None, refl, sym, ap, ◌∙◌}
use Rattle.std.proofs.lemmas.Result.{IfOk-weaker}
use Rattle.hy_order.specs.Violation.{first_illegal}
use Rattle.hy_order.proofs.DueOrders.{none_illegal-linearizable}
use Rattle.hy_order.proofs.Illegal.{none_illegal}
use Rattle.hy_order.proofs.checker.checking.first_illegal.Goals as goal

pub returns-then-plain-clause-legal : goal.returns-then-plain-clause-legal
returns-then-plain-clause-legal c =
    let both = none_illegal c.args.report.now.history c.args.report.now.orders in
    let none : first_illegal c.args.report.now.history c.args.report.now.orders ≡ None =
    sym (ap (first_illegal c.args.report.now.history) c.items-orders.ensures) ∙ c.in_ok-plain.ensures c.if-plain.true in
    (λ is. both.0 none, λ all. refl)

pub returns-then-plain-clause-linearizable : goal.returns-then-plain-clause-linearizable
returns-then-plain-clause-linearizable c ruled =
    let both = none_illegal-linearizable c.args.report.now ruled in
    let none : first_illegal c.args.report.now.history c.args.report.now.orders ≡ None =
    sym (ap (first_illegal c.args.report.now.history) c.items-orders.ensures) ∙ c.in_ok-plain.ensures c.if-plain.true in
    (λ is. both.0 none, λ all. refl)

pub returns-clause-legal : goal.returns-clause-legal
returns-clause-legal c =
    IfOk-weaker c.search_illegal.result _ _
    (λ found is.
    let both = none_illegal c.args.report.now.history c.args.report.now.orders in
    let same = is ∙ ap (first_illegal c.args.report.now.history) c.items-orders.ensures in
    (λ none. both.0 (sym same ∙ none), λ all. same ∙ both.1 all))
    c.search_illegal.ensures

pub returns-clause-linearizable : goal.returns-clause-linearizable
returns-clause-linearizable c ruled =
    IfOk-weaker c.search_illegal.result _ _
    (λ found is.
    let both = none_illegal-linearizable c.args.report.now ruled in
    let same = is ∙ ap (first_illegal c.args.report.now.history) c.items-orders.ensures in
    (λ none. both.0 (sym same ∙ none), λ all. same ∙ both.1 all))
    c.search_illegal.ensures
