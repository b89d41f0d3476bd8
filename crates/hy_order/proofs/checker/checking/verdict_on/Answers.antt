use Rattle.std.proofs.Common.{◌≡◌, ℕ, None, ◌∙◌, sym, ap, subst, length}
use Rattle.hy_order.specs.Checking.{ArePlaces}
use Rattle.hy_order.specs.Linearization.{no_register, listed}
use Rattle.hy_order.specs.Violation.{missing_number, stranger_number, repeated_number, early_numbers, wrong_number}
use Rattle.hy_order.proofs.Listed.{targets}
use Rattle.hy_order.proofs.Marking.{places-members}
use Rattle.hy_order.proofs.Verdicts.{Missing-first, Stranger-first, Twice-first, Early-first, Wrong-first, Legal-first}
use Rattle.hy_order.proofs.checker.checking.verdict_on.Goals as goal
use Rattle.hy_order.proofs.checker.checking.verdict_on.Goals.{in-Some-first_wrong, in-None}

pub returns-in-Some-clause-verdict : goal.returns-in-Some-clause-verdict
returns-in-Some-clause-verdict c =
    let ops = c.args.index.now in
    let key = c.args.order.now.key in
    let numbers = c.args.order.now.ops in
    let same : c.items-numbers.result.now ≡ numbers = c.items-numbers.ensures in
    let missing : c.first_missing.result ≡ missing_number ops key numbers =
    c.first_missing.ensures c.items-numbers.result.now c.mark_listed-repeated.ensures.marked ∙ ap (missing_number ops key) same in
    Missing-first ops key numbers c.in-Some.number (sym missing ∙ c.in-Some.is)

pub returns-in-Some-first_stranger-clause-verdict : goal.returns-in-Some-first_stranger-clause-verdict
returns-in-Some-first_stranger-clause-verdict c =
    let ops = c.args.index.now in
    let key = c.args.order.now.key in
    let numbers = c.args.order.now.ops in
    let same : c.items-numbers.result.now ≡ numbers = c.items-numbers.ensures in
    let missing : c.first_missing.result ≡ missing_number ops key numbers =
    c.first_missing.ensures c.items-numbers.result.now c.mark_listed-repeated.ensures.marked ∙ ap (missing_number ops key) same in
    let complete : missing_number ops key numbers ≡ None = sym missing ∙ c.in_default.is in
    let stranger : c.first_stranger.result ≡ stranger_number ops key numbers = c.first_stranger.ensures ∙ ap (stranger_number ops key) same in
    Stranger-first ops key numbers c.in-Some-first_stranger.number complete (sym stranger ∙ c.in-Some-first_stranger.is)

pub returns-in-Some-repeated-clause-verdict : goal.returns-in-Some-repeated-clause-verdict
returns-in-Some-repeated-clause-verdict c =
    let ops = c.args.index.now in
    let key = c.args.order.now.key in
    let numbers = c.args.order.now.ops in
    let same : c.items-numbers.result.now ≡ numbers = c.items-numbers.ensures in
    let missing : c.first_missing.result ≡ missing_number ops key numbers =
    c.first_missing.ensures c.items-numbers.result.now c.mark_listed-repeated.ensures.marked ∙ ap (missing_number ops key) same in
    let complete : missing_number ops key numbers ≡ None = sym missing ∙ c.in_default.is in
    let stranger : c.first_stranger.result ≡ stranger_number ops key numbers = c.first_stranger.ensures ∙ ap (stranger_number ops key) same in
    let members : stranger_number ops key numbers ≡ None = sym stranger ∙ c.in_default-first_stranger.is in
    let places : ArePlaces (length ops) c.items-numbers.result.now =
    places-members ops key c.items-numbers.result.now c.requires.marks.numbered (sym c.first_stranger.ensures ∙ c.in_default-first_stranger.is) in
    let repeated : c.mark_listed-repeated.result ≡ repeated_number numbers =
    c.mark_listed-repeated.ensures.repeated (subst (λ (count : ℕ). ArePlaces count c.items-numbers.result.now) (sym c.requires.marks.count) places) ∙ ap repeated_number same in
    Twice-first ops key numbers c.in-Some-repeated.number complete members (sym repeated ∙ c.in-Some-repeated.is)

pub returns-in-Some-first_early-clause-verdict : goal.returns-in-Some-first_early-clause-verdict
returns-in-Some-first_early-clause-verdict c =
    let ops = c.args.index.now in
    let key = c.args.order.now.key in
    let numbers = c.args.order.now.ops in
    let same : c.items-numbers.result.now ≡ numbers = c.items-numbers.ensures in
    let missing : c.first_missing.result ≡ missing_number ops key numbers =
    c.first_missing.ensures c.items-numbers.result.now c.mark_listed-repeated.ensures.marked ∙ ap (missing_number ops key) same in
    let complete : missing_number ops key numbers ≡ None = sym missing ∙ c.in_default.is in
    let stranger : c.first_stranger.result ≡ stranger_number ops key numbers = c.first_stranger.ensures ∙ ap (stranger_number ops key) same in
    let members : stranger_number ops key numbers ≡ None = sym stranger ∙ c.in_default-first_stranger.is in
    let places : ArePlaces (length ops) c.items-numbers.result.now =
    places-members ops key c.items-numbers.result.now c.requires.marks.numbered (sym c.first_stranger.ensures ∙ c.in_default-first_stranger.is) in
    let repeated : c.mark_listed-repeated.result ≡ repeated_number numbers =
    c.mark_listed-repeated.ensures.repeated (subst (λ (count : ℕ). ArePlaces count c.items-numbers.result.now) (sym c.requires.marks.count) places) ∙ ap repeated_number same in
    let distinct : repeated_number numbers ≡ None = sym repeated ∙ c.in_default-repeated.is in
    let found : targets c.deref.result.now ≡ listed ops numbers = ap targets c.deref.ensures.value ∙ c.in_ok-listed.ensures ∙ ap (listed ops) same in
    Early-first ops key numbers c.in-Some-first_early.earlier c.in-Some-first_early.later complete members distinct
    (sym (ap early_numbers found) ∙ sym c.first_early.ensures ∙ c.in-Some-first_early.is)

pub returns-clause-verdict : goal.returns-clause-verdict
returns-clause-verdict c =
    let ops = c.args.index.now in
    let key = c.args.order.now.key in
    let numbers = c.args.order.now.ops in
    let same : c.items-numbers.result.now ≡ numbers = c.items-numbers.ensures in
    let missing : c.first_missing.result ≡ missing_number ops key numbers =
    c.first_missing.ensures c.items-numbers.result.now c.mark_listed-repeated.ensures.marked ∙ ap (missing_number ops key) same in
    let complete : missing_number ops key numbers ≡ None = sym missing ∙ c.in_default.is in
    let stranger : c.first_stranger.result ≡ stranger_number ops key numbers = c.first_stranger.ensures ∙ ap (stranger_number ops key) same in
    let members : stranger_number ops key numbers ≡ None = sym stranger ∙ c.in_default-first_stranger.is in
    let places : ArePlaces (length ops) c.items-numbers.result.now =
    places-members ops key c.items-numbers.result.now c.requires.marks.numbered (sym c.first_stranger.ensures ∙ c.in_default-first_stranger.is) in
    let repeated : c.mark_listed-repeated.result ≡ repeated_number numbers =
    c.mark_listed-repeated.ensures.repeated (subst (λ (count : ℕ). ArePlaces count c.items-numbers.result.now) (sym c.requires.marks.count) places) ∙ ap repeated_number same in
    let distinct : repeated_number numbers ≡ None = sym repeated ∙ c.in_default-repeated.is in
    let found : targets c.deref.result.now ≡ listed ops numbers = ap targets c.deref.ensures.value ∙ c.in_ok-listed.ensures ∙ ap (listed ops) same in
    let ordered : early_numbers (listed ops numbers) ≡ None = sym (ap early_numbers found) ∙ sym c.first_early.ensures ∙ c.in_default-first_early.is in
    let again : targets c.deref-2.result.now ≡ listed ops numbers = ap targets c.deref-2.ensures.value ∙ c.in_ok-listed.ensures ∙ ap (listed ops) same in
    elim c.match-first_wrong.branch [
      | in-Some-first_wrong w ↦
          w.result-is
          ∙ Wrong-first ops key numbers w.in-Some-first_wrong.number complete members distinct ordered
          (sym (w.in-Some-first_wrong.ensures ∙ ap (wrong_number no_register) again))
      | in-None w ↦
          w.result-is
          ∙ Legal-first ops key numbers complete members distinct ordered (sym (w.in-None.ensures ∙ ap (wrong_number no_register) again))
    ]
