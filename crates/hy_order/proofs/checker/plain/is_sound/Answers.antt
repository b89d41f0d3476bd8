use Rattle.std.proofs.Common.{◌≡◌, ℕ, true, None, ◌∙◌, sym, ap, subst, length, arith}
use Rattle.std.proofs.lemmas.Grind.{common_steps}
use Rattle.hy_order.specs.Checking.{ArePlaces}
use Rattle.hy_order.specs.Linearization.{no_register, listed}
use Rattle.hy_order.specs.Violation.{stranger_number, repeated_number, early_numbers, wrong_number}
use Rattle.hy_order.proofs.Listed.{targets}
use Rattle.hy_order.proofs.Marking.{places-members}
use Rattle.hy_order.proofs.checker.plain.is_sound.Goals as goal

pub returns-clause-sound : goal.returns-clause-sound
returns-clause-sound c = λ told.
    let ops = c.args.ops.now in
    let key = c.args.order.now.key in
    let numbers = c.args.order.now.ops in
    let same : c.items-numbers.result.now ≡ numbers = c.items-numbers.ensures in
    let no_stranger : c.first_stranger_among-stranger.result ≡ None = grind (arith, common_steps) in
    let new : c.mark_new-new.result ≡ true = grind (arith, common_steps) in
    let stranger : stranger_number ops key c.items-numbers.result.now ≡ None = sym c.first_stranger_among-stranger.ensures ∙ no_stranger in
    let places : ArePlaces (length ops) c.items-numbers.result.now =
    places-members ops key c.items-numbers.result.now c.requires.marks.numbered stranger in
    let twice : repeated_number c.items-numbers.result.now ≡ None =
    c.mark_new-new.ensures.new new (subst (λ (count : ℕ). ArePlaces count c.items-numbers.result.now) (sym c.requires.marks.count) places) in
    let found : targets c.deref.result.now ≡ listed ops numbers = ap targets c.deref.ensures.value ∙ c.in_ok-listed.ensures ∙ ap (listed ops) same in
    let again : targets c.deref-2.result.now ≡ listed ops numbers = ap targets c.deref-2.ensures.value ∙ c.in_ok-listed.ensures ∙ ap (listed ops) same in
    let not_early : c.first_early.result ≡ None = grind (arith, common_steps) in
    let not_wrong : c.first_wrong.result ≡ None = grind (arith, common_steps) in
    record {
      stranger = sym (ap (stranger_number ops key) same) ∙ stranger;
      twice = sym (ap repeated_number same) ∙ twice;
      early = sym (ap early_numbers found) ∙ sym c.first_early.ensures ∙ not_early;
      wrong = sym (ap (wrong_number no_register) again) ∙ sym c.first_wrong.ensures ∙ not_wrong;
    }
