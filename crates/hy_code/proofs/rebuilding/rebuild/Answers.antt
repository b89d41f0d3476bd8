use Rattle.std.proofs.Common.{◌∙◌, ℕ, sym, ap, subst, take, arith}
use Rattle.hy_code.specs.Fragments.{rebuilt_value}
use Rattle.hy_code.proofs.AnyParts.{any_parts}
use Rattle.hy_code.proofs.Refusals.{AreSized, AreSized-each, sized_from_none, different_from_none}
use Rattle.hy_code.proofs.rebuilding.rebuild.Goals as goal

pub parts_joined-requires-clause-sizes : goal.parts_joined-requires-clause-sizes
parts_joined-requires-clause-sizes c =
    let used = take c.args.k c.deref.result.now in
    let S : ℕ → Type 0 = λ size. AreSized size used in
    let sized = sized_from_none c.fragment_size-fragment_size.result 0 used (sym c.wrong_length.ensures ∙ c.in_default.is) in
    AreSized-each _ used (subst S c.fragment_size-fragment_size.ensures sized)

pub parts_joined-requires-clause-different : goal.parts_joined-requires-clause-different
parts_joined-requires-clause-different c =
    different_from_none _ (take c.args.k c.deref.result.now) (sym c.repeated_cloud.ensures ∙ c.in_default-repeated_cloud.is)

pub returns-clause-any_parts : goal.returns-clause-any_parts
returns-clause-any_parts c value bytes size fragments =
    c.of.ensures
    ∙ c.in_ok-value.ensures
    ∙ ap (λ picks. rebuilt_value c.args.size c.args.k (take c.args.k picks)) c.deref.ensures.value
    ∙ ap (λ n. rebuilt_value n c.args.k (take c.args.k c.args.picks.now.items)) (sym size)
    ∙ any_parts value c.args.k (take c.args.k c.args.picks.now.items) bytes c.requires.one_part (omega arith) fragments
