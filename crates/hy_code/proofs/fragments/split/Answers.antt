use Rattle.std.proofs.lemmas.List.FromFn.{length-map-range_with_len}
use Rattle.std.proofs.Common.{◌∙◌, List, sym, ap, subst, length, arith}
use Rattle.hy_base.specs.Shape.{fragment_size}
use Rattle.hy_code.specs.declared.pick.Pick.{Pick}
use Rattle.hy_code.specs.Fragments.{clouds, fragment_of}
use Rattle.hy_code.specs.Polynomial.{AreDifferent}
use Rattle.hy_code.proofs.FirstParts.{all_fragments, elements_from}
use Rattle.hy_code.proofs.PartLemmas.{parts_of-sized, parts_of-different}
use Rattle.hy_code.proofs.Refusals.{AreSized, AreSized-each}
use Rattle.hy_code.proofs.fragments.split.Goals as goal

pub others-requires-clause-parts : goal.others-requires-clause-parts
others-requires-clause-parts c = c.deref.ensures.value ∙ c.in_ok-parts.ensures

pub others-requires-clause-sizes : goal.others-requires-clause-sizes
others-requires-clause-sizes c =
    let size = fragment_size (length c.args.value.now) c.args.k in
    let P : List Pick → Type 0 = AreSized size in
    AreSized-each size c.deref.result.now (subst P (sym (c.deref.ensures.value ∙ c.in_ok-parts.ensures)) (parts_of-sized c.args.value.now c.args.k))

pub others-requires-clause-different : goal.others-requires-clause-different
others-requires-clause-different c =
    let P : List Pick → Type 0 = λ picks. AreDifferent (clouds picks) in
    subst P (sym (c.deref.ensures.value ∙ c.in_ok-parts.ensures)) (parts_of-different c.args.value.now c.args.k)

pub returns-clause-each : goal.returns-clause-each
returns-clause-each c =
    all_fragments c.args.value.now c.args.k c.args.n c.in_ok-parts.parts.items c.in_ok-others.others
    (elements_from c.args.value.now (λ i. (c.type_inv.value i).fits)) (omega (arith, c.ranges.k.fits)) c.requires.parts_fit c.in_ok-parts.ensures c.in_ok-others.ensures

pub returns-clause-count : goal.returns-clause-count
returns-clause-count c =
    ap length (returns-clause-each c) ∙ length-map-range_with_len (fragment_of c.args.value.now c.args.k) 0 c.args.n
