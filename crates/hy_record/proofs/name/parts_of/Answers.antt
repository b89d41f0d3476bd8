-- The parts of a name are found where it has them.
use Rattle.std.proofs.Common.{◌≡◌, ◌∷◌, [], ◌++◌, sym, ◌∙◌, length}
use Rattle.std.specs.Prelude.{None, Some}
use Rattle.std.proofs.lemmas.Bool.Decides.{Decides-eqb}
use Rattle.std.proofs.lemmas.List.{take-append-drop}
use Rattle.std.proofs.lemmas.Slice.Eq.{strip_prefix_is, strip_suffix_is}
use Rattle.hy_record.proofs.Names.{joined, before_slash, tail_size}
use Rattle.hy_record.proofs.name.parts_of.Goals as goal

pub returns-in_err-key-clause-only : goal.returns-in_err-key-clause-only
returns-in_err-key-clause-only c = λ key sn cid size last named.
    let begins = strip_prefix_is Decides-eqb c.args.text.now (47 ∷ 111 ∷ 47 ∷ []) (Some c.in_ok-rest.rest) c.in_ok-rest.ensures.cases in
    let whole : c.in_ok-rest.rest.now ≡ c.in_ok-front.front.now ++ c.in_ok-front.cid.now = rw (c.in_ok-front.ensures.cases.0, c.in_ok-front.ensures.cases.1) (sym (take-append-drop _ c.in_ok-rest.rest.now)) in
    let part : c.in_ok-front.front.now ≡ c.in_ok-front-2.front.now ++ c.in_ok-front-2.sn.now = rw (c.in_ok-front-2.ensures.cases.0, c.in_ok-front-2.ensures.cases.1) (sym (take-append-drop _ c.in_ok-front.front.now)) in
    let slash = strip_suffix_is Decides-eqb c.in_ok-front-2.front.now (47 ∷ []) None c.in_err-key.ensures.cases in
    let ends : length c.in_ok-front.cid.now ≡ length cid = tail_size c.in_ok-rest.rest.now c.in_ok-front.front.now c.in_ok-front.cid.now 8 whole c.in_ok-front.ensures.cases.2 ∙ sym last in
    let middle : length c.in_ok-front-2.sn.now ≡ length sn = tail_size c.in_ok-front.front.now c.in_ok-front-2.front.now c.in_ok-front-2.sn.now 8 part c.in_ok-front-2.ensures.cases.2 ∙ sym size in
    absurd (slash key (before_slash c.args.text.now c.in_ok-rest.rest.now c.in_ok-front.front.now c.in_ok-front.cid.now c.in_ok-front-2.front.now c.in_ok-front-2.sn.now key sn cid begins whole part ends middle named))

pub returns-clause-found : goal.returns-clause-found
returns-clause-found c =
    let begins = strip_prefix_is Decides-eqb c.args.text.now (47 ∷ 111 ∷ 47 ∷ []) (Some c.in_ok-rest.rest) c.in_ok-rest.ensures.cases in
    let whole : c.in_ok-rest.rest.now ≡ c.in_ok-front.front.now ++ c.in_ok-front.cid.now = rw (c.in_ok-front.ensures.cases.0, c.in_ok-front.ensures.cases.1) (sym (take-append-drop _ c.in_ok-rest.rest.now)) in
    let part : c.in_ok-front.front.now ≡ c.in_ok-front-2.front.now ++ c.in_ok-front-2.sn.now = rw (c.in_ok-front-2.ensures.cases.0, c.in_ok-front-2.ensures.cases.1) (sym (take-append-drop _ c.in_ok-front.front.now)) in
    let slash = strip_suffix_is Decides-eqb c.in_ok-front-2.front.now (47 ∷ []) (Some c.in_ok-key.key) c.in_ok-key.ensures.cases in
    joined c.args.text.now c.in_ok-rest.rest.now c.in_ok-front.front.now c.in_ok-front.cid.now c.in_ok-front-2.front.now c.in_ok-front-2.sn.now c.in_ok-key.key.now begins whole part slash
