-- The line is its first word, the others with a space before each, and its end.
use Rattle.std.proofs.Common.{◌≡◌, ◌++◌, [], ◌∷◌, codes, ap, ◌∙◌}
use Rattle.std.specs.Fmt.{decimal}
use Rattle.hy_text.specs.Line.{spaced}
use Rattle.hy_text.specs.Slot.{value_word}
use Rattle.hy_vectors.specs.Vectors.{fragments_line, four_words}
use Rattle.hy_vectors.proofs.Joined.{joined}
use Rattle.hy_vectors.proofs.codes.push_fragments.Goals as goal

pub returns : goal.returns
returns c =
    let four = four_words c.args.fragments.now in
    let first = c.in_ok-extend_from_slice.ensures.items in
    let one = c.in_ok-push_value_word.ensures ∙ ap (λ front. front ++ 32 ∷ value_word (1 ∷ 2 ∷ [])) first in
    let two = c.in_ok-push_number_word.ensures ∙ ap (λ front. front ++ 32 ∷ decimal 2) one in
    let three = c.in_ok-push_number_word-2.ensures ∙ ap (λ front. front ++ 32 ∷ decimal 4) two in
    let rest = c.in_ok-push_four.ensures ∙ ap (λ front. front ++ spaced four) three in
    c.in_ok-push.ensures.items ∙ ap (λ front. front ++ 10 ∷ []) rest
    ∙ joined c.args.out.now.items (codes "split") (value_word (1 ∷ 2 ∷ [])) (decimal 2) (decimal 4) four
