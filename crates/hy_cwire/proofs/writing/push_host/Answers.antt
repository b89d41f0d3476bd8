use Rattle.std.proofs.Common.{◌≡◌, ℕ, List, ◌++◌, ap, ◌∙◌, append_assoc}
use Rattle.std.specs.Fmt.{decimal}
use Rattle.hy_cwire.proofs.writing.push_host.Goals as goal

three_pieces : (old first second third after more all : List ℕ) → after ≡ old ++ first → more ≡ after ++ second → all ≡ more ++ third → all ≡ old ++ (first ++ (second ++ third))
three_pieces old first second third after more all one two three =
    three ∙ ap (λ (t : List ℕ). t ++ third) (two ∙ ap (λ (t : List ℕ). t ++ second) one) ∙ append_assoc (old ++ first) second third ∙ append_assoc old first (second ++ third)

pub returns : goal.returns
returns c =
    let number = c.in_ok-push_number.ensures ∙ ap (λ (n : ℕ). c.extend_from_slice.new.self.items ++ decimal n) c.from.ensures in
    three_pieces _ _ _ _ _ _ _ c.in_ok-extend_from_slice.ensures.items number c.in_ok-extend_from_slice-2.ensures.items
