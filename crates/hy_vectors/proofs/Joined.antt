-- A line whose words were appended one after the other.
use Rattle.std.proofs.Common.{◌≡◌, ℕ, List, [], ◌∷◌, ◌++◌, refl, ap, sym, ◌∙◌, subst, append_assoc}
use Rattle.hy_text.specs.Line.{line_text, spaced}
use Rattle.hy_text.proofs.Spaced.{line_text-cons}

-- three words behind the first, and then words that were joined before
pub joined : (out first one two three : List ℕ) (rest : List (List ℕ)) → ((((((out ++ first) ++ 32 ∷ one) ++ 32 ∷ two) ++ 32 ∷ three) ++ spaced rest) ++ 10 ∷ []) ≡ out ++ line_text (first ∷ one ∷ two ∷ three ∷ rest)
joined out first one two three rest =
    let line = line_text-cons first (one ∷ two ∷ three ∷ rest) in
    let end : List ℕ = spaced rest ++ 10 ∷ [] in
    let a5 = append_assoc ((((out ++ first) ++ 32 ∷ one) ++ 32 ∷ two) ++ 32 ∷ three) (spaced rest) (10 ∷ []) in
    let a4 = append_assoc (((out ++ first) ++ 32 ∷ one) ++ 32 ∷ two) (32 ∷ three) end in
    let a3 = append_assoc ((out ++ first) ++ 32 ∷ one) (32 ∷ two) (32 ∷ (three ++ end)) in
    let a2 = append_assoc (out ++ first) (32 ∷ one) (32 ∷ (two ++ 32 ∷ (three ++ end))) in
    let a1 = append_assoc out first (32 ∷ (one ++ 32 ∷ (two ++ 32 ∷ (three ++ end)))) in
    let b1 = append_assoc one (32 ∷ (two ++ 32 ∷ (three ++ spaced rest))) (10 ∷ []) in
    let b2 = append_assoc two (32 ∷ (three ++ spaced rest)) (10 ∷ []) in
    let b3 = append_assoc three (spaced rest) (10 ∷ []) in
    rw (line, b1, b2, b3) (a5 ∙ a4 ∙ a3 ∙ a2 ∙ a1)
