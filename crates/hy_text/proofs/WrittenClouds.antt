-- A list of clouds, as it is written.
use Rattle.std.proofs.Common.{◌≡◌, ℕ, List, ◌∷◌, ◌++◌, map, ap, sym, ◌∙◌, append_assoc}
use Rattle.std.specs.Fmt.{decimal}
use Rattle.hy_text.specs.Line.{led_by}
use Rattle.hy_text.proofs.Spaced.{join_with_byte-cons}
use Rattle.hy_text.specs.Clouds.{cloud_word}

-- a list of clouds, written as its first number and then the others led by commas
pub cloud_word_joined : (old x1 x2 : List ℕ) (clouds rest : List ℕ) (first : ℕ) → clouds ≡ first ∷ rest
    → x1 ≡ old ++ 32 ∷ decimal first → x2 ≡ x1 ++ led_by 44 (map decimal rest) → x2 ≡ old ++ 32 ∷ cloud_word clouds
cloud_word_joined old x1 x2 clouds rest first is e1 e2 =
    e2 ∙ ap (λ bytes. bytes ++ led_by 44 (map decimal rest)) e1
    ∙ append_assoc old (32 ∷ decimal first) (led_by 44 (map decimal rest))
    ∙ ap (λ word. old ++ 32 ∷ word) (sym (join_with_byte-cons 44 (decimal first) (map decimal rest)))
    ∙ ap (λ xs. old ++ 32 ∷ cloud_word xs) (sym is)
