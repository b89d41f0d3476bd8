-- The numbers of an order one by one: what was read before, in front of what is still read.
use Rattle.std.proofs.Common.{◌≡◌, ℕ, true, false, List, [], ◌∷◌, ◌++◌, Result, Ok, Err, sym, ap, ◌∙◌, append-nil}
use Rattle.std.specs.Prelude.{is_err}
use Rattle.hy_base.specs.Results.{◌>>=◌}
use Rattle.hy_base.proofs.Results.{with_front, with_front-more}
use Rattle.hy_base.specs.declared.fault.Cause.{Cause}
use Rattle.hy_base.specs.declared.limits.TheConstants.{MAX_COUNT}
use Rattle.hy_text.specs.Line.{first_word, later_words}
use Rattle.hy_text.specs.Slot.{number_of, end_of}
use Rattle.hy_order.specs.WordReaders.{numbers_of}

pub numbers_go_on : (front : List ℕ) (words : List (List ℕ)) (number : ℕ) (total : Result (List ℕ) Cause)
    → is_err (end_of words) ≡ true → number_of 1 MAX_COUNT (first_word words) ≡ Ok number
    → with_front front (numbers_of words) ≡ total → with_front (front ++ number ∷ []) (numbers_of (later_words words)) ≡ total
unfolding numbers_of
numbers_go_on front [] number total some read so_far = absurd cc
numbers_go_on front (word ∷ words) number total some read so_far =
    sym (with_front-more front number (numbers_of words))
    ∙ ap (λ (first : Result ℕ Cause). with_front front (first >>= λ number. numbers_of words >>= λ numbers. Ok (number ∷ numbers))) (sym read) ∙ so_far

pub numbers_fail : (front : List ℕ) (words : List (List ℕ)) (cause : Cause) (total : Result (List ℕ) Cause)
    → is_err (end_of words) ≡ true → number_of 1 MAX_COUNT (first_word words) ≡ Err cause
    → with_front front (numbers_of words) ≡ total → total ≡ Err cause
unfolding numbers_of
numbers_fail front [] cause total some read so_far = absurd cc
numbers_fail front (word ∷ words) cause total some read so_far =
    sym so_far ∙ ap (λ (first : Result ℕ Cause). with_front front (first >>= λ number. numbers_of words >>= λ numbers. Ok (number ∷ numbers))) read

pub numbers_end : (front : List ℕ) (words : List (List ℕ)) (total : Result (List ℕ) Cause)
    → is_err (end_of words) ≡ false → with_front front (numbers_of words) ≡ total → total ≡ Ok front
unfolding numbers_of
numbers_end front [] total none so_far = sym so_far ∙ ap (λ (all : List ℕ). Ok all) (append-nil front)
numbers_end front (word ∷ words) total none so_far = absurd cc
