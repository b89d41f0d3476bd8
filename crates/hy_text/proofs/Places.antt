-- The first place of a byte.
use Rattle.std.proofs.Common.{◌≡◌, ℕ, Bool, true, false, cond, ltb, List, length, get_or, Option, Some, None, sym, ap, ◌∙◌, arith, inl, inr}
use Rattle.std.specs.List.{position, position_or_len}
use Rattle.std.proofs.lemmas.Bool.{cases_Bool, cond-true, cond-false, lt-ltb, le-ltb}
use Rattle.std.proofs.lemmas.List.Sums.{position_or_len_is}
use Rattle.memchr.specs.Find.{IsFirstByte, is_byte}

not_one : (b : Bool) → ¬ (b ≡ true) → b ≡ false
not_one b never = elim (cases_Bool b) [ inl is ↦ absurd (never is) | inr is ↦ is ]

found_at : (separator : ℕ) (bytes : List ℕ) (n : ℕ) → position_or_len (is_byte separator) bytes ≡ n → position (is_byte separator) bytes ≡ cond (ltb n (length bytes)) (Some n) None
found_at separator bytes n e = ap (λ (i : ℕ). cond (ltb i (length bytes)) (Some i) None) e

-- the first place that a search finds is the position
pub first_place : (separator : ℕ) (bytes : List ℕ) (r : Option ℕ) → IsFirstByte (is_byte separator) bytes r → r ≡ position (is_byte separator) bytes
first_place separator bytes None nowhere =
    sym (found_at separator bytes (length bytes)
    (position_or_len_is (is_byte separator) bytes (length bytes) 0 (omega arith)
    (λ k within. not_one (is_byte separator (get_or bytes k 0)) (nowhere k (omega arith) within)) (λ within. absurd (omega arith)))
    ∙ cond-false _ _ _ (le-ltb (length bytes) (length bytes) (omega arith)))
first_place separator bytes (Some n) first =
    sym (found_at separator bytes n
    (position_or_len_is (is_byte separator) bytes n 0 (omega (arith, first.0.high))
    (λ k within. not_one (is_byte separator (get_or bytes k 0)) (first.0.before k (omega arith) within)) (λ within. first.1))
    ∙ cond-true _ _ _ (lt-ltb n (length bytes) first.0.high))
