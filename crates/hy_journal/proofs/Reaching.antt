-- How far a disk was brought by calls.
use Rattle.std.proofs.Common.{ℕ, ◌+◌, ◌≤◌, max, arith}

module _ {D : Type 0} (reach : D → D → ℕ → ℕ → ℕ → Type 0)
    (reach_then : (a b c : D) (steps more bytes others end last : ℕ) → reach a b steps bytes end → reach b c more others last
    → reach a c (steps + more) (bytes + others) (max end last))
    (reach_more : (a b : D) (steps more bytes others end last : ℕ) → steps ≤ more → bytes ≤ others → end ≤ last → reach a b steps bytes end
    → reach a b more others last) where
  -- calls within a bound, and then others, within a bound for all
  pub both : (a b c : D) (s t w v e f steps bytes end : ℕ) → reach a b s w e → reach b c t v f → s + t ≤ steps → w + v ≤ bytes → max e f ≤ end
      → reach a c steps bytes end
  both a b c s t w v e f steps bytes end first second few short before =
      reach_more a c (s + t) steps (w + v) bytes (max e f) end few short before (reach_then a b c s t w v e f first second)

  -- calls that write nothing
  pub looks : (a b c : D) → reach a b 0 0 0 → reach b c 0 0 0 → reach a c 0 0 0
  looks a b c first second = both a b c 0 0 0 0 0 0 0 0 0 first second (omega arith) (omega arith) (omega arith)
