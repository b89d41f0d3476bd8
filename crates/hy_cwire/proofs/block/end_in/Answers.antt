-- No head ends in the bytes so far.
use Rattle.std.proofs.Common.{◌≡◌, ℕ, ◌+◌, ◌<◌, ◌≤◌, false, List, [], ◌∷◌, ◌++◌, take, get_or, sym, ap, subst, ◌∙◌, append_assoc, arith, inl, inr, length}
use Rattle.std.specs.Prelude.{◌≢◌}
use Rattle.std.proofs.lemmas.Bool.{cases_lt}
use Rattle.std.proofs.lemmas.List.{take_more}
use Rattle.hy_cwire.specs.Block.{ends_head}
use Rattle.hy_cwire.proofs.Blocks.{no_end}
use Rattle.hy_cwire.proofs.block.end_in.Goals as goal
use Rattle.hy_cwire.proofs.block.end_in.Goals.{else-piece-i-eq10-via-then-piece-i-eq10+else-ends_block, else-piece-i-eq10-via-else-piece-i-eq10}

-- one more byte
more : (before piece : List ℕ) (i : ℕ) → ((n : ℕ) → 0 < n → n ≤ i → ends_head (before ++ take n piece) ≡ false) → ends_head (before ++ take (i + 1) piece) ≡ false → (n : ℕ) → 0 < n → n ≤ i + 1 → ends_head (before ++ take n piece) ≡ false
more before piece i below here n some most =
    elim (cases_lt i n) [
      | inl last ↦ let is : i + 1 ≡ n = omega (arith, last, most) in subst (λ (k : ℕ). ends_head (before ++ take k piece) ≡ false) is here
      | inr less ↦ below n some less
    ]

-- a byte that is no line feed ends no head
other : (before piece : List ℕ) (i : ℕ) → i < length piece → get_or piece i 0 ≢ 10 → ends_head (before ++ take (i + 1) piece) ≡ false
other before piece i inside byte =
    let parts : before ++ take (i + 1) piece ≡ (before ++ take i piece) ++ get_or piece i 0 ∷ [] = ap (λ (t : List ℕ). before ++ t) (take_more piece i 0 inside) ∙ sym (append_assoc before (take i piece) (get_or piece i 0 ∷ [])) in
    ap ends_head parts ∙ no_end (before ++ take i piece) (get_or piece i 0) byte

pub loop-i-preserved : goal.loop-i-preserved
loop-i-preserved c = more c.args.before.now c.args.piece.now c.loop-i.i c.loop-i.invariant (elim c.else-piece-i-eq10.branch [
  | else-piece-i-eq10-via-then-piece-i-eq10+else-ends_block w ↦ sym w.ends_block.ensures ∙ w.if-ends_block.false
  | else-piece-i-eq10-via-else-piece-i-eq10 w ↦ other c.args.before.now c.args.piece.now c.loop-i.i c.loop-i-test.true w.if-piece-i-eq10.false
])
