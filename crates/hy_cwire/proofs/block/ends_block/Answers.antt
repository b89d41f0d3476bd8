-- The end of a head, cut where the piece begins.
use Rattle.std.proofs.Common.{◌≡◌, ℕ, ◌-◌, ◌<◌, ◌≤◌, List, [], ◌++◌, length, take, drop, Bool, true, false, min, sym, ap, ◌∙◌, arith, inl, inr, ◌&&◌, refl}
use Rattle.std.specs.Prelude.{◌⊎◌, nat_eq}
use Rattle.std.specs.List.{ends_with}
use Rattle.std.proofs.lemmas.Bool.{cases_lt}
use Rattle.std.proofs.lemmas.List.{take-append-drop, length-drop}
use Rattle.hy_cwire.specs.Block.{end_of_head, ends_head}
use Rattle.hy_cwire.proofs.Blocks.{ends-across}
use Rattle.hy_cwire.proofs.block.ends_block.Goals as goal

-- so many of the four bytes stand before the piece
cut : (before piece first last : List ℕ) (k m : ℕ) → m ≡ min (length piece) 4 → k ≡ 4 - m → first ≡ take k end_of_head → last ≡ drop k end_of_head → (ends_with nat_eq before first && ends_with nat_eq piece last) ≡ ends_head (before ++ piece)
cut before piece first last k m least rest front back =
    let whole : first ++ last ≡ end_of_head = ap (λ (t : List ℕ). t ++ last) front ∙ ap (λ (t : List ℕ). take k end_of_head ++ t) back ∙ take-append-drop k end_of_head in
    let size : length last ≡ m = ap (length {A = ℕ}) back ∙ length-drop k end_of_head ∙ omega (arith, least, rest) in
    ends-across before piece first last whole (sides (cases_lt (length piece) 4)) (omega (arith, size, least))
  where
    sides : (length piece < 4) ⊎ (4 ≤ length piece) → (length piece ≤ length last) ⊎ (first ≡ [])
    sides (inl short) = inl (let size : length last ≡ m = ap (length {A = ℕ}) back ∙ length-drop k end_of_head ∙ omega (arith, least, rest) in omega (arith, size, least, short))
    sides (inr long) = inr (let none : k ≡ 0 = omega (arith, least, rest, long) in front ∙ ap (λ (n : ℕ). take n end_of_head) none)

pub returns-then-ends_with : goal.returns-then-ends_with
returns-then-ends_with c =
    let all = cut c.args.before.now c.args.piece.now c.split_at.result.0.now c.split_at.result.1.now (4 - c.min.result) c.min.result c.min.ensures refl c.split_at.ensures.front c.split_at.ensures.back in
    let one : ends_with nat_eq c.args.before.now c.split_at.result.0.now ≡ true = sym c.ends_with.ensures.value ∙ c.if-ends_with.true in
    c.ends_with-then-ends_with.ensures.value ∙ ap (λ (b : Bool). b && ends_with nat_eq c.args.piece.now c.split_at.result.1.now) (sym one) ∙ all

pub returns-else-ends_with : goal.returns-else-ends_with
returns-else-ends_with c =
    let all = cut c.args.before.now c.args.piece.now c.split_at.result.0.now c.split_at.result.1.now (4 - c.min.result) c.min.result c.min.ensures refl c.split_at.ensures.front c.split_at.ensures.back in
    let one : ends_with nat_eq c.args.before.now c.split_at.result.0.now ≡ false = sym c.ends_with.ensures.value ∙ c.if-ends_with.false in
    c.if-ends_with.false ∙ ap (λ (b : Bool). b && ends_with nat_eq c.args.piece.now c.split_at.result.1.now) (sym one) ∙ all
