-- The block ends in the piece, or goes on.
use Rattle.std.proofs.Common.{◌≡◌, ℕ, ◌+◌, ◌-◌, ◌<◌, ◌≤◌, min, true, false, List, ◌++◌, length, take, refl, ap, subst, ◌∙◌, arith, inl, inr}
use Rattle.std.specs.Prelude.{◌⊎◌}
use Rattle.std.proofs.lemmas.Bool.{cases_lt}
use Rattle.std.proofs.lemmas.Result.{MatchResult-weaker}
use Rattle.std.proofs.lemmas.List.{length-append, take_all, take_at, take_rest, length-take}
use Rattle.hy_cwire.specs.declared.block.TheConstants.{MAX_HEAD}
use Rattle.hy_cwire.specs.Block.{ends_head, HasNoBlock}
use Rattle.hy_cwire.specs.Stages.{too_long, Begins}
use Rattle.hy_cwire.proofs.Blocks.{front-waits}
use Rattle.hy_cwire.proofs.Stages.{in-block}
use Rattle.hy_cwire.proofs.progress.in_head.Goals as goal

pub returns-in-Ok-clause-stands : goal.returns-in-Ok-clause-stands
returns-in-Ok-clause-stands g c =
    let front = c.args.front in
    let piece = c.args.piece.now in
    let end = c.in-Some.end in
    let m = c.min.result in
    let sized = length-take m piece in
    let small : length front + end ≤ MAX_HEAD = omega (arith, c.in-Some.ensures.within.0, c.in-Some.ensures.within.1, sized, c.min.ensures, c.saturating_sub.ensures, ap (length {A = ℕ}) c.get-had.ensures) in
    let back : take (length front) c.push.new.self ≡ front = ap (take (length front)) c.in-Ok.ensures.ok ∙ take_at front (take end piece) (length front) refl in
    let had : take (length c.get-had.result.now) c.push.new.self ≡ front = ap (λ (n : ℕ). take n c.push.new.self) (ap (length {A = ℕ}) c.get-had.ensures) ∙ back in
    MatchResult-weaker c.with_block.result c.with_block.ensures.begins
    (λ after begins before.
    in-block g.H.Head.comes_to g.H.Head.size front piece c.push.new.self m end after before c.in-Some.ensures.within.0 c.in-Some.ensures.within.1 small
    (subst (λ (t : List ℕ). ends_head (t ++ take end (take m piece)) ≡ true) c.get.ensures c.in-Some.ensures.ends)
    (subst (λ (t : List ℕ). (n : ℕ) → 0 < n → n < end → ends_head (t ++ take n (take m piece)) ≡ false) c.get.ensures c.in-Some.ensures.first)
    c.in-Ok.ensures.ok (subst (λ (t : List ℕ). Begins g.H.Head.comes_to g.H.Head.size c.push.new.self t after) (take_rest piece end) begins))
    (λ after same. same ∙ had)

-- no block ends in the part of the piece that was looked at
waits : (front got piece : List ℕ) (m room : ℕ) → got ≡ front → m ≡ min (length piece) room → room ≡ MAX_HEAD - length front → ((n : ℕ) → 0 < n → n ≤ length (take m piece) → ends_head (got ++ take n (take m piece)) ≡ false) → HasNoBlock front → HasNoBlock (front ++ piece)
waits front got piece m room same least left none before =
    front-waits front piece m before (sides (cases_lt (length piece) (room + 1))) (subst (λ (t : List ℕ). (n : ℕ) → 0 < n → n ≤ length (take m piece) → ends_head (t ++ take n (take m piece)) ≡ false) same none)
  where
    sides : (length piece < room + 1) ⊎ (room + 1 ≤ length piece) → (length piece ≤ m) ⊎ (MAX_HEAD ≤ length front + length (take m piece))
    sides (inl all) = inl (omega (arith, all, least))
    sides (inr more) = inr (let sized = length-take m piece in omega (arith, sized, more, least, left))

pub returns-in-None-clause-stands : goal.returns-in-None-clause-stands
returns-in-None-clause-stands g c = λ before.
    let front = c.args.front in
    let piece = c.args.piece.now in
    let sized = length-take c.min.result piece in
    let none = waits front c.get.result.now piece c.min.result c.saturating_sub.result c.get.ensures c.min.ensures (c.saturating_sub.ensures ∙ ap (λ (t : List ℕ). MAX_HEAD - length t) c.get-had.ensures) c.in-None.ensures.none before in
    too_long refl none (omega (arith, sized, length-append front piece, ap (length {A = ℕ}) c.get-had.ensures, c.min.ensures))

pub returns-in-Ok-push-clause-stands : goal.returns-in-Ok-push-clause-stands
returns-in-Ok-push-clause-stands g c = λ before.
    let front = c.args.front in
    let piece = c.args.piece.now in
    let m = c.min.result in
    let sized = length-take m piece in
    let none = waits front c.get.result.now piece m c.saturating_sub.result c.get.ensures c.min.ensures (c.saturating_sub.ensures ∙ ap (λ (t : List ℕ). MAX_HEAD - length t) c.get-had.ensures) c.in-None.ensures.none before in
    let got = ap (length {A = ℕ}) c.get-had.ensures in
    let all : length piece ≤ m = omega (arith, sized, c.min.ensures, c.saturating_sub.ensures, got) in
    let near : take m piece ≡ piece = take_all m piece all in
    (c.in-Ok-push.ensures.ok ∙ ap (λ (t : List ℕ). front ++ t) near, none, omega (arith, sized, length-append front piece, got, all))
