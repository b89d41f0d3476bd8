-- How far a message has come after a piece, and after the end.
use Rattle.std.proofs.Common.{◌≡◌, ℕ, ◌+◌, ◌<◌, ◌≤◌, min, true, false, List, ◌++◌, length, take, drop, Result, Ok, Err, refl, sym, ap, subst, ◌∙◌, append_assoc, arith, inl, inr}
use Rattle.std.proofs.lemmas.Bool.{cases_lt}
use Rattle.std.proofs.lemmas.List.{take_all, take-take, take_at, drop_at, take-append-drop, take-append-le, drop-append-le, length-append, length-take, length-drop}
use Rattle.hy_cwire.specs.declared.block.TheConstants.{MAX_HEAD}
use Rattle.hy_cwire.specs.declared.fault.HttpFault.{HttpFault}
use Rattle.hy_cwire.specs.declared.fault.HttpFault.TheVariants.{Cut}
use Rattle.hy_cwire.specs.declared.progress.Progress.{Progress}
use Rattle.hy_cwire.specs.declared.progress.Progress.TheVariants.{Head, Body, Given, Broken}
use Rattle.hy_cwire.specs.Block.{IsBlock, HasNoBlock}
use Rattle.hy_cwire.specs.Stages.{IsBroken, bad_head, no_head, no_body, IsAt, Begins}
use Rattle.hy_cwire.proofs.Blocks.{block-append, front-ends}
use Rattle.hy_cwire.specs.Block.{ends_head}

-- a front of what is longer
take-take-append : (n : ℕ) (xs ys : List ℕ) → take n (take n xs ++ ys) ≡ take n (xs ++ ys)
take-take-append n xs ys =
    elim (cases_lt (length xs) n) [
      | inl short ↦ ap (λ (t : List ℕ). take n (t ++ ys)) (take_all n xs (omega (arith, short)))
      | inr long ↦ take-append-le n (take n xs) ys (simp length-take (omega (arith, long))) ∙ take-take n n xs (omega arith) ∙ sym (take-append-le n xs ys long)
    ]

-- a piece of the body
pub body-fed : {H : Type 0} (comes_to : List ℕ → Result H HttpFault → Type 0) (size : H → ℕ) (bytes piece body after : List ℕ) (head : H) → IsAt comes_to size bytes (Body head body) → after ≡ take (size head) (body ++ piece) → IsAt comes_to size (bytes ++ piece) (Body head after)
body-fed comes_to size bytes piece body after head (n, block, comes, parts) is =
    let same : take n (bytes ++ piece) ≡ take n bytes = take-append-le n bytes piece block.within in
    let behind : drop n (bytes ++ piece) ≡ drop n bytes ++ piece = drop-append-le n bytes piece block.within in
    let all : after ≡ take (size head) (drop n (bytes ++ piece)) = is ∙ ap (λ (t : List ℕ). take (size head) (t ++ piece)) parts ∙ take-take-append (size head) (drop n bytes) piece ∙ ap (take (size head)) (sym behind) in
    (n, block-append bytes piece n block, subst (λ (t : List ℕ). comes_to t (Ok head)) (sym same) comes, all)

-- what comes behind the message is ignored
pub given-fed : {H : Type 0} (comes_to : List ℕ → Result H HttpFault → Type 0) (size : H → ℕ) (bytes piece : List ℕ) → IsAt comes_to size bytes Given → IsAt comes_to size (bytes ++ piece) Given
given-fed comes_to size bytes piece (n, head, block, comes, whole) =
    let same : take n (bytes ++ piece) ≡ take n bytes = take-append-le n bytes piece block.within in
    (n, head, block-append bytes piece n block, subst (λ (t : List ℕ). comes_to t (Ok head)) (sym same) comes, omega (arith, whole, length-drop n bytes, length-drop n (bytes ++ piece), length-append bytes piece))

-- what the whole block comes to
pub begun-at : {H : Type 0} (comes_to : List ℕ → Result H HttpFault → Type 0) (size : H → ℕ) (bytes block behind : List ℕ) (after : Progress H) → bytes ≡ block ++ behind → IsBlock bytes (length block) → Begins comes_to size block behind after → IsAt comes_to size bytes after
begun-at comes_to size bytes block behind (Head front) parts is begins = absurd begins
begun-at comes_to size bytes block behind (Body head body) parts is begins =
    let front : take (length block) bytes ≡ block = ap (take (length block)) parts ∙ take_at block behind (length block) refl in
    let rest : drop (length block) bytes ≡ behind = ap (drop (length block)) parts ∙ drop_at block behind (length block) refl in
    (length block, is, subst (λ (t : List ℕ). comes_to t (Ok head)) (sym front) begins.0, begins.1 ∙ ap (take (size head)) (sym rest))
begun-at comes_to size bytes block behind Given parts is begins = absurd begins
begun-at comes_to size bytes block behind (Broken wrong) parts is begins =
    let front : take (length block) bytes ≡ block = ap (take (length block)) parts ∙ take_at block behind (length block) refl in
    bad_head (length block) is (subst (λ (t : List ℕ). comes_to t (Err wrong)) (sym front) begins)

-- the peer closed before the head was whole
pub head-ended : {H : Type 0} (comes_to : List ℕ → Result H HttpFault → Type 0) (size : H → ℕ) (bytes front : List ℕ) → IsAt comes_to size bytes (Head front) → IsAt comes_to size bytes (Broken (Cut (length front) 0))
head-ended comes_to size bytes front (same, none, short) = no_head (ap (λ (t : List ℕ). Cut (length t) 0) same) none short

-- the peer closed before the body was whole
pub body-ended : {H : Type 0} (comes_to : List ℕ → Result H HttpFault → Type 0) (size : H → ℕ) (bytes body : List ℕ) (head : H) → IsAt comes_to size bytes (Body head body) → length body < size head → IsAt comes_to size bytes (Broken (Cut (length body) (size head)))
body-ended comes_to size bytes body head (n, block, comes, parts) short =
    let sized : length body ≡ min (size head) (length (drop n bytes)) = ap (length {A = ℕ}) parts ∙ length-take (size head) (drop n bytes) in
    let all : length body ≡ length (drop n bytes) = omega (arith, sized, short) in
    no_body n head (ap (λ (k : ℕ). Cut k (size head)) all) block comes (omega (arith, all, short))

-- the block ends in the piece
pub in-block : {H : Type 0} (comes_to : List ℕ → Result H HttpFault → Type 0) (size : H → ℕ) (front piece block : List ℕ) (m end : ℕ) (after : Progress H) → HasNoBlock front → 0 < end → end ≤ length (take m piece) → length front + end ≤ MAX_HEAD → ends_head (front ++ take end (take m piece)) ≡ true
    → ((n : ℕ) → 0 < n → n < end → ends_head (front ++ take n (take m piece)) ≡ false) → block ≡ front ++ take end piece → Begins comes_to size block (drop end piece) after → IsAt comes_to size (front ++ piece) after
in-block comes_to size front piece block m end after before some there small ends first same begins =
    let is = front-ends front piece m end before some there small ends first in
    let sized : length (take m piece) ≡ min m (length piece) = length-take m piece in
    let long : length block ≡ length front + end = ap (length {A = ℕ}) same ∙ length-append front (take end piece) ∙ omega (arith, length-take end piece, there, sized) in
    let parts : front ++ piece ≡ block ++ drop end piece = ap (λ (t : List ℕ). front ++ t) (sym (take-append-drop end piece)) ∙ sym (append_assoc front (take end piece) (drop end piece)) ∙ ap (λ (t : List ℕ). t ++ drop end piece) (sym same) in
    begun-at comes_to size (front ++ piece) block (drop end piece) after parts (subst (λ (n : ℕ). IsBlock (front ++ piece) n) (sym long) is) begins

pub body-cut : {H : Type 0} (comes_to : List ℕ → Result H HttpFault → Type 0) (size : H → ℕ) (bytes : List ℕ) (progress : Progress H) (head : H) (body got : List ℕ) (want : ℕ) → progress ≡ Body head body → got ≡ body → want ≡ size head → IsAt comes_to size bytes progress → length got < want
    → IsBroken comes_to size bytes (Cut (length got) want)
body-cut comes_to size bytes progress head body got want is same wanted at short =
    let stage = subst (λ p. IsAt comes_to size bytes p) is at in
    let cut = body-ended comes_to size bytes body head stage (omega (arith, short, ap (length {A = ℕ}) same, wanted)) in
    subst (λ (t : List ℕ). IsBroken comes_to size bytes (Cut (length t) want)) (sym same) (subst (λ (n : ℕ). IsBroken comes_to size bytes (Cut (length body) n)) (sym wanted) cut)

pub body-taken : {H : Type 0} (comes_to : List ℕ → Result H HttpFault → Type 0) (size : H → ℕ) (bytes piece : List ℕ) (head : H) (body after : List ℕ) → IsAt comes_to size bytes (Body head body) → (length body ≤ size head → after ≡ take (size head) (body ++ piece)) → IsAt comes_to size (bytes ++ piece) (Body head after)
body-taken comes_to size bytes piece head body after at taken =
    let sized : length body ≡ min (size head) (length (drop at.0 bytes)) = ap (length {A = ℕ}) at.3 ∙ length-take (size head) (drop at.0 bytes) in
    body-fed comes_to size bytes piece body after head at (taken (omega (arith, sized)))
