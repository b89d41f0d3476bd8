-- Where a block ends, and that it ends there whatever follows.
use Rattle.std.proofs.Common.{◌≡◌, ◌≢◌, ℕ, ◌+◌, ◌-◌, ◌<◌, ◌≤◌, min, Bool, true, false, List, [], ◌∷◌, ◌++◌, length, take, drop, refl, sym, ap, subst, ◌∙◌, append_assoc, arith, inl, inr, ◌&&◌}
use Rattle.std.specs.Prelude.{◌⊎◌, nat_eq}
use Rattle.std.specs.List.{ends_with}
use Rattle.std.proofs.Math.Seq.{take-append-add}
use Rattle.std.proofs.lemmas.Bool.{cases_lt, false≢true}
use Rattle.std.proofs.lemmas.Bool.Decides.{Decides-eqb}
use Rattle.std.proofs.lemmas.Slice.Eq.{ends_is}
use Rattle.std.proofs.lemmas.List.{append-nil, nil_from_length, take-take, take-append-drop, take-append-le, length-append, length-take, length-drop}
use Rattle.hy_record.proofs.Names.{split_end}
use Rattle.hy_cwire.specs.declared.block.TheConstants.{MAX_HEAD}
use Rattle.hy_cwire.specs.Block.{end_of_head, ends_head, IsBlock, HasNoBlock}

-- two tests that are true together are one
pub same_test : (a b : Bool) → (a ≡ true → b ≡ true) → (b ≡ true → a ≡ true) → a ≡ b
same_test true b to from = sym (to refl)
same_test false true to from = absurd (false≢true (from refl))
same_test false false to from = refl

-- what ends a suffix
pub suffix_parts : (bytes last : List ℕ) → ends_with nat_eq bytes last ≡ true → bytes ≡ take (length bytes - length last) bytes ++ last
suffix_parts bytes last is = (ends_is Decides-eqb bytes last (ends_with nat_eq bytes last) refl).0 is

pub suffix_there : (bytes front last : List ℕ) → bytes ≡ front ++ last → ends_with nat_eq bytes last ≡ true
suffix_there bytes front last parts = (ends_is Decides-eqb bytes last (ends_with nat_eq bytes last) refl).1 front parts

pub head_ends : (bytes : List ℕ) → ends_head bytes ≡ true → bytes ≡ take (length bytes - 4) bytes ++ end_of_head
unfolding ends_head
head_ends bytes is = suffix_parts bytes end_of_head is

pub ends-head : (bytes front : List ℕ) → bytes ≡ front ++ end_of_head → ends_head bytes ≡ true
unfolding ends_head
ends-head bytes front parts = suffix_there bytes front end_of_head parts

-- a block ends in a line feed
pub last_byte : (bytes : List ℕ) (byte : ℕ) → ends_head (bytes ++ byte ∷ []) ≡ true → byte ≡ 10
last_byte bytes byte is =
    let front = take (length (bytes ++ byte ∷ []) - 4) (bytes ++ byte ∷ []) in
    let parts : bytes ++ byte ∷ [] ≡ (front ++ 13 ∷ 10 ∷ 13 ∷ []) ++ 10 ∷ [] = head_ends (bytes ++ byte ∷ []) is ∙ sym (append_assoc front (13 ∷ 10 ∷ 13 ∷ []) (10 ∷ [])) in
    let same = (split_end bytes (byte ∷ []) (front ++ 13 ∷ 10 ∷ 13 ∷ []) (10 ∷ []) parts refl).1 in
    cc

pub no_end : (bytes : List ℕ) (byte : ℕ) → byte ≢ 10 → ends_head (bytes ++ byte ∷ []) ≡ false
no_end bytes byte other = at (ends_head (bytes ++ byte ∷ [])) refl
  where
    at : (b : Bool) → ends_head (bytes ++ byte ∷ []) ≡ b → ends_head (bytes ++ byte ∷ []) ≡ false
    at true is = absurd (other (last_byte bytes byte is))
    at false is = is

-- the end of a head may lie across two pieces
across : (before piece first last : List ℕ) → first ++ last ≡ end_of_head → (length piece ≤ length last) ⊎ (first ≡ []) → length last ≤ length piece → ends_with nat_eq before first ≡ true → ends_with nat_eq piece last ≡ true → ends_head (before ++ piece) ≡ true
across before piece first last whole (inl short) room one two =
    let a = suffix_parts before first one in
    let b = suffix_parts piece last two in
    let zero_left : length piece - length last ≡ 0 = omega arith in
    let none : take (length piece - length last) piece ≡ [] = ap (λ (n : ℕ). take n piece) zero_left in
    let is : piece ≡ last = b ∙ ap (λ (t : List ℕ). t ++ last) none in
    let front = take (length before - length first) before in
    ends-head (before ++ piece) front (ap (λ (t : List ℕ). t ++ piece) a ∙ ap (λ (t : List ℕ). (front ++ first) ++ t) is ∙ append_assoc front first last ∙ ap (λ (t : List ℕ). front ++ t) whole)
across before piece first last whole (inr none) room one two =
    let b = suffix_parts piece last two in
    let front = take (length piece - length last) piece in
    let all : last ≡ end_of_head = ap (λ (t : List ℕ). t ++ last) (sym none) ∙ whole in
    ends-head (before ++ piece) (before ++ front) (ap (λ (t : List ℕ). before ++ t) (b ∙ ap (λ (t : List ℕ). front ++ t) all) ∙ sym (append_assoc before front end_of_head))

back_across : (before piece first last : List ℕ) → first ++ last ≡ end_of_head → (length piece ≤ length last) ⊎ (first ≡ []) → length last ≤ length piece → ends_head (before ++ piece) ≡ true → (ends_with nat_eq before first && ends_with nat_eq piece last) ≡ true
back_across before piece first last whole (inl short) room is =
    let front = take (length (before ++ piece) - 4) (before ++ piece) in
    let parts : before ++ piece ≡ (front ++ first) ++ last = head_ends (before ++ piece) is ∙ ap (λ (t : List ℕ). front ++ t) (sym whole) ∙ sym (append_assoc front first last) in
    let s = split_end before piece (front ++ first) last parts (omega arith) in
    let one = suffix_there before front first s.0 in
    let two = suffix_there piece [] last s.1 in
    rw (one, two) refl
back_across before piece first last whole (inr none) room is =
    let front = take (length (before ++ piece) - 4) (before ++ piece) in
    let all : last ≡ end_of_head = ap (λ (t : List ℕ). t ++ last) (sym none) ∙ whole in
    let four : length last ≡ 4 = ap (length {A = ℕ}) all in
    let cut = length piece - length last in
    let pieces : before ++ piece ≡ (before ++ take cut piece) ++ drop cut piece = ap (λ (t : List ℕ). before ++ t) (sym (take-append-drop cut piece)) ∙ sym (append_assoc before (take cut piece) (drop cut piece)) in
    let sizes : length (drop cut piece) ≡ length end_of_head = simp length-drop (omega (arith, four)) in
    let s = split_end (before ++ take cut piece) (drop cut piece) front end_of_head (sym pieces ∙ head_ends (before ++ piece) is) sizes in
    let parts : piece ≡ take cut piece ++ last = sym (take-append-drop cut piece) ∙ ap (λ (t : List ℕ). take cut piece ++ t) (s.1 ∙ sym all) in
    let one = suffix_there before before first (sym (ap (λ (t : List ℕ). before ++ t) none ∙ append-nil before)) in
    let two = suffix_there piece (take cut piece) last parts in
    rw (one, two) refl

and_parts : (a b : Bool) → (a && b) ≡ true → (a ≡ true) × (b ≡ true)
and_parts true b is = (refl, is)
and_parts false b is = absurd (false≢true is)

pub ends-across : (before piece first last : List ℕ) → first ++ last ≡ end_of_head → (length piece ≤ length last) ⊎ (first ≡ []) → length last ≤ length piece → (ends_with nat_eq before first && ends_with nat_eq piece last) ≡ ends_head (before ++ piece)
ends-across before piece first last whole cases room =
    same_test (ends_with nat_eq before first && ends_with nat_eq piece last) (ends_head (before ++ piece))
    (λ both. let p = and_parts (ends_with nat_eq before first) (ends_with nat_eq piece last) both in across before piece first last whole cases room p.0 p.1)
    (back_across before piece first last whole cases room)

-- ---- blocks

-- a front of the bytes reaches into the piece
reach : (front piece : List ℕ) (n : ℕ) → take (length front + n) (front ++ piece) ≡ front ++ take n piece
reach front piece n = take-append-add front piece n

pub block-ends : (front piece : List ℕ) (end : ℕ) → HasNoBlock front → 0 < end → end ≤ length piece → length front + end ≤ MAX_HEAD → ends_head (front ++ take end piece) ≡ true
    → ((n : ℕ) → 0 < n → n < end → ends_head (front ++ take n piece) ≡ false) → IsBlock (front ++ piece) (length front + end)
block-ends front piece end before some there small ends first = record {
  within = omega (arith, there, length-append front piece);
  small = small;
  ends = rw reach ends;
  first = λ n less.
      elim (cases_lt (length front) n) [
        | inl past ↦ let is : length front + (n - length front) ≡ n = omega (arith, past) in subst (λ (m : ℕ). ends_head (take m (front ++ piece)) ≡ false) is (rw reach (first (n - length front) (omega (arith, past)) (omega (arith, past, less))))
        | inr inside ↦ rw (take-append-le n front piece inside) (before.none n inside (omega (arith, less, small, inside)))
      ];
}

-- no block ends in the piece
pub block-waits : (front piece : List ℕ) (near : List ℕ) (more : List ℕ) → piece ≡ near ++ more → HasNoBlock front → (more ≡ []) ⊎ (MAX_HEAD ≤ length front + length near)
    → ((n : ℕ) → 0 < n → n ≤ length near → ends_head (front ++ take n near) ≡ false) → HasNoBlock (front ++ piece)
block-waits front piece near more parts before far none = record {
  none = λ n within small.
      elim (cases_lt (length front) n) [
        | inl past ↦
            let m = n - length front in
            let is : length front + m ≡ n = omega (arith, past) in
            let inside : m ≤ length near = elim far [
              | inl empty ↦ omega (arith, within, past, length-append front piece, ap (length {A = ℕ}) parts, length-append near more, ap (length {A = ℕ}) empty)
              | inr full ↦ omega (arith, full, small, past)
            ] in
            let same : take m piece ≡ take m near = ap (take m) parts ∙ take-append-le m near more inside in
            subst (λ (k : ℕ). ends_head (take k (front ++ piece)) ≡ false) is (rw (reach front piece m, same) (none m (omega (arith, past)) inside))
        | inr inside ↦ rw (take-append-le n front piece inside) (before.none n inside small)
      ];
}

-- a block stays
pub block-append : (bytes more : List ℕ) (n : ℕ) → IsBlock bytes n → IsBlock (bytes ++ more) n
block-append bytes more n is = record {
  within = omega (arith, is.within, length-append bytes more);
  small = is.small;
  ends = rw (take-append-le n bytes more is.within) is.ends;
  first = λ m less. let inside : m ≤ length bytes = omega (arith, less, is.within) in rw (take-append-le m bytes more inside) (is.first m less);
}

pub no-block-append : (bytes more : List ℕ) → MAX_HEAD ≤ length bytes → HasNoBlock bytes → HasNoBlock (bytes ++ more)
no-block-append bytes more long none = record { none = λ n within small. let inside : n ≤ length bytes = omega (arith, small, long) in rw (take-append-le n bytes more inside) (none.none n inside small) }

-- there is one block at most
pub block-one : (bytes : List ℕ) (n m : ℕ) → IsBlock bytes n → IsBlock bytes m → n ≡ m
block-one bytes n m one other =
    elim (cases_lt n m) [
      | inl less ↦ absurd (false≢true (sym (other.first n less) ∙ one.ends))
      | inr more ↦ elim (cases_lt m n) [
        | inl less ↦ absurd (false≢true (sym (one.first m less) ∙ other.ends))
        | inr same ↦ omega (arith, more, same)
      ]
    ]

pub block-none : (bytes : List ℕ) (n : ℕ) → IsBlock bytes n → HasNoBlock bytes → ⊥
block-none bytes n is none = false≢true (sym (none.none n is.within is.small) ∙ is.ends)

-- no block ends in a front of the piece
pub front-waits : (front piece : List ℕ) (m : ℕ) → HasNoBlock front → (length piece ≤ m) ⊎ (MAX_HEAD ≤ length front + length (take m piece)) → ((n : ℕ) → 0 < n → n ≤ length (take m piece) → ends_head (front ++ take n (take m piece)) ≡ false) → HasNoBlock (front ++ piece)
front-waits front piece m before far none = block-waits front piece (take m piece) (drop m piece) (sym (take-append-drop m piece)) before (rest far) none
  where
    rest : (length piece ≤ m) ⊎ (MAX_HEAD ≤ length front + length (take m piece)) → (drop m piece ≡ []) ⊎ (MAX_HEAD ≤ length front + length (take m piece))
    rest (inl all) = inl (nil_from_length (drop m piece) (simp length-drop (omega (arith, all))))
    rest (inr full) = inr full

pub front-ends : (front piece : List ℕ) (m end : ℕ) → HasNoBlock front → 0 < end → end ≤ length (take m piece) → length front + end ≤ MAX_HEAD → ends_head (front ++ take end (take m piece)) ≡ true
    → ((n : ℕ) → 0 < n → n < end → ends_head (front ++ take n (take m piece)) ≡ false) → IsBlock (front ++ piece) (length front + end)
front-ends front piece m end before some there small ends first =
    let sized : length (take m piece) ≡ min m (length piece) = length-take m piece in
    let same : (n : ℕ) → n ≤ end → take n (take m piece) ≡ take n piece = λ n less. take-take n m piece (omega (arith, less, there, sized)) in
    block-ends front piece end before some (omega (arith, there, sized)) small (subst (λ (t : List ℕ). ends_head (front ++ t) ≡ true) (same end (omega arith)) ends)
    (λ n least less. subst (λ (t : List ℕ). ends_head (front ++ t) ≡ false) (same n (omega (arith, less))) (first n least less))

pub no_head_yet : ends_head [] ≡ false
unfolding ends_head
no_head_yet = refl

-- before the first byte
pub no-block-nil : HasNoBlock []
no-block-nil = record { none = λ n within small. let zero_bytes : n ≡ 0 = omega (arith, within) in rw zero_bytes no_head_yet }
