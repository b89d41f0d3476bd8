-- Marks put at their places one by one stand in the order of their marks.
use Rattle.std.proofs.Common.{◌≡◌, ℕ, ◌<◌, ◌≤◌, Bool, true, false, cond, nat_lt, subst, List, [], ◌∷◌, map, refl, sym, ap, ◌∙◌, inl, inr, arith}
use Rattle.std.specs.Prelude.{◌⊎◌, ◌≢◌, ◌==◌}
use Rattle.std.specs.BTreeMap.{insert_entry}
use Rattle.std.specs.declared.cmp.Ordering.{Ordering}
use Rattle.std.specs.declared.cmp.Ordering.TheVariants.{Less, Equal, Greater}
use Rattle.std.specs.List.{AllByRecursion}
use Rattle.std.specs.Ordering.{nat_cmp, match_ordering}
use Rattle.std.proofs.lemmas.Bool.{cases_lt}
use Rattle.std.proofs.lemmas.Bool.Decides.{nat_tests}
use Rattle.hy_record.specs.Stamp.{Timestamp}
use Rattle.hy_meta.proofs.Rising.{cases_bool}
use Rattle.hy_trace.specs.Order.{Mark, is_behind, insert_mark, sorted_marks}
use Rattle.hy_theorems.proofs.Ordering.{all-sorted, IsBehind, before-parts, behind-before}
use Rattle.hy_log.specs.declared.place.Place.{Place}
use Rattle.hy_log.specs.Orders.{place_cmp}
use Rattle.hy_log.proofs.Marking.{read_step, place_of_mark}

-- a mark's number at its place
abbrev pub entry_of_mark : Mark → Place × ℕ
entry_of_mark m = (place_of_mark m, m.op.number)

-- the marks at their places, the last one first put there
abbrev pub placed : List Mark → List (Place × ℕ)
placed [] = []
placed (m ∷ ms) = insert_entry place_cmp (placed ms) (place_of_mark m) m.op.number

-- the place of the first comes after that of the second where the mark does, and else before it
abbrev pub Stands : Mark → Mark → Type 0
Stands a b = place_cmp (place_of_mark a) (place_of_mark b) ≡ cond (is_behind a b) Greater Less

abbrev pub AreSpread : List Mark → Type 0
AreSpread [] = Unit {0}
AreSpread (m ∷ ms) = AllByRecursion (Stands m) ms × AreSpread ms

inserted : (m : Mark) (ms : List Mark) → AllByRecursion (Stands m) ms → insert_entry place_cmp (map entry_of_mark ms) (place_of_mark m) m.op.number ≡ map entry_of_mark (insert_mark is_behind m ms)
unfolding insert_mark
inserted m [] stands = refl
inserted m (x ∷ ms) stands =
    elim (cases_bool (is_behind m x)) [
      | inl behind ↦
          let cmp : place_cmp (place_of_mark m) (place_of_mark x) ≡ Greater = stands.0 ∙ ap (λ (b : Bool). cond b Greater Less) behind in
          ap (λ (o : Ordering). match_ordering o (entry_of_mark m ∷ map entry_of_mark (x ∷ ms)) ((place_of_mark x, m.op.number) ∷ map entry_of_mark ms) (entry_of_mark x ∷ insert_entry place_cmp (map entry_of_mark ms) (place_of_mark m) m.op.number)) cmp
          ∙ ap (λ (es : List (Place × ℕ)). entry_of_mark x ∷ es) (inserted m ms stands.1)
          ∙ rw behind refl
      | inr before ↦
          let cmp : place_cmp (place_of_mark m) (place_of_mark x) ≡ Less = stands.0 ∙ ap (λ (b : Bool). cond b Greater Less) before in
          ap (λ (o : Ordering). match_ordering o (entry_of_mark m ∷ map entry_of_mark (x ∷ ms)) ((place_of_mark x, m.op.number) ∷ map entry_of_mark ms) (entry_of_mark x ∷ insert_entry place_cmp (map entry_of_mark ms) (place_of_mark m) m.op.number)) cmp
          ∙ rw before refl
    ]

pub placed-sorted : (ms : List Mark) → AreSpread ms → placed ms ≡ map entry_of_mark (sorted_marks is_behind ms)
unfolding sorted_marks
placed-sorted [] spread = refl
placed-sorted (m ∷ ms) spread =
    ap (λ (es : List (Place × ℕ)). insert_entry place_cmp es (place_of_mark m) m.op.number) (placed-sorted ms spread.1)
    ∙ inserted m (sorted_marks is_behind ms) (all-sorted (Stands m) ms spread.0)

-- a write, or a read with its step
abbrev pub IsSort : Mark → Type 0
IsSort m = (m.reads ≡ 0) ⊎ ((m.reads ≡ 1) × (0 < m.point.step))

-- marks whose places differ
pub record AreApart (a b : Mark) : Type 0 where
  pub writes : a.reads ≡ 0 → b.reads ≡ 0 → a.stamp ≢ b.stamp
  pub reads : a.reads ≡ 1 → b.reads ≡ 1 → a.point.step ≢ b.point.step

swapped : (a b : Mark) → AreApart a b → AreApart b a
swapped a b apart = record {
  writes = λ first second same. apart.writes second first (sym same);
  reads = λ first second same. apart.reads second first (sym same);
}

cmp-less : (m n : ℕ) → m < n → nat_cmp m n ≡ Less
cmp-less m n less = let is : nat_lt m n ≡ true = grind (arith, nat_tests) in rw is refl

cmp-more : (m n : ℕ) → n < m → nat_cmp m n ≡ Greater
cmp-more m n more =
    let not_less : nat_lt m n ≡ false = grind (arith, nat_tests) in
    let not_same : (m == n) ≡ false = grind (arith, nat_tests) in
    rw (not_less, not_same) refl

cmp-same : (n : ℕ) → nat_cmp n n ≡ Equal
cmp-same n =
    let not_less : nat_lt n n ≡ false = grind (arith, nat_tests) in
    let same : (n == n) ≡ true = grind (arith, nat_tests) in
    rw (not_less, same) refl

-- the first place is before the second, in words of numbers
record IsAhead (a b : Place) : Type 0 where
  pub sn : a.stamp.sn ≤ b.stamp.sn
  pub cid : a.stamp.sn ≡ b.stamp.sn → a.stamp.cid ≤ b.stamp.cid
  pub made : a.stamp.sn ≡ b.stamp.sn → a.stamp.cid ≡ b.stamp.cid → a.made < b.made

ahead-less : (a b : Place) → IsAhead a b → place_cmp a b ≡ Less
ahead-less a b ahead = let le = ahead.sn in
    elim (cases_lt a.stamp.sn b.stamp.sn) [
      | inl less ↦ rw (cmp-less a.stamp.sn b.stamp.sn less) refl
      | inr not_less ↦
          let sn : a.stamp.sn ≡ b.stamp.sn = omega (arith, le, not_less) in
          let low = ahead.cid sn in
          let equal : nat_cmp a.stamp.sn b.stamp.sn ≡ Equal = subst (λ (n : ℕ). nat_cmp a.stamp.sn n ≡ Equal) sn (cmp-same a.stamp.sn) in
          elim (cases_lt a.stamp.cid b.stamp.cid) [
            | inl less ↦ rw (equal, cmp-less a.stamp.cid b.stamp.cid less) refl
            | inr same ↦
                let cid : a.stamp.cid ≡ b.stamp.cid = omega (arith, low, same) in
                let level : nat_cmp a.stamp.cid b.stamp.cid ≡ Equal = subst (λ (n : ℕ). nat_cmp a.stamp.cid n ≡ Equal) cid (cmp-same a.stamp.cid) in
                rw (equal, level, cmp-less a.made b.made (ahead.made sn cid)) refl
          ]
    ]

ahead-more : (a b : Place) → IsAhead b a → place_cmp a b ≡ Greater
ahead-more a b ahead = let le = ahead.sn in
    elim (cases_lt b.stamp.sn a.stamp.sn) [
      | inl more ↦ rw (cmp-more a.stamp.sn b.stamp.sn more) refl
      | inr not_more ↦
          let sn : b.stamp.sn ≡ a.stamp.sn = omega (arith, le, not_more) in
          let low = ahead.cid sn in
          let equal : nat_cmp a.stamp.sn b.stamp.sn ≡ Equal = subst (λ (n : ℕ). nat_cmp n b.stamp.sn ≡ Equal) sn (cmp-same b.stamp.sn) in
          elim (cases_lt b.stamp.cid a.stamp.cid) [
            | inl more ↦ rw (equal, cmp-more a.stamp.cid b.stamp.cid more) refl
            | inr same ↦
                let cid : b.stamp.cid ≡ a.stamp.cid = omega (arith, low, same) in
                let level : nat_cmp a.stamp.cid b.stamp.cid ≡ Equal = subst (λ (n : ℕ). nat_cmp n b.stamp.cid ≡ Equal) cid (cmp-same b.stamp.cid) in
                rw (equal, level, cmp-more a.made b.made (ahead.made sn cid)) refl
          ]
    ]

write-step : (m : Mark) → m.reads ≡ 0 → (place_of_mark m).made ≡ 0
write-step m write = ap (λ (n : ℕ). read_step n m.point.step) write

read-step : (m : Mark) → m.reads ≡ 1 → (place_of_mark m).made ≡ m.point.step
read-step m read = ap (λ (n : ℕ). read_step n m.point.step) read

stamp-same : (s r : Timestamp) → s.sn ≡ r.sn → s.cid ≡ r.cid → s ≡ r
stamp-same s r sn cid =
    let pair_ : (s.sn, s.cid) ≡ (r.sn, r.cid) = cc in
    let made : ℕ × ℕ → Timestamp = λ q. record { sn = q.0; cid = q.1 } in
    ap made pair_

-- of two marks apart, the one in front has the lesser place
in-front : (a b : Mark) → IsBehind b a → IsSort a → IsSort b → AreApart a b → IsAhead (place_of_mark a) (place_of_mark b)
in-front a b parts first second apart = record { sn = parts.sn; cid = parts.cid; made = λ sn cid. later sn cid first second }
  where
    later : a.stamp.sn ≡ b.stamp.sn → a.stamp.cid ≡ b.stamp.cid → IsSort a → IsSort b → (place_of_mark a).made < (place_of_mark b).made
    later sn cid (inl write) (inl other) = absurd (apart.writes write other (stamp-same a.stamp b.stamp sn cid))
    later sn cid (inl write) (inr read) =
        let none = write-step a write in let step = read-step b read.0 in let some = read.1 in omega (arith, none, step, some)
    later sn cid (inr read) (inl write) = let le = parts.reads sn cid in let one = read.0 in absurd (omega (arith, le, one, write))
    later sn cid (inr read) (inr other) =
        let one = read.0 in let too = other.0 in
        let le = parts.point sn cid (one ∙ sym too) in
        let here = read-step a one in let there = read-step b too in
        let differ = apart.reads one too in
        omega (arith, le, here, there, differ)

pub stands : (a b : Mark) → IsSort a → IsSort b → AreApart a b → Stands a b
stands a b first second apart =
    elim (cases_bool (is_behind a b)) [
      | inl behind ↦ rw behind (ahead-more (place_of_mark a) (place_of_mark b) (in-front b a (before-parts b a (behind-before a b behind)) second first (swapped a b apart)))
      | inr before ↦ rw before (ahead-less (place_of_mark a) (place_of_mark b) (in-front a b (before-parts a b before) first second apart))
    ]
