-- The order by moments is the order by timestamps, since an atomic log's marks stand alike in both.
use Rattle.std.proofs.Common.{◌≡◌, ℕ, ◌≤◌, Bool, true, false, cond, List, [], ◌∷◌, map, Option, refl, sym, ap, ◌∙◌, inl, inr, arith}
use Rattle.std.specs.Prelude.{◌⊎◌, nat_lt, ◌==◌}
use Rattle.std.specs.List.{AllByRecursion}
use Rattle.std.specs.Ordering.{is_lt, nat_cmp, bool_cmp, ordering_then, ordering_reverse}
use Rattle.std.specs.declared.cmp.Ordering.{Ordering}
use Rattle.std.specs.declared.cmp.Ordering.TheVariants.{Less, Equal, Greater}
use Rattle.std.proofs.lemmas.Bool.{both_ways}
use Rattle.std.proofs.lemmas.Bool.Decides.{nat_tests}
use Rattle.hy_record.specs.Stamp.{Timestamp, stamp_lt, stamp_cmp}
use Rattle.hy_points.specs.declared.mark.Mark.{Mark}
use Rattle.hy_points.specs.declared.point.Point.{Point}
use Rattle.hy_points.specs.Atomic.{IsAtomicLog, AsksOnce, applied_stamp}
use Rattle.hy_points.specs.Marks.{insert_by, sorted_by, moment_cmp, stamp_first_cmp, marks_of, op_of, linearization_of, order_by_stamp}
use Rattle.hy_points.proofs.Sorting.{cases_bool, all-each}
use Rattle.hy_points.proofs.Moments.{moment_total, stamp_first_total}
use Rattle.hy_points.proofs.Heights.{Le}
use Rattle.hy_points.proofs.InOrder.{MayPrecede}
use Rattle.hy_points.proofs.Placing.{IsMarkOf, IsPlaced, placed}
use Rattle.hy_points.proofs.ByMoment.{stamp_of, reads_of, place_of, then-lt, not-after, may-precede}
use Rattle.hy_points.proofs.Listing.{AllPairs, all-sort}
use Rattle.hy_points.proofs.LogLaw.{are-marks}

-- ---- sorting by orders that agree

module _ {A : Type 0} (first second : A → A → Ordering) where
  -- the one says of the two what the other says
  abbrev pub AreAlike : A → A → Type 0
  AreAlike x y = is_lt (first y x) ≡ is_lt (second y x)

  insert-alike : (x : A) (xs : List A) → AllByRecursion (AreAlike x) xs → insert_by first x xs ≡ insert_by second x xs
  insert-alike x [] alike = refl
  insert-alike x (y ∷ ys) alike =
      ap (λ b. cond b (y ∷ insert_by first x ys) (x ∷ y ∷ ys)) alike.0
      ∙ ap (λ others. cond (is_lt (second y x)) (y ∷ others) (x ∷ y ∷ ys)) (insert-alike x ys alike.1)

  pub sorts-alike : (xs : List A) → AllPairs AreAlike xs → sorted_by first xs ≡ sorted_by second xs
  sorts-alike [] alike = refl
  sorts-alike (x ∷ xs) alike =
      ap (insert_by first x) (sorts-alike xs alike.1)
      ∙ insert-alike x (sorted_by second xs) (all-sort second (AreAlike x) xs alike.0)

pub pairs-of-all : {A : Type 0} (P : A → Type 0) (R : A → A → Type 0) → ((x y : A) → P x → P y → R x y) → (xs : List A) → AllByRecursion P xs → AllPairs R xs
pairs-of-all P R each [] all = tt
pairs-of-all P R each (x ∷ xs) all = (all-each P (R x) xs (λ y is. each x y all.0 is) all.1, pairs-of-all P R each xs all.1)

-- ---- orders by parts

then-upto : (a b : Ordering) → is_lt a ≡ false → (a ≡ Equal → is_lt b ≡ false) → is_lt (ordering_then a b) ≡ false
then-upto Less b is later = cc
then-upto Equal b is later = later refl
then-upto Greater b is later = refl

then-equal : (a b : Ordering) → ordering_then a b ≡ Equal → (a ≡ Equal) × (b ≡ Equal)
then-equal Less b is = cc
then-equal Equal b is = (refl, is)
then-equal Greater b is = cc

both-equal : (a b : Ordering) → a ≡ Equal → b ≡ Equal → ordering_then a b ≡ Equal
both-equal a b first second = ap (λ o. ordering_then o b) first ∙ second

nat-equal : (m n : ℕ) → nat_cmp m n ≡ Equal → m ≡ n
nat-equal m n is = by_tests (nat_lt m n) (m == n) refl refl is
  where
    by_tests : (b c : Bool) → nat_lt m n ≡ b → (m == n) ≡ c → cond b Less (cond c Equal Greater) ≡ Equal → m ≡ n
    by_tests true c less same e = cc
    by_tests false false less same e = cc
    by_tests false true less same e = grind (arith, nat_tests)

nat-not-lt : (m n : ℕ) → n ≤ m → is_lt (nat_cmp m n) ≡ false
nat-not-lt m n upto = by_tests (nat_lt m n) (m == n) refl
  where
    by_tests : (b c : Bool) → nat_lt m n ≡ b → is_lt (cond b Less (cond c Equal Greater)) ≡ false
    by_tests true c less = grind (arith, nat_tests)
    by_tests false true less = refl
    by_tests false false less = refl

bool-not-lt : (a b : Bool) → (b ≡ true → a ≡ true) → is_lt (bool_cmp a b) ≡ false
bool-not-lt true true up = refl
bool-not-lt true false up = refl
bool-not-lt false false up = refl
bool-not-lt false true up = (let e : false ≡ true = up refl in cc)

stamp-not-lt : (a b : Timestamp) → Le b a → is_lt (stamp_cmp a b) ≡ false
unfolding stamp_lt
stamp-not-lt a b upto =
    then-upto (nat_cmp a.sn b.sn) (nat_cmp a.cid b.cid)
    (nat-not-lt a.sn b.sn (grind (arith, nat_tests)))
    (λ same. let e : a.sn ≡ b.sn = nat-equal a.sn b.sn same in nat-not-lt a.cid b.cid (grind (arith, nat_tests)))

stamp-equal : (a b : Timestamp) → stamp_cmp a b ≡ Equal → a ≡ b
stamp-equal a b is =
    let both = then-equal (nat_cmp a.sn b.sn) (nat_cmp a.cid b.cid) is in
    let sn : a.sn ≡ b.sn = nat-equal a.sn b.sn both.0 in
    let cid : a.cid ≡ b.cid = nat-equal a.cid b.cid both.1 in
    let pair_ : (a.sn, a.cid) ≡ (b.sn, b.cid) = cc in
    let made : ℕ × ℕ → Timestamp = λ q. record { sn = q.0; cid = q.1 } in
    ap made pair_

neither-lt : (a b : Ordering) → a ≡ ordering_reverse b → is_lt a ≡ false → is_lt b ≡ false → a ≡ Equal
neither-lt Less b turned first second = cc
neither-lt Equal b turned first second = refl
neither-lt Greater Less turned first second = cc
neither-lt Greater Equal turned first second = cc
neither-lt Greater Greater turned first second = cc

reversed-lt : (a b : Ordering) → a ≡ ordering_reverse b → is_lt a ≡ true → is_lt b ≡ false
reversed-lt Less Less turned is = cc
reversed-lt Less Equal turned is = refl
reversed-lt Less Greater turned is = refl
reversed-lt Equal b turned is = cc
reversed-lt Greater b turned is = cc

-- ---- marks

-- what ties by timestamp first ties by moment
ties-by-moment : (x y : Mark) → stamp_first_cmp x y ≡ Equal → moment_cmp x y ≡ Equal
ties-by-moment x y is =
    let a = then-equal (stamp_cmp x.stamp y.stamp) _ is in
    let b = then-equal (bool_cmp x.reads y.reads) _ a.1 in
    let c = then-equal (nat_cmp x.place y.place) _ b.1 in
    let d = then-equal (bool_cmp x.is_at y.is_at) _ c.1 in
    both-equal (nat_cmp x.place y.place) _ c.0
    (both-equal (bool_cmp x.is_at y.is_at) _ d.0
    (both-equal (stamp_cmp x.stamp y.stamp) _ a.0
    (both-equal (bool_cmp x.reads y.reads) _ b.0 d.1)))

module _ (pick : Point → Option Timestamp) (log : List Point) where
  -- what is not later by moment is not later by timestamp
  upto-by-stamp : (x y : Mark) → IsPlaced pick log x → IsPlaced pick log y → is_lt (moment_cmp y x) ≡ false → is_lt (stamp_first_cmp y x) ≡ false
  upto-by-stamp x y first second is =
      let may : MayPrecede stamp_of reads_of place_of x y = may-precede pick log x y first second (not-after x y is) in
      let places = then-lt (nat_cmp y.place x.place) _ is in
      then-upto (stamp_cmp y.stamp x.stamp) _ (stamp-not-lt y.stamp x.stamp may.stamps)
      (λ stamps. then-upto (bool_cmp y.reads x.reads) _ (bool-not-lt y.reads x.reads (λ read. may.kinds (sym (stamp-equal y.stamp x.stamp stamps)) read))
      (λ kinds. then-upto (nat_cmp y.place x.place) _ places.0
      (λ same. (
      let sides = then-lt (bool_cmp y.is_at x.is_at) _ (places.1 same) in
      then-upto (bool_cmp y.is_at x.is_at) _ sides.0
      (λ side. (
      let later = then-lt (stamp_cmp y.stamp x.stamp) _ (sides.1 side) in
      (then-lt (bool_cmp y.reads x.reads) _ (later.1 stamps)).1 kinds))))))

  alike : (x y : Mark) → IsPlaced pick log x → IsPlaced pick log y → AreAlike moment_cmp stamp_first_cmp x y
  alike x y first second = elim (cases_bool (is_lt (moment_cmp y x))) [
    | inr upto ↦ upto ∙ sym (upto-by-stamp x y first second upto)
    | inl less ↦ less ∙ sym (below less (cases_bool (is_lt (stamp_first_cmp y x))))
  ]
    where
      below : is_lt (moment_cmp y x) ≡ true → (is_lt (stamp_first_cmp y x) ≡ true) ⊎ (is_lt (stamp_first_cmp y x) ≡ false) → is_lt (stamp_first_cmp y x) ≡ true
      below less (inl is) = is
      below less (inr none) =
          (let other = upto-by-stamp y x second first (reversed-lt (moment_cmp y x) (moment_cmp x y) (moment_total.antisymm y x) less) in
          let tie = neither-lt (stamp_first_cmp y x) (stamp_first_cmp x y) (stamp_first_total.antisymm y x) none other in
          let same : moment_cmp y x ≡ Equal = ties-by-moment y x tie in
          absurd (both_ways (is_lt (moment_cmp y x)) (ap is_lt same) less))

-- the order by moments is the order by timestamps
pub moments-by-stamp : (log : List Point) → IsAtomicLog log → AsksOnce log → (key : List ℕ) → linearization_of log key ≡ order_by_stamp log key
unfolding linearization_of order_by_stamp
moments-by-stamp log atomic once key =
    let are-placed = all-each (IsMarkOf log key) (IsPlaced (applied_stamp log key) log) (marks_of log key) (placed log atomic once key) (are-marks log atomic once key) in
    ap (map op_of) (sorts-alike moment_cmp stamp_first_cmp (marks_of log key)
    (pairs-of-all (IsPlaced (applied_stamp log key) log) (AreAlike moment_cmp stamp_first_cmp) (alike (applied_stamp log key) log) (marks_of log key) are-placed))
