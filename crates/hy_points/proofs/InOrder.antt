-- Orders by timestamp: what stands in order respects real time, and each read finds the last write before it.
use Rattle.std.proofs.Common.{◌≡◌, ℕ, ◌<◌, ◌≤◌, Bool, true, false, List, [], ◌∷◌, refl, sym, subst, inl, inr, arith}
use Rattle.std.specs.Prelude.{◌⊎◌, if◌then◌else◌}
use Rattle.std.specs.List.{AllByRecursion}
use Rattle.std.proofs.lemmas.Bool.{both_ways}
use Rattle.hy_record.specs.Stamp.{Timestamp, stamp_lt}
use Rattle.hy_points.proofs.Heights.{Le, le-both}
use Rattle.hy_points.proofs.Sorting.{all-each}

-- operations of any kind: the timestamp that each wrote or found, whether it reads, and a number by which reads of one timestamp stand
module _ {A : Type 0} (stamp : A → Timestamp) (reads : A → Bool) (rank : A → ℕ) where
  -- a may stand in front of b: by timestamp, a write before the reads that found it, and these by their numbers
  pub record MayPrecede (a b : A) : Type 0 where
    pub stamps : Le (stamp a) (stamp b)
    pub kinds : stamp a ≡ stamp b → reads a ≡ true → reads b ≡ true
    pub ranks : stamp a ≡ stamp b → reads a ≡ true → reads b ≡ true → rank a ≤ rank b

  -- each may stand in front of all behind it
  abbrev pub AreByStamp : List A → Type 0
  AreByStamp [] = Unit {0}
  AreByStamp (x ∷ xs) = AllByRecursion (MayPrecede x) xs × AreByStamp xs

  -- a returned before b began: its timestamp is not greater, and smaller where b writes; where both read, its number is smaller
  pub record Follows (a b : A) : Type 0 where
    pub stamps : Le (stamp a) (stamp b)
    pub strict : reads b ≡ false → stamp_lt (stamp a) (stamp b) ≡ true
    pub ranks : reads a ≡ true → reads b ≡ true → rank a < rank b

  -- what may stand in front of another does not follow it
  pub not-followed : (a b : A) → MayPrecede a b → Follows b a → ⊥
  not-followed a b first follows = by_kind (reads a) refl
    where
      same : stamp a ≡ stamp b
      same = le-both (stamp a) (stamp b) first.stamps follows.stamps

      by_kind : (r : Bool) → reads a ≡ r → ⊥
      by_kind false is = both_ways (stamp_lt (stamp b) (stamp a)) (first.stamps) (follows.strict is)
      by_kind true is = (let r = first.kinds same is in let le = first.ranks same is r in let less = follows.ranks r is in omega (arith, le, less))

  module _ (came : A → A → Bool) where
    -- none stands behind one that began after it returned
    abbrev pub RespectsTime : List A → Type 0
    RespectsTime [] = Unit {0}
    RespectsTime (x ∷ xs) = AllByRecursion (λ y. came y x ≡ false) xs × RespectsTime xs

    -- what came before another is followed by it
    abbrev pub IsTimely : (A → Type 0) → Type 0
    IsTimely P = (a b : A) → P a → P b → came a b ≡ true → Follows a b

    pub by-stamp-in-time : (P : A → Type 0) (xs : List A) → IsTimely P → AllByRecursion P xs → AreByStamp xs → RespectsTime xs
    by-stamp-in-time P [] timely all ordered = tt
    by-stamp-in-time P (x ∷ xs) timely all ordered = (each xs all.1 ordered.0, by-stamp-in-time P xs timely all.1 ordered.1)
      where
        never : (y : A) → P y → MayPrecede x y → (b : Bool) → came y x ≡ b → b ≡ false
        never y p may false is = refl
        never y p may true is = absurd (not-followed x y may (timely y x p all.0 is))

        each : (ys : List A) → AllByRecursion P ys → AllByRecursion (MayPrecede x) ys → AllByRecursion (λ y. came y x ≡ false) ys
        each [] ps mays = tt
        each (y ∷ ys) ps mays = (never y ps.0 mays.0 (came y x) refl, each ys ps.1 mays.1)

  -- a write of this timestamp is in the list
  abbrev pub IsWrittenIn : List A → Timestamp → Type 0
  IsWrittenIn [] s = ⊥
  IsWrittenIn (x ∷ xs) s = ((reads x ≡ false) × (stamp x ≡ s)) ⊎ IsWrittenIn xs s

  -- a read found this timestamp, or that of a write in the list
  abbrev pub Finds : Timestamp → List A → A → Type 0
  Finds last xs x = reads x ≡ true → (stamp x ≡ last) ⊎ IsWrittenIn xs (stamp x)

  -- each read found the timestamp of the last write before it, of which this is the one before the first
  abbrev pub FindsLast : Timestamp → List A → Type 0
  FindsLast last [] = Unit {0}
  FindsLast last (x ∷ xs) = (reads x ≡ true → stamp x ≡ last) × FindsLast (if reads x then last else stamp x) xs

  none-behind : (x : A) (xs : List A) → reads x ≡ true → AllByRecursion (MayPrecede x) xs → IsWrittenIn xs (stamp x) → ⊥
  none-behind x [] is mays written = written
  none-behind x (y ∷ ys) is mays (inl this) = both_ways (reads y) this.0 (mays.0.kinds (sym this.1) is)
  none-behind x (y ∷ ys) is mays (inr later) = none-behind x ys is mays.1 later

  pub by-stamp-finds : (last : Timestamp) (xs : List A) → AreByStamp xs → AllByRecursion (λ x. Le last (stamp x)) xs → AllByRecursion (Finds last xs) xs → FindsLast last xs
  by-stamp-finds last [] ordered low finds = tt
  by-stamp-finds last (x ∷ xs) ordered low finds = by_kind (reads x) refl (λ l h g. by-stamp-finds l xs ordered.1 h g)
    where
      first : reads x ≡ true → (stamp x ≡ last) ⊎ IsWrittenIn (x ∷ xs) (stamp x) → stamp x ≡ last
      first is (inl same) = same
      first is (inr (inl this)) = absurd (both_ways (reads x) this.0 is)
      first is (inr (inr later)) = absurd (none-behind x xs is ordered.0 later)

      past-read : reads x ≡ true → (y : A) → Finds last (x ∷ xs) y → Finds last xs y
      past-read is y found read = elim (found read) [
        | inl same ↦ inl same
        | inr written ↦ elim written [ inl this ↦ absurd (both_ways (reads x) this.0 is) | inr later ↦ inr later ]
      ]

      past-write : reads x ≡ false → (y : A) → MayPrecede x y → Finds last (x ∷ xs) y → Finds (stamp x) xs y
      past-write is y may found read = elim (found read) [
        | inl same ↦ inl (le-both (stamp y) (stamp x) (subst (λ t. Le t (stamp x)) (sym same) low.0) may.stamps)
        | inr written ↦ elim written [ inl this ↦ inl (sym this.1) | inr later ↦ inr later ]
      ]

      both : (ys : List A) → ((y : A) → MayPrecede x y → Finds last (x ∷ xs) y → Finds (stamp x) xs y) → AllByRecursion (MayPrecede x) ys → AllByRecursion (Finds last (x ∷ xs)) ys → AllByRecursion (Finds (stamp x) xs) ys
      both [] each mays founds = tt
      both (y ∷ ys) each mays founds = (each y mays.0 founds.0, both ys each mays.1 founds.1)

      by_kind : (r : Bool) → reads x ≡ r → ((l : Timestamp) → AllByRecursion (λ y. Le l (stamp y)) xs → AllByRecursion (Finds l xs) xs → FindsLast l xs)
          → (reads x ≡ true → stamp x ≡ last) × FindsLast (if reads x then last else stamp x) xs
      by_kind true is rest = (λ read. first is (finds.0 read), rw is (rest last low.1 (all-each (Finds last (x ∷ xs)) (Finds last xs) xs (past-read is) finds.1)))
      by_kind false is rest = (
        λ read. absurd (both_ways (reads x) is read),
        rw is (rest (stamp x) (all-each (MayPrecede x) (λ y. Le (stamp x) (stamp y)) xs (λ y may. may.stamps) ordered.0) (both xs (past-write is) ordered.0 finds.1)),
      )
