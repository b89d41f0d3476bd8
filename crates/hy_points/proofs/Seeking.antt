-- Orders by timestamp: each operation that seeks a timestamp finds that of the last write before it.
use Rattle.std.proofs.Common.{◌≡◌, ℕ, Bool, true, false, List, [], ◌∷◌, Option, Some, refl, sym, subst, inl, inr}
use Rattle.std.specs.Prelude.{◌⊎◌, if◌then◌else◌}
use Rattle.std.specs.List.{AllByRecursion}
use Rattle.std.proofs.lemmas.Bool.{both_ways}
use Rattle.hy_record.specs.Stamp.{Timestamp, stamp_lt}
use Rattle.hy_record.proofs.Order.{stamp_lt-same}
use Rattle.hy_points.proofs.Heights.{Le, le-both}
use Rattle.hy_points.proofs.InOrder.{MayPrecede, AreByStamp, IsWrittenIn}
use Rattle.hy_points.proofs.Listing.{AllPairs}
use Rattle.hy_points.proofs.Sorting.{all-each}

below-itself : (s t : Timestamp) → stamp_lt s t ≡ true → t ≡ s → ⊥
below-itself s t less same = both_ways (stamp_lt s s) (stamp_lt-same s) (subst (λ x. stamp_lt s x ≡ true) same less)

-- operations of any kind: the timestamp that each wrote or found, whether it reads, a number, and the timestamp that it seeks, if any
module _ {A : Type 0} (stamp : A → Timestamp) (reads : A → Bool) (rank : A → ℕ) (sought : A → Option Timestamp) where
  -- what a in front of b means for what they seek: a write in front is not above it, and a write behind is
  pub record MaySeek (a b : A) : Type 0 where
    pub clear : (s : Timestamp) → reads a ≡ false → sought b ≡ Some s → Le (stamp a) s
    pub over : (s : Timestamp) → reads b ≡ false → sought a ≡ Some s → stamp_lt s (stamp b) ≡ true

  -- what writes is above what it seeks
  abbrev pub IsAbove : A → Type 0
  IsAbove a = (s : Timestamp) → reads a ≡ false → sought a ≡ Some s → stamp_lt s (stamp a) ≡ true

  -- it seeks this timestamp, or that of a write in the list
  abbrev pub Seeks : Timestamp → List A → A → Type 0
  Seeks last xs x = (s : Timestamp) → sought x ≡ Some s → (s ≡ last) ⊎ IsWrittenIn stamp reads rank xs s

  -- each seeks the timestamp of the last write before it, of which this is the one before the first
  abbrev pub SeeksLast : Timestamp → List A → Type 0
  SeeksLast last [] = Unit {0}
  SeeksLast last (x ∷ xs) = ((s : Timestamp) → sought x ≡ Some s → s ≡ last) × SeeksLast (if reads x then last else stamp x) xs

  none-behind : (x : A) (s : Timestamp) (xs : List A) → sought x ≡ Some s → AllByRecursion (MaySeek x) xs → IsWrittenIn stamp reads rank xs s → ⊥
  none-behind x s [] is mays written = written
  none-behind x s (y ∷ ys) is mays (inl this) = below-itself s (stamp y) (mays.0.over s this.0 is) this.1
  none-behind x s (y ∷ ys) is mays (inr later) = none-behind x s ys is mays.1 later

  pub by-stamp-seeks : (last : Timestamp) (xs : List A) → AreByStamp stamp reads rank xs → AllPairs MaySeek xs → AllByRecursion IsAbove xs → AllByRecursion (λ x. Le last (stamp x)) xs → AllByRecursion (Seeks last xs) xs → SeeksLast last xs
  by-stamp-seeks last [] ordered pairs above low seeks = tt
  by-stamp-seeks last (x ∷ xs) ordered pairs above low seeks = by_kind (reads x) refl (λ l h g. by-stamp-seeks l xs ordered.1 pairs.1 above.1 h g)
    where
      first : (s : Timestamp) → sought x ≡ Some s → (s ≡ last) ⊎ IsWrittenIn stamp reads rank (x ∷ xs) s → s ≡ last
      first s is (inl same) = same
      first s is (inr (inl this)) = absurd (below-itself s (stamp x) (above.0 s this.0 is) this.1)
      first s is (inr (inr later)) = absurd (none-behind x s xs is pairs.0 later)

      past-read : reads x ≡ true → (y : A) → Seeks last (x ∷ xs) y → Seeks last xs y
      past-read is y seek s wants = elim (seek s wants) [
        | inl same ↦ inl same
        | inr written ↦ elim written [ inl this ↦ absurd (both_ways (reads x) this.0 is) | inr later ↦ inr later ]
      ]

      past-write : reads x ≡ false → (y : A) → MaySeek x y → Seeks last (x ∷ xs) y → Seeks (stamp x) xs y
      past-write is y may seek s wants = elim (seek s wants) [
        | inl same ↦ inl (le-both s (stamp x) (subst (λ t. Le t (stamp x)) (sym same) low.0) (may.clear s is wants))
        | inr written ↦ elim written [ inl this ↦ inl (sym this.1) | inr later ↦ inr later ]
      ]

      both : (ys : List A) → ((y : A) → MaySeek x y → Seeks last (x ∷ xs) y → Seeks (stamp x) xs y) → AllByRecursion (MaySeek x) ys → AllByRecursion (Seeks last (x ∷ xs)) ys → AllByRecursion (Seeks (stamp x) xs) ys
      both [] each mays founds = tt
      both (y ∷ ys) each mays founds = (each y mays.0 founds.0, both ys each mays.1 founds.1)

      by_kind : (r : Bool) → reads x ≡ r → ((l : Timestamp) → AllByRecursion (λ y. Le l (stamp y)) xs → AllByRecursion (Seeks l xs) xs → SeeksLast l xs)
          → ((s : Timestamp) → sought x ≡ Some s → s ≡ last) × SeeksLast (if reads x then last else stamp x) xs
      by_kind true is rest = (λ s wants. first s wants (seeks.0 s wants), rw is (rest last low.1 (all-each (Seeks last (x ∷ xs)) (Seeks last xs) xs (past-read is) seeks.1)))
      by_kind false is rest = (
        λ s wants. first s wants (seeks.0 s wants),
        rw is (rest (stamp x) (all-each (MayPrecede stamp reads rank x) (λ y. Le (stamp x) (stamp y)) xs (λ y may. may.stamps) ordered.0) (both xs (past-write is) pairs.0 seeks.1)),
      )
