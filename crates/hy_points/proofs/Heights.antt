-- The timestamp of a key's record along a log.
use Rattle.std.proofs.Common.{◌≡◌, ℕ, zero, suc, ◌+◌, ◌<◌, ◌≤◌, true, false, cond, List, [], ◌∷◌, take, Option, Some, None, refl, sym, ap, subst, ◌∙◌, inl, inr, arith}
use Rattle.std.specs.Prelude.{◌⊎◌}
use Rattle.std.specs.List.{filter_map, cons_option, slice_get}
use Rattle.std.proofs.lemmas.Bool.{cases_lt}
use Rattle.std.proofs.lemmas.Bool.Decides.{nat_tests}
use Rattle.std.proofs.lemmas.Option.{none-some, same_Some}
use Rattle.hy_record.specs.Stamp.{Timestamp, stamp_lt}
use Rattle.hy_record.proofs.Order.{stamp_lt-same, stamp_lt-other, stamp_lt-neither, stamp_eq-true, stamp_ge-trans}
use Rattle.hy_points.specs.declared.point.Point.{Point}
use Rattle.hy_points.specs.Atomic.{no_stamp, greatest_stamp}
use Rattle.hy_points.proofs.Sorting.{cases_bool}
use Rattle.hy_points.proofs.Places.{front-at, at-front}

-- the first is at most the second
abbrev pub Le : Timestamp → Timestamp → Type 0
Le a b = stamp_lt b a ≡ false

pub none-le : (a : Timestamp) → Le no_stamp a
unfolding stamp_lt
none-le a = grind (arith, nat_tests)

pub le-same : (a : Timestamp) → Le a a
le-same a = stamp_lt-same a

pub le-trans : (a b c : Timestamp) → Le a b → Le b c → Le a c
le-trans a b c first second = stamp_ge-trans c b a second first

pub le-both : (a b : Timestamp) → Le a b → Le b a → a ≡ b
le-both a b first second = stamp_eq-true a b (stamp_lt-neither a b second first)

-- a point at the place, of which this timestamp is picked
pub record IsApplied (pick : Point → Option Timestamp) (log : List Point) (place : ℕ) (stamp : Timestamp) : Type 0 where
  pub point : Point
  pub there : slice_get log place ≡ Some point
  pub picks : pick point ≡ Some stamp

-- the greatest timestamp that is picked of the list
abbrev pub height_of : (Point → Option Timestamp) → List Point → Timestamp
height_of pick log = greatest_stamp (filter_map pick log)

-- the greatest before the place
unfoldable pub height : (Point → Option Timestamp) → List Point → ℕ → Timestamp
height pick log n = height_of pick (take n log)

higher : (s g : Timestamp) → Le g (cond (stamp_lt g s) s g) × Le s (cond (stamp_lt g s) s g)
higher s g = elim (cases_bool (stamp_lt g s)) [
  | inl less ↦ rw less (stamp_lt-other g s less, le-same s)
  | inr upto ↦ rw upto (le-same g, upto)
]

chosen : (s g : Timestamp) → ((cond (stamp_lt g s) s g) ≡ s) ⊎ ((cond (stamp_lt g s) s g) ≡ g)
chosen s g = elim (cases_bool (stamp_lt g s)) [
  | inl less ↦ rw less (inl refl)
  | inr upto ↦ rw upto (inr refl)
]

module _ (pick : Point → Option Timestamp) where
  -- the rest is at most the whole
  rest-le : (point : Point) (log : List Point) → Le (height_of pick log) (height_of pick (point ∷ log))
  rest-le point log = by_stamp (pick point)
    where
      by_stamp : (o : Option Timestamp) → Le (height_of pick log) (greatest_stamp (cons_option o (filter_map pick log)))
      by_stamp None = le-same (height_of pick log)
      by_stamp (Some s) = (higher s (height_of pick log)).0

  -- each that is picked is at most the greatest
  pub above-all : (log : List Point) (place : ℕ) (stamp : Timestamp) → IsApplied pick log place stamp → Le stamp (height_of pick log)
  above-all [] place stamp applied = absurd (none-some applied.point applied.there)
  above-all (point ∷ log) zero stamp applied =
      let picked : pick point ≡ Some stamp = ap pick (same_Some point applied.point applied.there) ∙ applied.picks in
      rw picked (higher stamp (height_of pick log)).1
  above-all (point ∷ log) (suc place) stamp applied =
      le-trans stamp (height_of pick log) (height_of pick (point ∷ log)) (above-all log place stamp (record { point = applied.point; there = applied.there; picks = applied.picks })) (rest-le point log)

  -- the greatest is that of no record, or is picked
  pub from-one : (log : List Point) → (height_of pick log ≡ no_stamp) ⊎ ((place : ℕ) × IsApplied pick log place (height_of pick log))
  from-one [] = inl refl
  from-one (point ∷ log) = by_pick (pick point) refl (from-one log)
    where
      later : (g : Timestamp) → g ≡ height_of pick log → (height_of pick log ≡ no_stamp) ⊎ ((place : ℕ) × IsApplied pick log place (height_of pick log)) → (g ≡ no_stamp) ⊎ ((place : ℕ) × IsApplied pick (point ∷ log) place g)
      later g is (inl none) = inl (is ∙ none)
      later g is (inr one) = inr (suc one.0, record { point = one.1.point; there = one.1.there; picks = one.1.picks ∙ ap Some (sym is) })

      by_pick : (o : Option Timestamp) → pick point ≡ o → (height_of pick log ≡ no_stamp) ⊎ ((place : ℕ) × IsApplied pick log place (height_of pick log))
          → (greatest_stamp (cons_option o (filter_map pick log)) ≡ no_stamp) ⊎ ((place : ℕ) × IsApplied pick (point ∷ log) place (greatest_stamp (cons_option o (filter_map pick log))))
      by_pick None is rest = later (height_of pick log) refl rest
      by_pick (Some stamp) is rest = elim (chosen stamp (height_of pick log)) [
        | inl this ↦ inr (0, record { point = point; there = refl; picks = is ∙ ap Some (sym this) })
        | inr that ↦ later (cond (stamp_lt (height_of pick log) stamp) stamp (height_of pick log)) that rest
      ]

  -- ---- by places

  pub height-above : (log : List Point) (n place : ℕ) (stamp : Timestamp) → place < n → IsApplied pick log place stamp → Le stamp (height pick log n)
  unfolding height
  height-above log n place stamp less applied =
      above-all (take n log) place stamp (record { point = applied.point; there = at-front log n place applied.point less applied.there; picks = applied.picks })

  pub height-from : (log : List Point) (n : ℕ) → (height pick log n ≡ no_stamp) ⊎ ((place : ℕ) × (place < n) × IsApplied pick log place (height pick log n))
  unfolding height
  height-from log n = elim (from-one (take n log)) [
    | inl none ↦ inl none
    | inr one ↦ let f = front-at log n one.0 one.1.point one.1.there in inr (one.0, f.0, record { point = one.1.point; there = f.1; picks = one.1.picks })
  ]

  pub height-rises : (log : List Point) (n m : ℕ) → n ≤ m → Le (height pick log n) (height pick log m)
  height-rises log n m le = elim (height-from log n) [
    | inl none ↦ subst (λ t. Le t (height pick log m)) (sym none) (none-le (height pick log m))
    | inr one ↦ let less = one.1 in height-above log m one.0 (height pick log n) (omega (arith, less, le)) one.2
  ]

  -- an applied writing that is above all before
  pub height-raised : (log : List Point) (n : ℕ) (stamp : Timestamp) → IsApplied pick log n stamp → stamp_lt (height pick log n) stamp ≡ true → height pick log (n + 1) ≡ stamp
  height-raised log n stamp applied higher_ =
      le-both (height pick log (n + 1)) stamp upto (height-above log (n + 1) n stamp (omega arith) applied)
    where
      upto : Le (height pick log (n + 1)) stamp
      upto = elim (height-from log (n + 1)) [
        | inl none ↦ subst (λ t. Le t stamp) (sym none) (none-le stamp)
        | inr one ↦ elim (cases_lt one.0 n) [
          | inl less ↦ le-trans (height pick log (n + 1)) (height pick log n) stamp (height-above log n one.0 (height pick log (n + 1)) less one.2) (stamp_lt-other (height pick log n) stamp higher_)
          | inr past ↦
              let within = one.1 in
              let same : one.0 ≡ n = omega (arith, past, within) in
              let point_ : one.2.point ≡ applied.point = same_Some one.2.point applied.point (sym one.2.there ∙ ap (slice_get log) same ∙ applied.there) in
              let stamp_ : height pick log (n + 1) ≡ stamp = same_Some (height pick log (n + 1)) stamp (sym one.2.picks ∙ ap pick point_ ∙ applied.picks) in
              subst (λ t. Le t stamp) (sym stamp_) (le-same stamp)
        ]
      ]

  -- no writing is applied there
  pub height-stays : (log : List Point) (n : ℕ) → ((stamp : Timestamp) → IsApplied pick log n stamp → ⊥) → height pick log (n + 1) ≡ height pick log n
  height-stays log n none_ =
      le-both (height pick log (n + 1)) (height pick log n) upto (height-rises log n (n + 1) (omega arith))
    where
      upto : Le (height pick log (n + 1)) (height pick log n)
      upto = elim (height-from log (n + 1)) [
        | inl none ↦ subst (λ t. Le t (height pick log n)) (sym none) (none-le (height pick log n))
        | inr one ↦ elim (cases_lt one.0 n) [
          | inl less ↦ height-above log n one.0 (height pick log (n + 1)) less one.2
          | inr past ↦
              let within = one.1 in
              let same : one.0 ≡ n = omega (arith, past, within) in
              absurd (none_ (height pick log (n + 1)) (subst (λ k. IsApplied pick log k (height pick log (n + 1))) same one.2))
        ]
      ]

  pub stays-at : (log : List Point) (n : ℕ) (point : Point) → slice_get log n ≡ Some point → pick point ≡ None → height pick log (n + 1) ≡ height pick log n
  stays-at log n point there none =
      height-stays log n (λ stamp a. none-some stamp (sym none ∙ ap pick (same_Some point a.point (sym there ∙ a.there)) ∙ a.picks))

-- what picks the same of each element picks the same list
pub picks-alike : {A B : Type 0} (f g : A → Option B) (xs : List A) → ((place : ℕ) (x : A) → slice_get xs place ≡ Some x → f x ≡ g x) → filter_map f xs ≡ filter_map g xs
picks-alike f g [] same = refl
picks-alike f g (x ∷ xs) same =
    ap (λ o. cons_option o (filter_map f xs)) (same 0 x refl)
    ∙ ap (cons_option (g x)) (picks-alike f g xs (λ place y there. same (suc place) y there))
