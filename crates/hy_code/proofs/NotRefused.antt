-- Fragments of a value from different clouds are not refused.
use Rattle.std.proofs.Common.{◌≡◌, ℕ, ◌+◌, ◌≤◌, ◌||◌, List, [], ◌∷◌, ◌++◌, length, take, map, not, Bool, false, eqb, ltb, Some, None, refl, ap, ◌∙◌, arith}
use Rattle.std.specs.List.{list_any, position_from}
use Rattle.std.specs.Option.{option_or, option_map}
use Rattle.std.proofs.lemmas.Bool.{cond-false, eq-eqb, ne_eqb, le-ltb}
use Rattle.std.proofs.lemmas.List.{length-take}
use Rattle.std.proofs.lemmas.List.Folds.{list_any-append}
use Rattle.hy_base.specs.Shape.{fragment_size}
use Rattle.hy_code.specs.Fragments.{AreFragments, clouds, fragment_of}
use Rattle.hy_code.specs.Polynomial.{Differs, AreDifferent}
use Rattle.hy_code.specs.Refusal.{refusal, repeated_cloud, wrong_length}
use Rattle.hy_code.specs.declared.fault.RebuildFault.TheVariants.{Few, Length, Twice}
use Rattle.hy_code.specs.declared.pick.Pick.{Pick}
use Rattle.hy_code.proofs.FragmentLaws.{length-fragment_of}
use Rattle.hy_code.proofs.Refusals.{AreSized}

-- ---- lengths

fragments-sized : (value : List ℕ) (k : ℕ) (picks : List Pick) → map (λ pick. pick.bytes) picks ≡ map (fragment_of value k) (clouds picks) → AreSized (fragment_size (length value) k) picks
fragments-sized value k [] e = tt
fragments-sized value k (pick ∷ picks) e =
    let first : pick.bytes ≡ fragment_of value k pick.cloud = cc in
    let rest : map (λ pick. pick.bytes) picks ≡ map (fragment_of value k) (clouds picks) = cc in
    (ap length first ∙ length-fragment_of value k pick.cloud, fragments-sized value k picks rest)

none_from_sized : (size i : ℕ) (picks : List Pick) → AreSized size picks → position_from (λ pick. not (eqb (length pick.bytes) size)) i picks ≡ None
none_from_sized size i [] sized = refl
none_from_sized size i (pick ∷ picks) sized =
    cond-false (not (eqb (length pick.bytes) size)) (Some i) (position_from (λ pick. not (eqb (length pick.bytes) size)) (i + 1) picks) (ap not (eq-eqb (length pick.bytes) size sized.0))
    ∙ none_from_sized size (i + 1) picks sized.1

-- ---- clouds

-- the cloud is that of none of the picks in front
abbrev stands_before : List Pick → ℕ → Bool
stands_before earlier cloud = list_any (λ before. eqb before.cloud cloud) earlier

-- no pick has the cloud of one in front of them all
abbrev AreNew : List Pick → List Pick → Type 0
AreNew earlier [] = Unit {0}
AreNew earlier (pick ∷ picks) = (stands_before earlier pick.cloud ≡ false) × AreNew earlier picks

none-new : (picks : List Pick) → AreNew [] picks
none-new [] = tt
none-new (pick ∷ picks) = (refl, none-new picks)

neither : (a b : Bool) → a ≡ false → b ≡ false → (a || (b || false)) ≡ false
neither a b p q = rw (p, q) refl

one_more-new : (earlier : List Pick) (last : Pick) (picks : List Pick) → AreNew earlier picks → Differs last.cloud (clouds picks) → AreNew (earlier ++ last ∷ []) picks
one_more-new earlier last [] new differs = tt
one_more-new earlier last (pick ∷ picks) new differs = (
  list_any-append (λ before. eqb before.cloud pick.cloud) earlier (last ∷ [])
      ∙ neither (stands_before earlier pick.cloud) (eqb last.cloud pick.cloud) new.0 (ne_eqb last.cloud pick.cloud (λ same. differs.0 (let back : pick.cloud ≡ last.cloud = cc in back))),
  one_more-new earlier last picks new.1 differs.1,
)

none_from_different : (earlier picks : List Pick) → AreNew earlier picks → AreDifferent (clouds picks) → repeated_cloud earlier picks ≡ None
none_from_different earlier [] new different = refl
none_from_different earlier (pick ∷ picks) new different =
    cond-false (stands_before earlier pick.cloud) (Some pick.cloud) (repeated_cloud (earlier ++ pick ∷ []) picks) new.0
    ∙ none_from_different (earlier ++ pick ∷ []) picks (one_more-new earlier pick picks new.1 different.0) different.1

-- ---- both

enough : (k : ℕ) (picks : List Pick) → length (take k picks) ≡ k → k ≤ length picks
enough k picks count = omega (arith, length-take k picks)

pub not_refused : (value : List ℕ) (k : ℕ) (picks : List Pick) → AreFragments value k (take k picks) → refusal (length value) k picks ≡ None
not_refused value k picks fragments =
    let size = fragment_size (length value) k in
    let used = take k picks in
    let right : wrong_length size used ≡ None = none_from_sized size 0 used (fragments-sized value k used fragments.fragments) in
    let once : repeated_cloud [] used ≡ None = none_from_different [] used (none-new used) fragments.different in
    cond-false (ltb (length picks) k) (Some (Few (length picks))) (option_or (option_map Length (wrong_length size used)) (option_map Twice (repeated_cloud [] used)))
    (le-ltb (length picks) k (enough k picks fragments.count))
    ∙ rw (right, once) refl
