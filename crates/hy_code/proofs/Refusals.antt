-- Picks judged one after another.
use Rattle.std.proofs.Common.{◌≢◌, ◌||◌, None, zero, suc, not, ◌≡◌, ℕ, ◌+◌, ◌<◌, List, [], ◌∷◌, ◌++◌, length, get_or, take, drop, sym, ap, ◌∙◌, arith, true, false, cond, eqb, Option, Some, inl, inr}
use Rattle.std.proofs.lemmas.Bool.{cond-true, cond-false, cases_Bool, or_parts, eqb-true, eqb-false}
use Rattle.std.proofs.lemmas.List.Folds.{list_any-append}
use Rattle.std.proofs.lemmas.List.{take_more, drop_more}
use Rattle.std.specs.List.{list_any, position_from}
use Rattle.hy_code.specs.Refusal.{repeated_cloud}
use Rattle.hy_code.specs.Fragments.{clouds}
use Rattle.hy_code.specs.Polynomial.{Differs, AreDifferent}
use Rattle.hy_code.specs.declared.pick.Pick.{Pick}

module _ (picks : List Pick) (i : ℕ) (pick : Pick) (within : i < length picks) (here : pick ≡ get_or picks i pick) (so_far : repeated_cloud [] picks ≡ repeated_cloud (take i picks) (drop i picks)) where
  -- the judgement of the picks from this one on
  from_here : repeated_cloud [] picks ≡ cond (list_any (λ before. eqb before.cloud pick.cloud) (take i picks)) (Some pick.cloud) (repeated_cloud (take i picks ++ pick ∷ []) (drop (i + 1) picks))
  from_here =
      so_far ∙ ap (repeated_cloud (take i picks)) (drop_more picks i pick within ∙ ap (λ p. p ∷ drop (i + 1) picks) (sym here))

  pub repeated_here : list_any (λ before. eqb before.cloud pick.cloud) (take i picks) ≡ true → repeated_cloud [] picks ≡ Some pick.cloud
  repeated_here stands = from_here ∙ cond-true _ _ _ stands

  pub repeated_later : list_any (λ before. eqb before.cloud pick.cloud) (take i picks) ≡ false → repeated_cloud [] picks ≡ repeated_cloud (take (i + 1) picks) (drop (i + 1) picks)
  repeated_later new =
      from_here
      ∙ cond-false _ _ _ new
      ∙ ap (λ earlier. repeated_cloud earlier (drop (i + 1) picks))
      (ap (λ p. take i picks ++ p ∷ []) here ∙ sym (take_more picks i pick within))

-- ---- what stands where nothing is refused

-- each pick has this many bytes
abbrev pub AreSized : ℕ → List Pick → Type 0
AreSized size [] = Unit {0}
AreSized size (pick ∷ picks) = (length pick.bytes ≡ size) × AreSized size picks

pub AreSized-each : (size : ℕ) (picks : List Pick) → AreSized size picks → (k : ℕ) (d : Pick) → k < length picks → length (get_or picks k d).bytes ≡ size
AreSized-each size [] sized k d within = absurd (omega arith)
AreSized-each size (pick ∷ picks) sized zero d within = sized.0
AreSized-each size (pick ∷ picks) sized (suc k) d within = AreSized-each size picks sized.1 k d (omega arith)

pub AreSized-all : (size : ℕ) (picks : List Pick) → ((k : ℕ) (d : Pick) → k < length picks → length (get_or picks k d).bytes ≡ size) → AreSized size picks
AreSized-all size [] each = tt
AreSized-all size (pick ∷ picks) each =
    (each 0 pick (omega arith), AreSized-all size picks (λ k d within. each (suc k) d (omega arith)))

some_none : {A : Type 0} {x : A} {P : Type 0} → ◌≡◌ {A = Option A} (Some x) None → P
some_none e = cc

pub sized_from_none : (size i : ℕ) (picks : List Pick) → position_from (λ pick. not (eqb (length pick.bytes) size)) i picks ≡ None → AreSized size picks
sized_from_none size i [] none = tt
sized_from_none size i (pick ∷ picks) none =
    let first = not (eqb (length pick.bytes) size) in
    let rest = position_from (λ pick. not (eqb (length pick.bytes) size)) (i + 1) picks in
    elim (cases_Bool (eqb (length pick.bytes) size)) [
      | inl right ↦ (eqb-true (length pick.bytes) size right, sized_from_none size (i + 1) picks (sym (cond-false first (Some i) rest (ap not right)) ∙ none))
      | inr wrong ↦ some_none (sym (cond-true first (Some i) rest (ap not wrong)) ∙ none)
    ]

-- of the picks in front, one has the cloud c
record Stands (c : ℕ) (earlier : List Pick) : Type 0 where
  differs : (d : ℕ) → list_any (λ before. eqb before.cloud d) earlier ≡ false → d ≢ c

stands_before : (c : ℕ) (earlier : List Pick) (pick : Pick) → Stands c earlier → Stands c (earlier ++ pick ∷ [])
stands_before c earlier pick stands =
    record {
      differs = λ d none.
          stands.differs d (or_parts _ _ (sym (list_any-append (λ before. eqb before.cloud d) earlier (pick ∷ [])) ∙ none)).0;
    }

stands_last : (earlier : List Pick) (pick : Pick) → Stands pick.cloud (earlier ++ pick ∷ [])
stands_last earlier pick =
    record {
      differs = λ d none same.
          let parts = or_parts (list_any (λ before. eqb before.cloud d) earlier) (eqb pick.cloud d || false)
          (sym (list_any-append (λ before. eqb before.cloud d) earlier (pick ∷ [])) ∙ none) in
          eqb-false pick.cloud d (or_parts (eqb pick.cloud d) false parts.1).0 (sym same);
    }

not_repeated : (earlier : List Pick) (pick : Pick) (later : List Pick) → repeated_cloud earlier (pick ∷ later) ≡ None → (list_any (λ before. eqb before.cloud pick.cloud) earlier ≡ false) × (repeated_cloud (earlier ++ pick ∷ []) later ≡ None)
not_repeated earlier pick later none =
    let before = list_any (λ before. eqb before.cloud pick.cloud) earlier in
    let rest = repeated_cloud (earlier ++ pick ∷ []) later in
    elim (cases_Bool before) [
      | inl stands ↦ some_none (sym (cond-true before (Some pick.cloud) rest stands) ∙ none)
      | inr new ↦ (new, sym (cond-false before (Some pick.cloud) rest new) ∙ none)
    ]

differs_from_earlier : (c : ℕ) (earlier picks : List Pick) → Stands c earlier → repeated_cloud earlier picks ≡ None → Differs c (clouds picks)
differs_from_earlier c earlier [] stands none = tt
differs_from_earlier c earlier (pick ∷ picks) stands none =
    let parts = not_repeated earlier pick picks none in
    (stands.differs pick.cloud parts.0, differs_from_earlier c (earlier ++ pick ∷ []) picks (stands_before c earlier pick stands) parts.1)

pub different_from_none : (earlier picks : List Pick) → repeated_cloud earlier picks ≡ None → AreDifferent (clouds picks)
different_from_none earlier [] none = tt
different_from_none earlier (pick ∷ picks) none =
    let parts = not_repeated earlier pick picks none in
    (differs_from_earlier pick.cloud (earlier ++ pick ∷ []) picks (stands_last earlier pick) parts.1, different_from_none (earlier ++ pick ∷ []) picks parts.1)
