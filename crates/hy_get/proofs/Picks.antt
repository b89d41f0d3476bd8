-- The fragments that clouds gave, in order of the clouds.
use Rattle.std.proofs.Common.{◌≡◌, ◌≢◌, ℕ, zero, suc, ◌+◌, ◌≤◌, ◌<◌, true, false, List, [], ◌∷◌, length, Option, Some, None, refl, sym, ap, ◌∙◌, inl, inr, arith}
use Rattle.std.specs.Prelude.{◌==◌, nat_lt, insert, is_some}
use Rattle.std.specs.Option.{option_map}
use Rattle.std.specs.List.{range_with_len, filter_map, cons_option, list_any, prefix_len}
use Rattle.std.proofs.Math.Numerals.{one-add}
use Rattle.std.proofs.lemmas.Bool.{eqb-true, eqb-false, lt-ltb, false≢true, cases_lt}
use Rattle.std.proofs.lemmas.Bool.Decides.{nat_tests}
use Rattle.std.proofs.lemmas.List.Sums.{prefix_len-le-length}
use Rattle.hy_meta.proofs.Rising.{cases_bool}
use Rattle.hy_code.specs.declared.pick.Pick.{Pick}

-- the fragments that these clouds gave, by what each gave
abbrev pub picks_by : (ℕ → Option (List ℕ)) → ℕ → ℕ → List Pick
picks_by g a n = filter_map (λ cloud. option_map (λ bytes. record { cloud = cloud; bytes = bytes }) (g cloud)) (range_with_len a n)

abbrev pub pick_by : (ℕ → Option (List ℕ)) → ℕ → Option Pick
pick_by g cloud = option_map (λ bytes. record { cloud = cloud; bytes = bytes }) (g cloud)

pub picks-agree : (g h : ℕ → Option (List ℕ)) (a n : ℕ) → ((i : ℕ) → a ≤ i → g i ≡ h i) → picks_by g a n ≡ picks_by h a n
picks-agree g h a zero agree = refl
picks-agree g h a (suc n) agree =
    let rest = picks-agree g h (a + 1) n (λ i l. agree i (omega (arith, l))) in
    let here : g a ≡ h a = agree a (omega arith) in
    ap (λ (o : Option (List ℕ)). cons_option (option_map (λ bytes. record { cloud = a; bytes = bytes }) o) (picks_by g (a + 1) n)) here ∙ ap (λ (xs : List Pick). cons_option (pick_by h a) xs) rest

pub picks-none : (g : ℕ → Option (List ℕ)) (a n : ℕ) → ((i : ℕ) → g i ≡ None) → picks_by g a n ≡ []
picks-none g a zero none = refl
picks-none g a (suc n) none = rw (none a) (picks-none g (a + 1) n none)

-- no fragment from this place on is of an earlier cloud
place-zero : (g : ℕ → Option (List ℕ)) (c a n : ℕ) → c ≤ a → prefix_len (λ pick. nat_lt pick.cloud c) (picks_by g a n) ≡ 0
place-zero g c a zero l = refl
place-zero g c a (suc n) l = by_pick (g a) (place-zero g c (a + 1) n (omega (arith, l)))
  where
    above : nat_lt a c ≡ false
    above = grind (arith, nat_tests, l)

    by_pick : (o : Option (List ℕ)) → prefix_len (λ pick. nat_lt pick.cloud c) (picks_by g (a + 1) n) ≡ 0
        → prefix_len (λ pick. nat_lt pick.cloud c) (cons_option (option_map (λ bytes. record { cloud = a; bytes = bytes }) o) (picks_by g (a + 1) n)) ≡ 0
    by_pick None rest = rest
    by_pick (Some bytes) rest = rw above refl

-- one more cloud gave a fragment
pub picks-insert : (g h : ℕ → Option (List ℕ)) (c : ℕ) (bytes : List ℕ) (a n : ℕ) → ((i : ℕ) → i ≢ c → h i ≡ g i) → g c ≡ None → h c ≡ Some bytes → a ≤ c → c < a + n
    → picks_by h a n ≡ insert (picks_by g a n) (prefix_len (λ pick. nat_lt pick.cloud c) (picks_by g a n)) (record { cloud = c; bytes = bytes })
picks-insert g h c bytes a zero others before now from below = absurd (omega (arith, from, below))
picks-insert g h c bytes a (suc n) others before now from below =
    elim (cases_lt a c) [
      | inl later ↦ by_pick (g a) (others a (omega (arith, later))) (picks-insert g h c bytes (a + 1) n others before now (omega (arith, later)) (omega (arith, below))) (lt-ltb a c later)
      | inr here ↦
          let same : c ≡ a = omega (arith, here, from) in
          let p : Pick = record { cloud = c; bytes = bytes } in
          let after : picks_by h (a + 1) n ≡ picks_by g (a + 1) n = picks-agree h g (a + 1) n (λ i l. others i (omega (arith, l, same))) in
          let front : prefix_len (λ pick. nat_lt pick.cloud c) (picks_by g (a + 1) n) ≡ 0 = place-zero g c (a + 1) n (omega (arith, same)) in
          let left : picks_by h a (suc n) ≡ p ∷ picks_by g (a + 1) n =
          ap (λ (o : Option (List ℕ)). cons_option (option_map (λ bs. record { cloud = a; bytes = bs }) o) (picks_by h (a + 1) n)) (ap h (sym same) ∙ now)
          ∙ ap (λ (i : ℕ). record { cloud = i; bytes = bytes } ∷ picks_by h (a + 1) n) (sym same) ∙ ap (λ (xs : List Pick). p ∷ xs) after in
          let right : picks_by g a (suc n) ≡ picks_by g (a + 1) n = ap (λ (o : Option (List ℕ)). cons_option (option_map (λ bs. record { cloud = a; bytes = bs }) o) (picks_by g (a + 1) n)) (ap g (sym same) ∙ before) in
          left ∙ sym (ap (λ (xs : List Pick). insert xs (prefix_len (λ pick. nat_lt pick.cloud c) xs) p) right ∙ ap (λ (m : ℕ). insert (picks_by g (a + 1) n) m p) front)
    ]
  where
    p : Pick
    p = record { cloud = c; bytes = bytes }

    by_pick : (o : Option (List ℕ)) → h a ≡ o
        → picks_by h (a + 1) n ≡ insert (picks_by g (a + 1) n) (prefix_len (λ pick. nat_lt pick.cloud c) (picks_by g (a + 1) n)) (record { cloud = c; bytes = bytes })
        → nat_lt a c ≡ true
        → cons_option (pick_by h a) (picks_by h (a + 1) n)
        ≡ insert (cons_option (option_map (λ bs. record { cloud = a; bytes = bs }) o) (picks_by g (a + 1) n)) (prefix_len (λ pick. nat_lt pick.cloud c) (cons_option (option_map (λ bs. record { cloud = a; bytes = bs }) o) (picks_by g (a + 1) n))) (record { cloud = c; bytes = bytes })
    by_pick None is rest low = rw is rest
    by_pick (Some bs) is rest low = rw (is, low, one-add) (ap (λ (xs : List Pick). record { cloud = a; bytes = bs } ∷ xs) rest)

-- a fragment of the cloud is there exactly where the cloud gave one
pub picks-have : (g : ℕ → Option (List ℕ)) (c a n : ℕ) → list_any (λ pick. pick.cloud == c) (picks_by g a n) ≡ true → is_some (g c) ≡ true
picks-have g c a zero any = absurd (false≢true any)
picks-have g c a (suc n) any = by_pick (λ rest. picks-have g c (a + 1) n rest) (g a) refl any
  where
    by_pick : (list_any (λ pick. pick.cloud == c) (picks_by g (a + 1) n) ≡ true → is_some (g c) ≡ true) → (o : Option (List ℕ)) → g a ≡ o → list_any (λ pick. pick.cloud == c) (cons_option (option_map (λ bs. record { cloud = a; bytes = bs }) o) (picks_by g (a + 1) n)) ≡ true → is_some (g c) ≡ true
    by_pick later None is rest = later rest
    by_pick later (Some bs) is rest =
        elim (cases_bool (a == c)) [
          | inl same ↦ ap (λ (i : ℕ). is_some (g i)) (sym (eqb-true a c same)) ∙ ap is_some is
          | inr other ↦ later (rw other at rest)
        ]

pub picks-lack : (g : ℕ → Option (List ℕ)) (c a n : ℕ) → a ≤ c → c < a + n → list_any (λ pick. pick.cloud == c) (picks_by g a n) ≡ false → g c ≡ None
picks-lack g c a zero from below none = absurd (omega (arith, from, below))
picks-lack g c a (suc n) from below none = by_pick (λ l rest. picks-lack g c (a + 1) n (omega (arith, l)) (omega (arith, below)) rest) (g a) refl none
  where
    by_pick : (a < c → list_any (λ pick. pick.cloud == c) (picks_by g (a + 1) n) ≡ false → g c ≡ None) → (o : Option (List ℕ)) → g a ≡ o → list_any (λ pick. pick.cloud == c) (cons_option (option_map (λ bs. record { cloud = a; bytes = bs }) o) (picks_by g (a + 1) n)) ≡ false → g c ≡ None
    by_pick next None is rest =
        elim (cases_lt a c) [
          | inl later ↦ next later rest
          | inr here ↦ ap g (let same : c ≡ a = omega (arith, here, from) in same) ∙ is
        ]
    by_pick next (Some bs) is rest =
        elim (cases_bool (a == c)) [
          | inl same ↦ absurd (let t : true ≡ false = rw same at rest in false≢true (sym t))
          | inr other ↦ let later : a ≢ c = eqb-false a c other in next (omega (arith, later, from)) (rw other at rest)
        ]

pub place_inside : (picks : List Pick) (c : ℕ) → prefix_len (λ pick. nat_lt pick.cloud c) picks ≤ length picks
place_inside picks c = prefix_len-le-length (λ pick. nat_lt pick.cloud c) picks
