-- What stands at the places of a log.
use Rattle.std.proofs.Common.{◌≡◌, ℕ, zero, suc, ◌+◌, ◌<◌, ◌≤◌, Bool, true, false, cond, List, [], ◌∷◌, ◌++◌, length, take, Option, Some, None, refl, sym, ap, subst, ◌∙◌, inl, inr, arith}
use Rattle.std.specs.Prelude.{◌==◌, ◌⊎◌}
use Rattle.std.specs.List.{slice_get}
use Rattle.std.specs.Option.{option_or}
use Rattle.std.proofs.lemmas.Bool.{eqb-true}
use Rattle.std.proofs.lemmas.List.{append_assoc, append-nil}
use Rattle.std.proofs.lemmas.Option.{none-some, same_Some}
use Rattle.hy_points.specs.declared.point.Point.{Point}
use Rattle.hy_points.specs.declared.point.Point.TheVariants.{Begin, Ask, Set, Try, End}
use Rattle.hy_points.specs.declared.telling.Asking.{Asking}
use Rattle.hy_points.specs.declared.telling.Setting.{Setting}
use Rattle.hy_points.specs.declared.telling.Trying.{Trying}
use Rattle.hy_points.specs.Lookups.{Beginning, first_from, last_from, beginning_at, asking_at, setting_at, trying_at, ending_at, beginning, asking, last_asking, setting, trying, ending}
use Rattle.hy_points.specs.Atomic.{Continues, AsksAnew}
use Rattle.hy_points.proofs.Tellings.{first-more, last-more, or-none}

-- a point of a log, which tells this
pub record Tells {A : Type 0} (pick : ℕ → Point → Option A) (start : ℕ) (log : List Point) (value : A) : Type 0 where
  pub place : ℕ
  pub point : Point
  pub there : slice_get log place ≡ Some point
  pub tells : pick (start + place) point ≡ Some value

or-cases : {A : Type 0} (a b : Option A) (v : A) → option_or a b ≡ Some v → (a ≡ Some v) ⊎ ((a ≡ None) × (b ≡ Some v))
or-cases None b v is = inr (refl, is)
or-cases (Some x) b v is = inl is

module _ {A : Type 0} (pick : ℕ → Point → Option A) where
  -- what the first tells stands somewhere, and nothing tells before
  pub first-at : (start : ℕ) (log : List Point) (value : A) → first_from pick start log ≡ Some value → (t : Tells pick start log value) × (first_from pick start (take t.place log) ≡ None)
  first-at start [] value is = absurd (none-some value is)
  first-at start (point ∷ later) value is =
      elim (or-cases (pick start point) (first_from pick (start + 1) later) value is) [
        | inl here ↦ (record { place = 0; point = point; there = refl; tells = ap (λ n. pick n point) (let e : start + 0 ≡ start = omega arith in e) ∙ here }, refl)
        | inr behind ↦
            let t = first-at (start + 1) later value behind.1 in (
              record { place = suc t.0.place; point = t.0.point; there = t.0.there; tells = ap (λ n. pick n t.0.point) (let e : start + suc t.0.place ≡ start + 1 + t.0.place = omega arith in e) ∙ t.0.tells },
              ap (λ o. option_or o (first_from pick (start + 1) (take t.0.place later))) behind.0 ∙ t.1,
            )
      ]

  -- where something tells, the first that does stands there or before
  pub first-upto : (start : ℕ) (log : List Point) (place : ℕ) (point : Point) (value : A) → slice_get log place ≡ Some point → pick (start + place) point ≡ Some value
      → (first : A) × (first_from pick start log ≡ Some first) × ((t : Tells pick start log first) × (t.place ≤ place))
  first-upto start [] place point value there tells = absurd (none-some point there)
  first-upto start (first ∷ later) zero point value there tells =
      let same : pick start first ≡ Some value = ap (pick start) (same_Some first point there) ∙ ap (λ n. pick n point) (let e : start ≡ start + 0 = omega arith in e) ∙ tells in (
        value,
        ap (λ o. option_or o (first_from pick (start + 1) later)) same,
        (record { place = 0; point = first; there = refl; tells = ap (λ n. pick n first) (let e : start + 0 ≡ start = omega arith in e) ∙ same }, omega arith),
      )
  first-upto start (first ∷ later) (suc place) point value there tells =
      by_first (pick start first) refl (first-upto (start + 1) later place point value there (ap (λ n. pick n point) (let e : start + 1 + place ≡ start + suc place = omega arith in e) ∙ tells))
    where
      by_first : (o : Option A) → pick start first ≡ o → (v : A) × (first_from pick (start + 1) later ≡ Some v) × ((t : Tells pick (start + 1) later v) × (t.place ≤ place))
          → (v : A) × (first_from pick start (first ∷ later) ≡ Some v) × ((t : Tells pick start (first ∷ later) v) × (t.place ≤ suc place))
      by_first (Some v) is rest = (
        v,
        ap (λ o. option_or o (first_from pick (start + 1) later)) is,
        (record { place = 0; point = first; there = refl; tells = ap (λ n. pick n first) (let e : start + 0 ≡ start = omega arith in e) ∙ is }, omega arith),
      )
      by_first None is rest = (
        rest.0,
        ap (λ o. option_or o (first_from pick (start + 1) later)) is ∙ rest.1,
        (
          record { place = suc rest.2.0.place; point = rest.2.0.point; there = rest.2.0.there; tells = ap (λ n. pick n rest.2.0.point) (let e : start + suc rest.2.0.place ≡ start + 1 + rest.2.0.place = omega arith in e) ∙ rest.2.0.tells },
          let le = rest.2.1 in omega (arith, le),
        ),
      )

  -- what the first of a front tells, the first of all tells
  pub first-stays : (start : ℕ) (log : List Point) (place : ℕ) (value : A) → first_from pick start (take place log) ≡ Some value → first_from pick start log ≡ Some value
  first-stays start log zero value is = absurd (none-some value is)
  first-stays start [] (suc place) value is = is
  first-stays start (point ∷ later) (suc place) value is = by_first (pick start point) is (first-stays (start + 1) later place value)
    where
      by_first : (o : Option A) → option_or o (first_from pick (start + 1) (take place later)) ≡ Some value → (first_from pick (start + 1) (take place later) ≡ Some value → first_from pick (start + 1) later ≡ Some value) → option_or o (first_from pick (start + 1) later) ≡ Some value
      by_first (Some v) e rest = e
      by_first None e rest = rest e

-- what stands in a front of a log
pub front-at : {A : Type 0} (log : List A) (n place : ℕ) (point : A) → slice_get (take n log) place ≡ Some point → (place < n) × (slice_get log place ≡ Some point)
front-at log zero place point is = absurd (none-some point is)
front-at [] (suc n) place point is = absurd (none-some point is)
front-at (first ∷ later) (suc n) zero point is = (omega arith, is)
front-at (first ∷ later) (suc n) (suc place) point is = (let rest = front-at later n place point is in (let less = rest.0 in omega (arith, less), rest.1))

pub at-front : {A : Type 0} (log : List A) (n place : ℕ) (point : A) → place < n → slice_get log place ≡ Some point → slice_get (take n log) place ≡ Some point
at-front [] n place point less is = absurd (none-some point is)
at-front (first ∷ later) zero place point less is = absurd (omega (arith, less))
at-front (first ∷ later) (suc n) zero point less is = is
at-front (first ∷ later) (suc n) (suc place) point less is = at-front later n place point (omega (arith, less)) is

-- each point of a log fits those before it
pub fits-at : (F : List Point → Point → Type 0) (before log : List Point) (place : ℕ) (point : Point) → Continues F before log → slice_get log place ≡ Some point → F (before ++ take place log) point
fits-at F before [] place point fits there = absurd (none-some point there)
fits-at F before (first ∷ later) zero point fits there = subst (λ p. F (before ++ []) p) (same_Some first point there) (subst (λ b. F b first) (sym (append-nil before)) fits.0)
fits-at F before (first ∷ later) (suc place) point fits there =
    subst (λ b. F b point) (append_assoc before (first ∷ []) (take place later)) (fits-at F (before ++ first ∷ []) later place point fits.1 there)

-- ---- what points tell

pub begins : (op n : ℕ) (point : Point) (b : Beginning) → beginning_at op n point ≡ Some b → (point ≡ Begin op b.client b.key b.act) × (b.place ≡ n)
begins op n (Begin o client key act) b is = by_test (o == op) refl is
  where
    by_test : (x : Bool) → (o == op) ≡ x → cond x (Some (record { place = n; client = client; key = key; act = act })) None ≡ Some b → (Begin o client key act ≡ Begin op b.client b.key b.act) × (b.place ≡ n)
    by_test false same e = absurd (none-some b e)
    by_test true same e = (
        let own = eqb-true o op same in
        let f = same_Some (record { place = n; client = client; key = key; act = act }) b e in (
          ap (λ k. Begin k client key act) own ∙ ap (λ (c : Beginning). Begin op c.client c.key c.act) f,
          sym (ap (λ (c : Beginning). c.place) f),
        )
        )
begins op n (Ask o found) b is = absurd (none-some b is)
begins op n (Set o stamp applied) b is = absurd (none-some b is)
begins op n (Try o stamp found) b is = absurd (none-some b is)
begins op n (End o) b is = absurd (none-some b is)

pub asks : (op n : ℕ) (point : Point) (a : Asking) → asking_at op n point ≡ Some a → (point ≡ Ask op a.found) × (a.place ≡ n)
asks op n (Begin o client key act) a is = absurd (none-some a is)
asks op n (Ask o found) a is = by_test (o == op) refl is
  where
    by_test : (x : Bool) → (o == op) ≡ x → cond x (Some (record { place = n; found = found })) None ≡ Some a → (Ask o found ≡ Ask op a.found) × (a.place ≡ n)
    by_test false same e = absurd (none-some a e)
    by_test true same e = (
        let own = eqb-true o op same in
        let f = same_Some (record { place = n; found = found }) a e in (
          ap (λ k. Ask k found) own ∙ ap (λ (c : Asking). Ask op c.found) f,
          sym (ap (λ (c : Asking). c.place) f),
        )
        )
asks op n (Set o stamp applied) a is = absurd (none-some a is)
asks op n (Try o stamp found) a is = absurd (none-some a is)
asks op n (End o) a is = absurd (none-some a is)

pub sets : (op n : ℕ) (point : Point) (s : Setting) → setting_at op n point ≡ Some s → (point ≡ Set op s.stamp s.is_applied) × (s.place ≡ n)
sets op n (Begin o client key act) s is = absurd (none-some s is)
sets op n (Ask o found) s is = absurd (none-some s is)
sets op n (Set o stamp applied) s is = by_test (o == op) refl is
  where
    by_test : (x : Bool) → (o == op) ≡ x → cond x (Some (record { place = n; stamp = stamp; is_applied = applied })) None ≡ Some s → (Set o stamp applied ≡ Set op s.stamp s.is_applied) × (s.place ≡ n)
    by_test false same e = absurd (none-some s e)
    by_test true same e = (
        let own = eqb-true o op same in
        let f = same_Some (record { place = n; stamp = stamp; is_applied = applied }) s e in (
          ap (λ k. Set k stamp applied) own ∙ ap (λ (c : Setting). Set op c.stamp c.is_applied) f,
          sym (ap (λ (c : Setting). c.place) f),
        )
        )
sets op n (Try o stamp found) s is = absurd (none-some s is)
sets op n (End o) s is = absurd (none-some s is)

pub tries : (op n : ℕ) (point : Point) (t : Trying) → trying_at op n point ≡ Some t → (point ≡ Try op t.stamp t.found) × (t.place ≡ n)
tries op n (Begin o client key act) t is = absurd (none-some t is)
tries op n (Ask o found) t is = absurd (none-some t is)
tries op n (Set o stamp applied) t is = absurd (none-some t is)
tries op n (Try o stamp found) t is = by_test (o == op) refl is
  where
    by_test : (x : Bool) → (o == op) ≡ x → cond x (Some (record { place = n; stamp = stamp; found = found })) None ≡ Some t → (Try o stamp found ≡ Try op t.stamp t.found) × (t.place ≡ n)
    by_test false same e = absurd (none-some t e)
    by_test true same e = (
        let own = eqb-true o op same in
        let f = same_Some (record { place = n; stamp = stamp; found = found }) t e in (
          ap (λ k. Try k stamp found) own ∙ ap (λ (c : Trying). Try op c.stamp c.found) f,
          sym (ap (λ (c : Trying). c.place) f),
        )
        )
tries op n (End o) t is = absurd (none-some t is)

pub ends : (op n : ℕ) (point : Point) (e : ℕ) → ending_at op n point ≡ Some e → (point ≡ End op) × (e ≡ n)
ends op n (Begin o client key act) e is = absurd (none-some e is)
ends op n (Ask o found) e is = absurd (none-some e is)
ends op n (Set o stamp applied) e is = absurd (none-some e is)
ends op n (Try o stamp found) e is = absurd (none-some e is)
ends op n (End o) e is = by_test (o == op) refl is
  where
    by_test : (x : Bool) → (o == op) ≡ x → cond x (Some n) None ≡ Some e → (End o ≡ End op) × (e ≡ n)
    by_test false same f = absurd (none-some e f)
    by_test true same f = (ap End (eqb-true o op same), sym (same_Some n e f))

-- a front of what continues continues
pub continues-front : (F : List Point → Point → Type 0) (before log : List Point) (n : ℕ) → Continues F before log → Continues F before (take n log)
continues-front F before log zero fits = tt
continues-front F before [] (suc n) fits = tt
continues-front F before (point ∷ later) (suc n) fits = (fits.0, continues-front F (before ++ point ∷ []) later n fits.1)

module _ {A : Type 0} (pick : ℕ → Point → Option A) where
  -- the first of all is the first of each front in which it stands
  pub front-has : (start : ℕ) (log : List Point) (value : A) (n : ℕ) → first_from pick start log ≡ Some value → ((place : ℕ) (point : Point) → pick place point ≡ Some value → place < start + n) → first_from pick start (take n log) ≡ Some value
  front-has start [] value n is within = absurd (none-some value is)
  front-has start (point ∷ later) value zero is within =
      let t = first-at pick start (point ∷ later) value is in
      let less = within (start + t.0.place) t.0.point t.0.tells in
      absurd (omega (arith, less))
  front-has start (point ∷ later) value (suc n) is within =
      by_first (pick start point) is (λ e. front-has (start + 1) later value n e (λ place p told. let less = within place p told in omega (arith, less)))
    where
      by_first : (o : Option A) → option_or o (first_from pick (start + 1) later) ≡ Some value → (first_from pick (start + 1) later ≡ Some value → first_from pick (start + 1) (take n later) ≡ Some value) → option_or o (first_from pick (start + 1) (take n later)) ≡ Some value
      by_first (Some v) e rest = e
      by_first None e rest = rest e

-- ---- the look-ups, by places

pub begun-there : (log : List Point) (op : ℕ) (b : Beginning) → beginning log op ≡ Some b → slice_get log b.place ≡ Some (Begin op b.client b.key b.act)
unfolding beginning
begun-there log op b is =
    let t = first-at (beginning_at op) 0 log b is in
    let f = begins op (0 + t.0.place) t.0.point b t.0.tells in
    let place_ = f.1 in
    ap (slice_get log) (let e : b.place ≡ t.0.place = omega (arith, place_) in e) ∙ t.0.there ∙ ap Some f.0

pub asked-there : (log : List Point) (op : ℕ) (a : Asking) → asking log op ≡ Some a → slice_get log a.place ≡ Some (Ask op a.found)
unfolding asking
asked-there log op a is =
    let t = first-at (asking_at op) 0 log a is in
    let f = asks op (0 + t.0.place) t.0.point a t.0.tells in
    let place_ = f.1 in
    ap (slice_get log) (let e : a.place ≡ t.0.place = omega (arith, place_) in e) ∙ t.0.there ∙ ap Some f.0

pub set-there : (log : List Point) (op : ℕ) (s : Setting) → setting log op ≡ Some s → slice_get log s.place ≡ Some (Set op s.stamp s.is_applied)
unfolding setting
set-there log op s is =
    let t = first-at (setting_at op) 0 log s is in
    let f = sets op (0 + t.0.place) t.0.point s t.0.tells in
    let place_ = f.1 in
    ap (slice_get log) (let e : s.place ≡ t.0.place = omega (arith, place_) in e) ∙ t.0.there ∙ ap Some f.0

pub tried-there : (log : List Point) (op : ℕ) (t : Trying) → trying log op ≡ Some t → slice_get log t.place ≡ Some (Try op t.stamp t.found)
unfolding trying
tried-there log op tried is =
    let t = first-at (trying_at op) 0 log tried is in
    let f = tries op (0 + t.0.place) t.0.point tried t.0.tells in
    let place_ = f.1 in
    ap (slice_get log) (let e : tried.place ≡ t.0.place = omega (arith, place_) in e) ∙ t.0.there ∙ ap Some f.0

pub ended-there : (log : List Point) (op e : ℕ) → ending log op ≡ Some e → slice_get log e ≡ Some (End op)
unfolding ending
ended-there log op e is =
    let t = first-at (ending_at op) 0 log e is in
    let f = ends op (0 + t.0.place) t.0.point e t.0.tells in
    let place_ = f.1 in
    ap (slice_get log) (let same : e ≡ t.0.place = omega (arith, place_) in same) ∙ t.0.there ∙ ap Some f.0

-- what a front has, all has
pub begun-front : (log : List Point) (n op : ℕ) (b : Beginning) → beginning (take n log) op ≡ Some b → (beginning log op ≡ Some b) × (b.place < n)
unfolding beginning
begun-front log n op b is = (first-stays (beginning_at op) 0 log n b is, (front-at log n b.place (Begin op b.client b.key b.act) (begun-there (take n log) op b is)).0)

pub asked-front : (log : List Point) (n op : ℕ) (a : Asking) → asking (take n log) op ≡ Some a → (asking log op ≡ Some a) × (a.place < n)
unfolding asking
asked-front log n op a is = (first-stays (asking_at op) 0 log n a is, (front-at log n a.place (Ask op a.found) (asked-there (take n log) op a is)).0)

pub tried-front : (log : List Point) (n op : ℕ) (t : Trying) → trying (take n log) op ≡ Some t → (trying log op ≡ Some t) × (t.place < n)
unfolding trying
tried-front log n op t is = (first-stays (trying_at op) 0 log n t is, (front-at log n t.place (Try op t.stamp t.found) (tried-there (take n log) op t is)).0)

pub ended-front : (log : List Point) (n op e : ℕ) → ending (take n log) op ≡ Some e → (ending log op ≡ Some e) × (e < n)
unfolding ending
ended-front log n op e is = (first-stays (ending_at op) 0 log n e is, (front-at log n e (End op) (ended-there (take n log) op e is)).0)

-- what all has, each front has in which it stands
pub front-begun : (log : List Point) (n op : ℕ) (b : Beginning) → beginning log op ≡ Some b → b.place < n → beginning (take n log) op ≡ Some b
unfolding beginning
front-begun log n op b is less = front-has (beginning_at op) 0 log b n is (λ place point told. let same = (begins op place point b told).1 in omega (arith, same, less))

pub front-set : (log : List Point) (n op : ℕ) (s : Setting) → setting log op ≡ Some s → s.place < n → setting (take n log) op ≡ Some s
unfolding setting
front-set log n op s is less = front-has (setting_at op) 0 log s n is (λ place point told. let same = (sets op place point s told).1 in omega (arith, same, less))

pub front-tried : (log : List Point) (n op : ℕ) (t : Trying) → trying log op ≡ Some t → t.place < n → trying (take n log) op ≡ Some t
unfolding trying
front-tried log n op t is less = front-has (trying_at op) 0 log t n is (λ place point told. let same = (tries op place point t told).1 in omega (arith, same, less))

pub front-ended : (log : List Point) (n op e : ℕ) → ending log op ≡ Some e → e < n → ending (take n log) op ≡ Some e
unfolding ending
front-ended log n op e is less = front-has (ending_at op) 0 log e n is (λ place point told. let same = (ends op place point e told).1 in omega (arith, same, less))

asking-more : (log : List Point) (op : ℕ) (point : Point) → asking (log ++ point ∷ []) op ≡ option_or (asking log op) (asking_at op (length log) point)
unfolding asking
asking-more log op point = first-more (asking_at op) 0 log point ∙ ap (λ n. option_or (first_from (asking_at op) 0 log) (asking_at op n point)) (let e : 0 + length log ≡ length log = omega arith in e)

last-asking-more : (log : List Point) (op : ℕ) (point : Point) → last_asking (log ++ point ∷ []) op ≡ option_or (asking_at op (length log) point) (last_asking log op)
unfolding last_asking
last-asking-more log op point = last-more (asking_at op) 0 log point ∙ ap (λ n. option_or (asking_at op n point) (last_from (asking_at op) 0 log)) (let e : 0 + length log ≡ length log = omega arith in e)

-- where no operation reads twice, the last reading is the first
pub last-first : (before later : List Point) (op : ℕ) → last_asking before op ≡ asking before op → Continues AsksAnew before later → last_asking (before ++ later) op ≡ asking (before ++ later) op
last-first before [] op same anew = rw (append-nil before) same
last-first before (point ∷ later) op same anew =
    subst (λ log. last_asking log op ≡ asking log op) (append_assoc before (point ∷ []) later)
    (last-first (before ++ point ∷ []) later op (last-asking-more before op point ∙ by_point point anew.0 ∙ sym (asking-more before op point)) anew.1)
  where
    with_none : (o : Option Asking) → o ≡ None → option_or o (last_asking before op) ≡ option_or (asking before op) o
    with_none o is = rw is (same ∙ sym (or-none (asking before op)))

    by_point : (p : Point) → AsksAnew before p → option_or (asking_at op (length before) p) (last_asking before op) ≡ option_or (asking before op) (asking_at op (length before) p)
    by_point (Begin o client key act) one = with_none None refl
    by_point (Set o stamp applied) one = with_none None refl
    by_point (Try o stamp found) one = with_none None refl
    by_point (End o) one = with_none None refl
    by_point (Ask o found) one = by_test (o == op) refl
      where
        by_test : (b : Bool) → (o == op) ≡ b → option_or (cond b (Some (record { place = length before; found = found })) None) (last_asking before op) ≡ option_or (asking before op) (cond b (Some (record { place = length before; found = found })) None)
        by_test false is = with_none None refl
        by_test true is = sym (ap (λ o. option_or o (Some (record { place = length before; found = found }))) (ap (asking before) (sym (eqb-true o op is)) ∙ one))
