-- The record's timestamp after each step of a trace, and the first updates that pass a test.
use Rattle.std.proofs.Common.{◌≡◌, ℕ, ◌+◌, ◌≤◌, ◌<◌, Bool, true, false, cond, List, [], ◌∷◌, length, Option, Some, None, refl, sym, ap, subst, ◌∙◌, inl, inr, arith}
use Rattle.std.specs.Prelude.{◌⊎◌, ◌&&◌, nat_le}
use Rattle.std.proofs.lemmas.Option.{none-some, same_Some}
use Rattle.std.proofs.lemmas.Bool.{eq-eqb, le-leb, lt-leb, leb-true, both_ways}
use Rattle.std.proofs.lemmas.Bool.Decides.{nat_tests}
use Rattle.hy_record.specs.declared.message.MetaAsk.{MetaAsk}
use Rattle.std.specs.Option.{option_map}
use Rattle.hy_record.specs.Stamp.{Timestamp, stamp_lt}
use Rattle.hy_record.specs.Key.{key_eq}
use Rattle.hy_record.proofs.Order.{stamp_le-lt, stamp_lt-le, key_eq-true, key_eq-same}
use Rattle.hy_meta.specs.Service.{Attempt, attempt_of, is_expected, applies, stamp_of_record, record_after, record_stamp}
use Rattle.hy_meta.specs.Run.{IsTried}
use Rattle.hy_meta.proofs.Lasting.{stamp-is, step-cases, attempt-own, applied-parts}
use Rattle.hy_meta.proofs.Rising.{cases_bool, both}
use Rattle.hy_trace.specs.Deeds.{Deed, Joined, Began, Handed, Served, Granted, Stopped, Nothing, served}
use Rattle.hy_trace.specs.Points.{Update, update_as, update_by, update_at, passing, first_update, is_own, overwrites}
use Rattle.hy_trace.proofs.Growth.{Le, le-same, le-trans, top, top-rises, or-first, or-cases}
use Rattle.hy_theorems.proofs.Meaning.{IsBy, tried-keeps}
use Rattle.hy_theorems.proofs.Speaking.{applied-top}

-- the record's timestamp after so many steps
unfoldable pub top_at : List Deed → List ℕ → ℕ → Timestamp
top_at [] key n = top [] key
top_at (d ∷ t) key n = cond (nat_le (length t + 1) n) (top (d ∷ t) key) (top_at t key n)

pub at-end : (t : List Deed) (key : List ℕ) (n : ℕ) → length t ≤ n → top_at t key n ≡ top t key
unfolding top_at
at-end [] key n le = refl
at-end (d ∷ t) key n le = let test : nat_le (length t + 1) n ≡ true = le-leb (length t + 1) n (omega (arith, le)) in rw test refl

pub at-earlier : (d : Deed) (t : List Deed) (key : List ℕ) (n : ℕ) → n ≤ length t → top_at (d ∷ t) key n ≡ top_at t key n
unfolding top_at
at-earlier d t key n le = let test : nat_le (length t + 1) n ≡ false = lt-leb (length t + 1) n (omega (arith, le)) in rw test refl

pub at-most : (t : List Deed) (key : List ℕ) (n : ℕ) → Le (top_at t key n) (top t key)
unfolding top_at
at-most [] key n = le-same (top [] key)
at-most (d ∷ t) key n =
    elim (cases_bool (nat_le (length t + 1) n)) [
      | inl whole ↦ rw whole (le-same (top (d ∷ t) key))
      | inr part ↦ rw part (le-trans (top_at t key n) (top t key) (top (d ∷ t) key) (at-most t key n) (top-rises d t key))
    ]

-- it never falls
pub at-rises : (t : List Deed) (key : List ℕ) (n m : ℕ) → n ≤ m → Le (top_at t key n) (top_at t key m)
unfolding top_at
at-rises [] key n m le = le-same (top [] key)
at-rises (d ∷ t) key n m le =
    elim (cases_bool (nat_le (length t + 1) n)) [
      | inl whole ↦ (let high = leb-true (length t + 1) n whole in let too : nat_le (length t + 1) m ≡ true = le-leb (length t + 1) m (omega (arith, high, le)) in rw (whole, too) (le-same (top (d ∷ t) key)))
      | inr part ↦ elim (cases_bool (nat_le (length t + 1) m)) [
        | inl whole ↦ rw (part, whole) (le-trans (top_at t key n) (top t key) (top (d ∷ t) key) (at-most t key n) (top-rises d t key))
        | inr too ↦ rw (part, too) (at-rises t key n m le)
      ]
    ]

-- a deed serves a request, or leaves what was served and updates nothing
pub serves-or-not : (d : Deed) (t : List Deed) → ((ask : MetaAsk) × (d ≡ Served ask)) ⊎ ((served (d ∷ t) ≡ served t) × (update_at d t ≡ None))
unfolding served
serves-or-not (Served ask) t = inl (ask, refl)
serves-or-not Joined t = inr (refl, refl)
serves-or-not (Began c o a) t = inr (refl, refl)
serves-or-not (Handed c o made cue) t = inr (refl, refl)
serves-or-not (Granted ask) t = inr (refl, refl)
serves-or-not (Stopped c) t = inr (refl, refl)
serves-or-not Nothing t = inr (refl, refl)

-- an attempt as the service served it: its step, and what the record was before and after
pub record IsServedUpdate (t : List Deed) (u : Update) : Type 0 where
  pub attempt : Attempt
  pub tried : IsTried (served t) attempt
  pub by : IsBy u.client u.op u.key attempt
  pub stamp_is : attempt.rec.stamp ≡ u.stamp
  pub some : 1 ≤ u.step
  pub within : u.step ≤ length t
  pub applied : u.is_applied ≡ true → (top_at t u.key u.step ≡ u.stamp) × ((n : ℕ) → n < u.step → stamp_lt (top_at t u.key n) u.stamp ≡ true)
  -- the record had the expected timestamp
  pub met : u.is_applied ≡ true → (n : ℕ) → n + 1 ≡ u.step → is_expected attempt.expected (top_at t u.key n) ≡ true
  pub refused : u.is_applied ≡ false → attempt.expected ≡ None → (n : ℕ) → n + 1 ≡ u.step → Le u.stamp (top_at t u.key n)
  -- the record stayed
  pub still : u.is_applied ≡ false → (n : ℕ) → n + 1 ≡ u.step → top_at t u.key n ≡ top_at t u.key u.step

served-keeps : (d : Deed) (t : List Deed) (u : Update) → IsServedUpdate t u → IsServedUpdate (d ∷ t) u
served-keeps d t u is =
    let within = is.within in
    record {
      attempt = is.attempt;
      tried = tried-keeps d t is.attempt is.tried;
      by = is.by;
      stamp_is = is.stamp_is;
      some = is.some;
      within = omega (arith, within);
      applied = λ applied. (
        at-earlier d t u.key u.step within ∙ (is.applied applied).0,
        λ n less. ap (λ (x : Timestamp). stamp_lt x u.stamp) (at-earlier d t u.key n (omega (arith, less, within))) ∙ (is.applied applied).1 n less,
      );
      met = λ applied n e. ap (λ (x : Timestamp). is_expected is.attempt.expected x) (at-earlier d t u.key n (omega (arith, e, within))) ∙ is.met applied n e;
      refused = λ refused free n e. subst (λ (x : Timestamp). Le u.stamp x) (sym (at-earlier d t u.key n (omega (arith, e, within)))) (is.refused refused free n e);
      still = λ refused n e. at-earlier d t u.key n (omega (arith, e, within)) ∙ (is.still refused n e ∙ sym (at-earlier d t u.key u.step within));
    }

served-now : (ask : MetaAsk) (a : Attempt) (t : List Deed) → attempt_of (served t) ask ≡ Some a → IsServedUpdate (Served ask ∷ t) (update_as t a)
unfolding served record_stamp
served-now ask a t is =
    let d = Served ask in
    let k = a.key in
    let earlier : (n : ℕ) → n + 1 ≡ length t + 1 → top_at (d ∷ t) k n ≡ top t k = λ n e. at-earlier d t k n (omega (arith, e)) ∙ at-end t k n (omega (arith, e)) in
    record {
      attempt = a;
      tried = inl is;
      by = (refl, refl, refl);
      stamp_is = refl;
      some = omega arith;
      within = omega arith;
      applied = λ applied. (
        at-end (d ∷ t) k (length t + 1) (omega arith) ∙ applied-top ask (served t) a is applied,
        λ n less. ap (λ (x : Timestamp). stamp_lt x a.rec.stamp) (at-earlier d t k n (omega (arith, less))) ∙ stamp_le-lt (top_at t k n) (top t k) a.rec.stamp (at-most t k n) (applied-parts (record_after (served t) k) a applied).1,
      );
      met = λ applied n e. ap (λ (x : Timestamp). is_expected a.expected x) (earlier n e) ∙ (applied-parts (record_after (served t) k) a applied).0;
      refused = λ refused free n e. subst (λ (x : Timestamp). Le a.rec.stamp x) (sym (earlier n e)) (free_low free refused);
      still = λ refused n e. earlier n e ∙ sym (at-end (d ∷ t) k (length t + 1) (omega arith) ∙ stamp-is (ask ∷ served t) k (record_after (served t) k) (attempt-own ask (served t) a is ∙ rw refused refl));
    }
  where
    free_low : a.expected ≡ None → applies (record_after (served t) a.key) a ≡ false → stamp_lt (stamp_of_record (record_after (served t) a.key)) a.rec.stamp ≡ false
    free_low free refused = rw free at refused

pub passing-is : (test : Update → Bool) (o : Option Update) (u : Update) → passing test o ≡ Some u → (o ≡ Some u) × (test u ≡ true)
passing-is test None u is = absurd (none-some u is)
passing-is test (Some v) u is =
    elim (cases_bool (test v)) [
      | inl passes ↦ (let same = rw passes at is in (same, ap test (sym (same_Some v u same)) ∙ passes))
      | inr fails ↦ absurd (none-some u (rw fails at is))
    ]

pub mapped-is : (t : List Deed) (o : Option Attempt) (u : Update) → option_map (update_as t) o ≡ Some u → (a : Attempt) × (o ≡ Some a) × (update_as t a ≡ u)
mapped-is t None u is = absurd (none-some u is)
mapped-is t (Some a) u is = (a, refl, same_Some (update_as t a) u is)

served-by : (ask : MetaAsk) (t : List Deed) (u : Update) → update_by ask t ≡ Some u → IsServedUpdate (Served ask ∷ t) u
served-by ask t u is =
    let m = mapped-is t (attempt_of (served t) ask) u is in
    subst (λ (x : Update). IsServedUpdate (Served ask ∷ t) x) m.2 (served-now ask m.0 t m.1)

served-at : (d : Deed) (t : List Deed) (u : Update) → update_at d t ≡ Some u → IsServedUpdate (d ∷ t) u
served-at d t u is =
    elim (serves-or-not d t) [
      | inl serves ↦ subst (λ (x : Deed). IsServedUpdate (x ∷ t) u) (sym serves.1) (served-by serves.0 t u (ap (λ (x : Deed). update_at x t) (sym serves.1) ∙ is))
      | inr quiet ↦ absurd (none-some u (sym quiet.1 ∙ is))
    ]

-- the first update that passes was served, and passes
pub first-served : (test : Update → Bool) (t : List Deed) (u : Update) → first_update test t ≡ Some u → IsServedUpdate t u × (test u ≡ true)
unfolding first_update
first-served test [] u is = absurd (none-some u is)
first-served test (d ∷ t) u is =
    elim (or-cases (first_update test t) (passing test (update_at d t)) u is) [
      | inl was ↦ (let before = first-served test t u was in (served-keeps d t u before.0, before.1))
      | inr now ↦ (let passes = passing-is test (update_at d t) u now.1 in (served-at d t u passes.0, passes.1))
    ]

pub first-keeps : (test : Update → Bool) (d : Deed) (t : List Deed) (u : Update) → first_update test t ≡ Some u → first_update test (d ∷ t) ≡ Some u
unfolding first_update
first-keeps test d t u is = or-first (first_update test t) (passing test (update_at d t)) u is

-- an operation of which an attempt was served has a first one
pub tried-first : (a : Attempt) (t : List Deed) → IsTried (served t) a → (u : Update) × (first_update (is_own a.client a.op) t ≡ Some u)
unfolding served first_update
tried-first a [] is = absurd is
tried-first a (Joined ∷ t) is = (let u = tried-first a t is in (u.0, first-keeps (is_own a.client a.op) Joined t u.0 u.1))
tried-first a (Began b n x ∷ t) is = (let u = tried-first a t is in (u.0, first-keeps (is_own a.client a.op) (Began b n x) t u.0 u.1))
tried-first a (Handed b n made cue ∷ t) is = (let u = tried-first a t is in (u.0, first-keeps (is_own a.client a.op) (Handed b n made cue) t u.0 u.1))
tried-first a (Granted ask ∷ t) is = (let u = tried-first a t is in (u.0, first-keeps (is_own a.client a.op) (Granted ask) t u.0 u.1))
tried-first a (Stopped b ∷ t) is = (let u = tried-first a t is in (u.0, first-keeps (is_own a.client a.op) (Stopped b) t u.0 u.1))
tried-first a (Nothing ∷ t) is = (let u = tried-first a t is in (u.0, first-keeps (is_own a.client a.op) Nothing t u.0 u.1))
tried-first a (Served ask ∷ t) (inr later) = (let u = tried-first a t later in (u.0, first-keeps (is_own a.client a.op) (Served ask) t u.0 u.1))
tried-first a (Served ask ∷ t) (inl is) = by_first (first_update (is_own a.client a.op) t) refl
  where
    own : is_own a.client a.op (update_as t a) ≡ true
    own = (let one = eq-eqb a.client a.client refl in let two = eq-eqb a.op a.op refl in rw (one, two) refl)

    by_first : (f : Option Update) → first_update (is_own a.client a.op) t ≡ f → (u : Update) × (first_update (is_own a.client a.op) (Served ask ∷ t) ≡ Some u)
    by_first (Some u) was = (u, first-keeps (is_own a.client a.op) (Served ask) t u was)
    by_first None was = (update_as t a, rw was (ap (λ (o : Option Attempt). passing (is_own a.client a.op) (option_map (update_as t) o)) is ∙ rw own refl))

-- where the record is above a timestamp, a first update made it so
pub record FirstAbove (t : List Deed) (key : List ℕ) (s : Timestamp) : Type 0 where
  pub update : Update
  pub first : first_update (overwrites key s) t ≡ Some update
  pub above : stamp_lt s (top_at t key update.step) ≡ true
  pub below : (n : ℕ) → n < update.step → Le (top_at t key n) s

none-above-zero : (s : Timestamp) → stamp_lt s (record { sn = 0; cid = 0 }) ≡ true → ⊥
unfolding stamp_lt
none-above-zero s is = absurd (grind (arith, nat_tests))

overwrites-parts : (key : List ℕ) (s : Timestamp) (u : Update) → overwrites key s u ≡ true → (u.is_applied ≡ true) × (u.key ≡ key) × (stamp_lt s u.stamp ≡ true)
overwrites-parts key s u is =
    let outer = both (u.is_applied && key_eq u.key key) (stamp_lt s u.stamp) is in
    let inner = both u.is_applied (key_eq u.key key) outer.0 in
    (inner.0, key_eq-true u.key key inner.1, outer.1)

-- a first update above the timestamp leaves the record above it
first-passes : (t : List Deed) (key : List ℕ) (s : Timestamp) (u : Update) → first_update (overwrites key s) t ≡ Some u → stamp_lt s (top t key) ≡ true
first-passes t key s u is =
    let f = first-served (overwrites key s) t u is in
    let parts = overwrites-parts key s u f.1 in
    let here : top_at t key u.step ≡ u.stamp = ap (λ (k : List ℕ). top_at t k u.step) (sym parts.1) ∙ (f.0.applied parts.0).0 in
    stamp_lt-le s u.stamp (top t key) parts.2 (subst (λ (x : Timestamp). Le x (top t key)) here (at-most t key u.step))

-- an attempt that takes the record past a timestamp overwrites it
passes-here : (ask : MetaAsk) (t : List Deed) (key : List ℕ) (s : Timestamp) → stamp_lt s (top t key) ≡ false → stamp_lt s (top (Served ask ∷ t) key) ≡ true → (u : Update) × (update_by ask t ≡ Some u) × (u.step ≡ length t + 1) × (overwrites key s u ≡ true)
unfolding served
passes-here ask t key s low high =
    elim (step-cases ask (served t) key) [
      | inl same ↦ absurd (both_ways (stamp_lt s (top t key)) low (ap (stamp_lt s) (sym (stamp-is (ask ∷ served t) key (record_after (served t) key) same ∙ sym (stamp-is (served t) key (record_after (served t) key) refl))) ∙ high))
      | inr raises ↦
          let a = raises.attempt in
          let above : stamp_lt s a.rec.stamp ≡ true = ap (stamp_lt s) (sym raises.stamp_is) ∙ high in
          let own : key_eq a.key key ≡ true = ap (λ (x : List ℕ). key_eq x key) raises.key_is ∙ key_eq-same key in
          let applied = raises.applied in
          (update_as t a, ap (option_map (update_as t)) raises.is, refl, rw (applied, own, above) refl)
    ]

pub first-above : (t : List Deed) (key : List ℕ) (s : Timestamp) → stamp_lt s (top t key) ≡ true → FirstAbove t key s
unfolding first_update served record_stamp record_after
first-above [] key s above = absurd (none-above-zero s above)
first-above (d ∷ t) key s above =
    elim (cases_bool (stamp_lt s (top t key))) [
      | inl already ↦ later (first-above t key s already)
      | inr not_yet ↦ elim (serves-or-not d t) [
        | inr quiet ↦ absurd (both_ways (stamp_lt s (top t key)) not_yet (ap (λ (x : List MetaAsk). stamp_lt s (record_stamp x key)) (sym quiet.0) ∙ above))
        | inl serves ↦ subst (λ (x : Deed). FirstAbove (x ∷ t) key s) (sym serves.1) (now serves.0 not_yet (passes-here serves.0 t key s not_yet (subst (λ (x : Deed). stamp_lt s (top (x ∷ t) key) ≡ true) serves.1 above)))
      ]
    ]
  where
    later : FirstAbove t key s → FirstAbove (d ∷ t) key s
    later f =
        let within = (first-served (overwrites key s) t f.update f.first).0.within in
        record {
          update = f.update;
          first = first-keeps (overwrites key s) d t f.update f.first;
          above = ap (λ (x : Timestamp). stamp_lt s x) (at-earlier d t key f.update.step within) ∙ f.above;
          below = λ n less. subst (λ (x : Timestamp). Le x s) (sym (at-earlier d t key n (omega (arith, less, within)))) (f.below n less);
        }

    none_before : stamp_lt s (top t key) ≡ false → (o : Option Update) → first_update (overwrites key s) t ≡ o → o ≡ None
    none_before low None is = refl
    none_before low (Some u) is = absurd (both_ways (stamp_lt s (top t key)) low (first-passes t key s u is))

    now : (ask : MetaAsk) → stamp_lt s (top t key) ≡ false → (u : Update) × (update_by ask t ≡ Some u) × (u.step ≡ length t + 1) × (overwrites key s u ≡ true) → FirstAbove (Served ask ∷ t) key s
    now ask low u =
        let fresh = none_before low (first_update (overwrites key s) t) refl in
        let passes : passing (overwrites key s) (Some u.0) ≡ Some u.0 = (let is = u.3 in rw is refl) in
        let first : first_update (overwrites key s) (Served ask ∷ t) ≡ Some u.0 = rw fresh (ap (passing (overwrites key s)) u.1 ∙ passes) in
        let step = u.2 in
        let all = first-passes (Served ask ∷ t) key s u.0 first in
        record {
          update = u.0;
          first = first;
          above = ap (λ (x : Timestamp). stamp_lt s x) (at-end (Served ask ∷ t) key u.0.step (omega (arith, step))) ∙ all;
          below = λ n less. subst (λ (x : Timestamp). Le x s) (sym (at-earlier (Served ask) t key n (omega (arith, less, step)))) (le-trans (top_at t key n) (top t key) s (at-most t key n) low);
        }
