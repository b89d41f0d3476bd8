-- The first update of a write: where it was applied, the record had its timestamp from then on; where it was refused, the record was past it at once.
use Rattle.std.proofs.Common.{◌≡◌, ℕ, ◌+◌, ◌-◌, ◌≤◌, ◌<◌, Bool, true, false, List, [], ◌∷◌, length, Option, Some, None, refl, sym, ap, subst, ◌∙◌, inl, inr, arith}
use Rattle.std.specs.Prelude.{◌&&◌, ◌||◌, ◌==◌, nat_le, not}
use Rattle.std.specs.Option.{option_or, option_map}
use Rattle.std.proofs.lemmas.Option.{none-some, same_Some, cond_some}
use Rattle.std.proofs.lemmas.Bool.{eq-eqb, eqb-true, both_ways}
use Rattle.hy_record.specs.declared.message.MetaAsk.{MetaAsk}
use Rattle.hy_record.specs.declared.message.MetaAsk.TheVariants as asks
use Rattle.hy_record.specs.Stamp.{Timestamp, stamp_lt}
use Rattle.hy_record.specs.Record.{RecordValue}
use Rattle.hy_record.proofs.Order.{stamp_le-lt, stamp_lt-same, stamp_lt-neither, stamp_eq-true}
use Rattle.hy_meta.specs.Service.{Attempt, is_swap_since, is_judged, attempt_of, applies, stamp_of_record, record_after, record_stamp}
use Rattle.hy_meta.specs.Run.{IsTried, IsApplied}
use Rattle.hy_meta.proofs.Lasting.{tried-below, applied-tried}
use Rattle.hy_meta.proofs.Swaps.{swap-here}
use Rattle.std.specs.List.{list_any}
use Rattle.hy_meta.proofs.Rising.{cases_bool, both}
use Rattle.hy_protocol.specs.Write.{own_stamp}
use Rattle.hy_protocol.specs.Operations.{key_of, write_plan}
use Rattle.hy_trace.specs.Deeds.{Params, Deed, Joined, Began, Handed, Served, Granted, Stopped, Nothing, Start, served, inputs_of}
use Rattle.hy_trace.specs.Messages.{Ask, IsSent}
use Rattle.hy_trace.specs.Trace.{IsTrace}
use Rattle.hy_trace.specs.Points.{Point, Update, update_as, passing, first_update, is_own, overwrites, point_by, write_point, is_applied_own, was_applied}
use Rattle.hy_trace.proofs.Growth.{or-none, zero_stamp, zero-least, Le, le-trans, top, start-same}
use Rattle.hy_theorems.specs.Writing.{Change, change_value, change_expected, change_action, IsWriting}
use Rattle.hy_theorems.proofs.Writes.{key_of-write, change-same, update-own}
use Rattle.hy_theorems.proofs.Meaning.{or-true, IsAsked, Meaning, IsUpdating, ask_with, attempt-ask, tried-asked, applied-keeps}
use Rattle.hy_theorems.proofs.Speaking.{record-applied}
use Rattle.hy_theorems.proofs.Invariant.{trace-holds, update-same, attempt-means, by-means}
use Rattle.hy_theorems.proofs.Apart.{own-above, stamps-differ}
use Rattle.hy_theorems.proofs.TopAt.{top_at, at-end, at-most, IsServedUpdate, first-served, first-keeps, tried-first, first-above}

-- what is not above, and another, is below
below-other : (a b : Timestamp) → Le a b → (a ≡ b → ⊥) → stamp_lt a b ≡ true
below-other a b le other =
    elim (cases_bool (stamp_lt a b)) [
      | inl less ↦ less
      | inr not_less ↦ absurd (other (stamp_eq-true a b (stamp_lt-neither a b not_less le)))
    ]

pub own-parts : (c o : ℕ) (u : Update) → is_own c o u ≡ true → (u.client ≡ c) × (u.op ≡ o)
own-parts c o u is = let tests = both (u.client == c) (u.op == o) is in (eqb-true u.client c tests.0, eqb-true u.op o tests.1)

-- the first of two tests, where the second fails
pub first-true : (a b : Bool) → b ≡ false → (a || b) ≡ true → a ≡ true
first-true true b fails is = refl
first-true false b fails is = absurd (both_ways b fails is)

-- an attempt of the operation was applied
pub applied-own : (requests : List MetaAsk) (c o : ℕ) → was_applied requests c o ≡ true → (a : Attempt) × IsApplied requests a × (a.client ≡ c) × (a.op ≡ o)
unfolding was_applied
applied-own [] c o is = absurd (both_ways false refl is)
applied-own (ask ∷ before) c o is =
    elim (cases_bool (was_applied before c o)) [
      | inl earlier ↦ (let was = applied-own before c o earlier in (was.0, inr was.1, was.2, was.3))
      | inr new ↦ by_attempt (attempt_of before ask) refl (first-true (is_applied_own (attempt_of before ask) before c o) (was_applied before c o) new is)
    ]
  where
    by_attempt : (x : Option Attempt) → attempt_of before ask ≡ x → is_applied_own x before c o ≡ true → (a : Attempt) × IsApplied (ask ∷ before) a × (a.client ≡ c) × (a.op ≡ o)
    by_attempt None made own = absurd (both_ways false refl own)
    by_attempt (Some a) made own =
        let tests = both (a.client == c && a.op == o) (applies (record_after before a.key) a) own in
        let names = both (a.client == c) (a.op == o) tests.0 in
        (a, inl (made, tests.1), eqb-true a.client c names.0, eqb-true a.op o names.1)

pub applied-was : (requests : List MetaAsk) (a : Attempt) → IsApplied requests a → was_applied requests a.client a.op ≡ true
unfolding was_applied
applied-was [] a is = absurd is
applied-was (ask ∷ before) a (inl is) =
    (let one = eq-eqb a.client a.client refl in let two = eq-eqb a.op a.op refl in let applied = is.1 in
    ap (λ (x : Option Attempt). is_applied_own x before a.client a.op || was_applied before a.client a.op) is.0 ∙ rw (one, two, applied) refl)
applied-was (ask ∷ before) a (inr was) = or-true (is_applied_own (attempt_of before ask) before a.client a.op) (was_applied before a.client a.op) (applied-was before a was)

-- the updates of an operation are one
updates-one : (p : Params) (t : List Deed) (c o : ℕ) (j k : List ℕ) (e d : Option Timestamp) (q r : RecordValue) → IsUpdating p c o j e q t → IsUpdating p c o k d r t → (j ≡ k) × (e ≡ d) × (q ≡ r)
updates-one p t c o j k e d q r u v =
    let same : u.start ≡ v.start = start-same c o t u.start v.start u.began v.began in
    let actions : change_action j u.change ≡ change_action k v.change = sym u.action_is ∙ (ap (λ (x : Start). x.action) same ∙ v.action_is) in
    let key : j ≡ k = sym (key_of-write j u.change) ∙ (ap key_of actions ∙ key_of-write k v.change) in
    let changes : u.change ≡ v.change = change-same j k u.change v.change actions in
    let moved : IsUpdating p c o k e q t = subst (λ (x : List ℕ). IsUpdating p c o x e q t) key u in
    (key, sym u.expects ∙ (ap change_expected changes ∙ v.expects), update-same p t c o k v.change v.start r q e v.began v.action_is v.update moved)

-- a swap that was tried is one that keeps others of its operation from being judged
asked-swap : (requests : List MetaAsk) (c o : ℕ) (k : List ℕ) (e : Timestamp) (r : RecordValue) → IsAsked requests (asks.Swap c o k e r) → list_any (is_swap_since c o) requests ≡ true
asked-swap [] c o k e r is = absurd is
asked-swap (first ∷ others) c o k e r (inl is) = subst (λ (x : MetaAsk). list_any (is_swap_since c o) (x ∷ others) ≡ true) (sym is) (swap-here others c o k e r)
asked-swap (first ∷ others) c o k e r (inr later) = or-true (is_swap_since c o first) (list_any (is_swap_since c o) others) (asked-swap others c o k e r later)

tried-swap : (requests : List MetaAsk) (a : Attempt) (e : Timestamp) → a.expected ≡ Some e → IsTried requests a → is_judged requests a.client a.op ≡ false
unfolding is_judged
tried-swap requests a e is tried = ap not (asked-swap requests a.client a.op a.key e a.rec (subst (λ (x : Option Timestamp). IsAsked requests (ask_with a x)) is (tried-asked requests a tried)))

judged-now : (before : List MetaAsk) (ask : MetaAsk) (a : Attempt) (e : Timestamp) → attempt_of before ask ≡ Some a → a.expected ≡ Some e → is_judged before a.client a.op ≡ true
judged-now before (asks.Read c o k) a e made is = absurd cc
judged-now before (asks.Watch c o k s) a e made is = absurd cc
judged-now before (asks.Olds c o k) a e made is = absurd cc
judged-now before (asks.Forget c o k ss) a e made is = absurd cc
judged-now before (asks.Update c o k r) a e made is = absurd (none-some e (ap (λ (x : Attempt). x.expected) (same_Some (record { client = c; op = o; key = k; rec = r; expected = None }) a made) ∙ is))
judged-now before (asks.Swap c o k d r) a e made is =
    (let parts = cond_some (is_judged before c o) (record { client = c; op = o; key = k; rec = r; expected = Some d }) a made in
    ap (λ (x : Attempt). is_judged before x.client x.op) (sym parts.1) ∙ parts.0)

module _ (p : Params) (c o : ℕ) where
  -- what was served first of an operation is an attempt of it
  first-tried : (t : List Deed) (u : Update) → first_update (is_own c o) t ≡ Some u → (b : Attempt) × IsTried (served t) b × (b.client ≡ c) × (b.op ≡ o)
  first-tried t u first =
      let f = first-served (is_own c o) t u first in
      let own = own-parts c o u f.1 in
      (f.0.attempt, f.0.tried, f.0.by.0 ∙ own.0, f.0.by.1 ∙ own.1)

  -- an attempt of which one of its operation was served before expects nothing, and is not applied
  pub second-refused : (t : List Deed) (ask : MetaAsk) (a : Attempt) (u : Update) → IsTrace p t → IsSent p t (Ask ask) → attempt_of (served t) ask ≡ Some a → a.client ≡ c → a.op ≡ o → first_update (is_own c o) t ≡ Some u → (a.expected ≡ None) × (applies (record_after (served t) a.key) a ≡ false)
  unfolding record_stamp
  second-refused t ask a u trace sent made client op first =
      let b = first-tried t u first in
      let holds = trace-holds p t trace in
      let before : IsUpdating p c o b.0.key b.0.expected b.0.rec t = by-means p t b.0 c o b.0.key trace holds b.1 (b.2, b.3, refl) in
      let mean : Meaning p t (Ask (ask_with a a.expected)) = subst (λ (x : MetaAsk). Meaning p t (Ask x)) (attempt-ask (served t) ask a made) (holds.said (Ask ask) sent) in
      let mine : IsUpdating p a.client a.op a.key a.expected a.rec t = attempt-means p t a a.expected refl mean in
      let now : IsUpdating p c o a.key a.expected a.rec t = subst (λ (x : ℕ). IsUpdating p x o a.key a.expected a.rec t) client (subst (λ (x : ℕ). IsUpdating p a.client x a.key a.expected a.rec t) op mine) in
      let one = updates-one p t c o b.0.key a.key b.0.expected a.expected b.0.rec a.rec before now in
      by_expected b.0 b.1 b.2 b.3 one.0 one.1 one.2 a.expected refl
    where
      by_expected : (b : Attempt) → IsTried (served t) b → b.client ≡ c → b.op ≡ o → b.key ≡ a.key → b.expected ≡ a.expected → b.rec ≡ a.rec → (e : Option Timestamp) → a.expected ≡ e → (a.expected ≡ None) × (applies (record_after (served t) a.key) a ≡ false)
      by_expected b tried bc bo key expected rec (Some e) is =
          let judged = judged-now (served t) ask a e made is in
          let not_judged : is_judged (served t) a.client a.op ≡ false = subst (λ (x : ℕ). is_judged (served t) x a.op ≡ false) (bc ∙ sym client) (subst (λ (x : ℕ). is_judged (served t) b.client x ≡ false) (bo ∙ sym op) (tried-swap (served t) b e (expected ∙ is) tried)) in
          absurd (both_ways (is_judged (served t) a.client a.op) not_judged judged)
      by_expected b tried bc bo key expected rec None is =
          let low : stamp_lt (stamp_of_record (record_after (served t) b.key)) b.rec.stamp ≡ false = tried-below (served t) b (expected ∙ is) tried in
          let here : stamp_lt (stamp_of_record (record_after (served t) a.key)) a.rec.stamp ≡ false = subst (λ (x : List ℕ). stamp_lt (stamp_of_record (record_after (served t) x)) a.rec.stamp ≡ false) key (subst (λ (x : RecordValue). stamp_lt (stamp_of_record (record_after (served t) b.key)) x.stamp ≡ false) rec low) in
          (is, rw is here)

  -- where an attempt of an operation was applied, it was the first
  pub first-applied : (t : List Deed) (u : Update) → IsTrace p t → first_update (is_own c o) t ≡ Some u → was_applied (served t) c o ≡ true → u.is_applied ≡ true
  unfolding IsTrace served first_update was_applied
  first-applied [] u trace first is = absurd (none-some u first)
  first-applied (Joined ∷ t) u trace first is = first-applied t u trace.1 (sym (or-none (first_update (is_own c o) t)) ∙ first) is
  first-applied (Began b n a ∷ t) u trace first is = first-applied t u trace.1 (sym (or-none (first_update (is_own c o) t)) ∙ first) is
  first-applied (Handed b n made cue ∷ t) u trace first is = first-applied t u trace.1 (sym (or-none (first_update (is_own c o) t)) ∙ first) is
  first-applied (Granted ask ∷ t) u trace first is = first-applied t u trace.1 (sym (or-none (first_update (is_own c o) t)) ∙ first) is
  first-applied (Stopped b ∷ t) u trace first is = first-applied t u trace.1 (sym (or-none (first_update (is_own c o) t)) ∙ first) is
  first-applied (Nothing ∷ t) u trace first is = first-applied t u trace.1 (sym (or-none (first_update (is_own c o) t)) ∙ first) is
  first-applied (Served ask ∷ t) u trace first is =
      elim (cases_bool (was_applied (served t) c o)) [
        | inl earlier ↦
            let a = applied-own (served t) c o earlier in
            let w = tried-first a.0 t (applied-tried (served t) a.0 a.1) in
            let v : first_update (is_own c o) t ≡ Some w.0 = subst (λ (x : ℕ). first_update (is_own x o) t ≡ Some w.0) a.2 (subst (λ (x : ℕ). first_update (is_own a.0.client x) t ≡ Some w.0) a.3 w.1) in
            let same : w.0 ≡ u = same_Some w.0 u (sym (first-keeps (is_own c o) (Served ask) t w.0 v) ∙ first) in
            ap (λ (x : Update). x.is_applied) (sym same) ∙ first-applied t w.0 trace.1 v earlier
        | inr new ↦ by_attempt (attempt_of (served t) ask) refl (first-true (is_applied_own (attempt_of (served t) ask) (served t) c o) (was_applied (served t) c o) new is)
      ]
    where
      by_first : (a : Attempt) → attempt_of (served t) ask ≡ Some a → a.client ≡ c → a.op ≡ o → (a.client == c && a.op == o) ≡ true → applies (record_after (served t) a.key) a ≡ true → (f : Option Update) → first_update (is_own c o) t ≡ f → option_or f (passing (is_own c o) (Some (update_as t a))) ≡ Some u → u.is_applied ≡ true
      by_first a made client op own above (Some v) was e = absurd (both_ways (applies (record_after (served t) a.key) a) (second-refused t ask a v trace.1 trace.0 made client op was).1 above)
      by_first a made client op own above None was e = ap (λ (x : Update). x.is_applied) (sym (same_Some (update_as t a) u (sym (rw own refl) ∙ e))) ∙ above

      by_attempt : (x : Option Attempt) → attempt_of (served t) ask ≡ x → is_applied_own x (served t) c o ≡ true → u.is_applied ≡ true
      by_attempt None made own = absurd (both_ways false refl own)
      by_attempt (Some a) made own =
          let tests = both (a.client == c && a.op == o) (applies (record_after (served t) a.key) a) own in
          let names = both (a.client == c) (a.op == o) tests.0 in
          by_first a made (eqb-true a.client c names.0) (eqb-true a.op o names.1) tests.0 tests.1 (first_update (is_own c o) t) refl (ap (λ (x : Option Attempt). option_or (first_update (is_own c o) t) (passing (is_own c o) (option_map (update_as t) x))) (sym made) ∙ first)

-- where the record has a timestamp, an attempt of it was applied
top-applied : (t : List Deed) (key : List ℕ) (s : Timestamp) → top t key ≡ s → stamp_lt zero_stamp s ≡ true → (a : Attempt) × IsApplied (served t) a × (a.key ≡ key) × (a.rec.stamp ≡ s)
unfolding record_stamp
top-applied t key s is above = by_record (record_after (served t) key) refl is
  where
    by_record : (o : Option RecordValue) → record_after (served t) key ≡ o → stamp_of_record o ≡ s → (a : Attempt) × IsApplied (served t) a × (a.key ≡ key) × (a.rec.stamp ≡ s)
    by_record None was e = absurd (both_ways (stamp_lt zero_stamp s) (subst (λ (x : Timestamp). stamp_lt zero_stamp x ≡ false) e (stamp_lt-same zero_stamp)) above)
    by_record (Some r) was e = (let a = record-applied t key r was in (a.0, a.1, a.2, ap (λ (x : RecordValue). x.stamp) a.3 ∙ e))

-- where the record had a timestamp, an attempt of it was applied
pub at-applied : (t : List Deed) (key : List ℕ) (n : ℕ) (s : Timestamp) → top_at t key n ≡ s → stamp_lt zero_stamp s ≡ true → (a : Attempt) × IsApplied (served t) a × (a.key ≡ key) × (a.rec.stamp ≡ s)
unfolding top_at
at-applied [] key n s is above = top-applied [] key s is above
at-applied (d ∷ t) key n s is above =
    elim (cases_bool (nat_le (length t + 1) n)) [
      | inl whole ↦ top-applied (d ∷ t) key s (rw whole at is) above
      | inr part ↦ (let was = at-applied t key n s (rw part at is) above in (was.0, applied-keeps d t was.0 was.1, was.2, was.3))
    ]

-- a write of the key with this timestamp stands at this point: the record is below the timestamp until then, and from then on at it, or past it where the point is just before a step
pub record IsWrittenAt (t : List Deed) (key : List ℕ) (s : Timestamp) (point : Point) : Type 0 where
  pub some : 1 ≤ point.step
  pub below : (n : ℕ) → n < point.step → stamp_lt (top_at t key n) s ≡ true
  pub here : point.is_just_before ≡ false → top_at t key point.step ≡ s
  pub past : point.is_just_before ≡ true → stamp_lt s (top_at t key point.step) ≡ true

module _ (p : Params) (t : List Deed) (trace : IsTrace p t) (c o : ℕ) (key : List ℕ) (s : Timestamp) (w : IsWriting p c o key s t) where
  -- a write of which no update was applied never gave the record its timestamp
  never-top : (u : Update) → first_update (is_own c o) t ≡ Some u → u.is_applied ≡ false → (n : ℕ) → top_at t key n ≡ s → ⊥
  never-top u first refused n is =
      let above : stamp_lt zero_stamp s ≡ true = stamp_le-lt zero_stamp (top w.start.before key) s (zero-least (top w.start.before key)) (own-above p t c o key s trace w).0 in
      let a = at-applied t key n s is above in
      let u_ : IsUpdating p a.0.client a.0.op key a.0.expected a.0.rec t = by-means p t a.0 a.0.client a.0.op key trace (trace-holds p t trace) (applied-tried (served t) a.0 a.1) (refl, refl, a.2) in
      let own : own_stamp (write_plan p.f p.k a.0.client a.0.op key (change_value u_.change)) (inputs_of a.0.client a.0.op t) ≡ Some s = update-own (write_plan p.f p.k a.0.client a.0.op key (change_value u_.change)) (inputs_of a.0.client a.0.op t) a.0.rec u_.update ∙ ap Some a.3 in
      let one = stamps-differ p t a.0.client a.0.op c o key s trace (record { start = u_.start; began = u_.began; change = u_.change; action_is = u_.action_is; met = u_.met; own = own }) w in
      let applied : was_applied (served t) c o ≡ true = subst (λ (x : ℕ). was_applied (served t) x o ≡ true) one.0 (subst (λ (x : ℕ). was_applied (served t) a.0.client x ≡ true) one.1 (applied-was (served t) a.0 a.1)) in
      both_ways u.is_applied refused (first-applied p c o t u trace first applied)

  -- the first update of the write is of its key, and has its timestamp, and expects what it does
  pub own-update : (u : Update) → (first : first_update (is_own c o) t ≡ Some u) → (u.key ≡ key) × (u.stamp ≡ s) × ((first-served (is_own c o) t u first).0.attempt.expected ≡ change_expected w.change)
  own-update u first =
      let f = first-served (is_own c o) t u first in
      let own = own-parts c o u f.1 in
      let a = f.0.attempt in
      let meant : IsUpdating p c o u.key a.expected a.rec t = by-means p t a c o u.key trace (trace-holds p t trace) f.0.tried (f.0.by.0 ∙ own.0, f.0.by.1 ∙ own.1, f.0.by.2) in
      let same : meant.start ≡ w.start = start-same c o t meant.start w.start meant.began w.began in
      let action : change_action u.key meant.change ≡ change_action key w.change = sym meant.action_is ∙ (ap (λ (x : Start). x.action) same ∙ w.action_is) in
      let key_is : u.key ≡ key = sym (key_of-write u.key meant.change) ∙ (ap key_of action ∙ key_of-write key w.change) in
      let change_is : meant.change ≡ w.change = change-same u.key key meant.change w.change action in
      let stamp : own_stamp (write_plan p.f p.k c o key (change_value w.change)) (inputs_of c o t) ≡ Some a.rec.stamp =
      subst (λ (x : List ℕ). own_stamp (write_plan p.f p.k c o x (change_value w.change)) (inputs_of c o t) ≡ Some a.rec.stamp) key_is (subst (λ (x : Change). own_stamp (write_plan p.f p.k c o u.key (change_value x)) (inputs_of c o t) ≡ Some a.rec.stamp) change_is (update-own (write_plan p.f p.k c o u.key (change_value meant.change)) (inputs_of c o t) a.rec meant.update)) in
      (key_is, sym f.0.stamp_is ∙ same_Some a.rec.stamp s (sym stamp ∙ w.own), sym meant.expects ∙ ap change_expected change_is)

  -- the point of a write of which an update was served, and was applied if it expects a timestamp
  pub written-at : (u : Update) → first_update (is_own c o) t ≡ Some u → (u.is_applied ≡ false → change_expected w.change ≡ None) → IsWrittenAt t key s (write_point c o t)
  unfolding write_point
  written-at u first free = rw first (by_applied u.is_applied refl)
    where
      of : (u.key ≡ key) × (u.stamp ≡ s) × ((first-served (is_own c o) t u first).0.attempt.expected ≡ change_expected w.change)
      of = own-update u first

      served_ : IsServedUpdate t u
      served_ = (first-served (is_own c o) t u first).0

      by_applied : (b : Bool) → u.is_applied ≡ b → IsWrittenAt t key s (point_by (Some u) t)
      by_applied true is =
          (let a = served_.applied is in
          rw is (record {
            some = served_.some;
            below = λ n less. subst (λ (k : List ℕ). stamp_lt (top_at t k n) s ≡ true) of.0 (ap (λ (x : Timestamp). stamp_lt (top_at t u.key n) x) (sym of.1) ∙ a.1 n less);
            here = λ e. ap (λ (k : List ℕ). top_at t k u.step) (sym of.0) ∙ (a.0 ∙ of.1);
            past = λ e. absurd (both_ways false refl e);
          }))
      by_applied false is =
          (let low : Le s (top_at t key (u.step - 1)) = subst (λ (k : List ℕ). Le s (top_at t k (u.step - 1))) of.0 (subst (λ (x : Timestamp). Le x (top_at t u.key (u.step - 1))) of.1 (served_.refused is (of.2 ∙ free is) (u.step - 1) (let some = served_.some in omega (arith, some)))) in
          let all : Le s (top t key) = le-trans s (top_at t key (u.step - 1)) (top t key) low (at-most t key (u.step - 1)) in
          let high : stamp_lt s (top t key) ≡ true = below-other s (top t key) all (λ e. never-top u first is (length t) (at-end t key (length t) (omega arith) ∙ sym e)) in
          let f = first-above t key s high in
          let first_is : first_update (overwrites u.key u.stamp) t ≡ Some f.update = ap (λ (k : List ℕ). first_update (overwrites k u.stamp) t) of.0 ∙ (ap (λ (x : Timestamp). first_update (overwrites key x) t) of.1 ∙ f.first) in
          rw (is, first_is) (record {
            some = (first-served (overwrites key s) t f.update f.first).0.some;
            below = λ n less. below-other (top_at t key n) s (f.below n less) (λ e. never-top u first is n e);
            here = λ e. absurd (both_ways true e refl);
            past = λ e. f.above;
          }))
