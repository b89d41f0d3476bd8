-- Writes that are listed: their updates; and swaps, which are applied, and have the number after the one that they expect.
use Rattle.std.proofs.Common.{◌≡◌, ℕ, ◌+◌, ◌-◌, Bool, true, false, List, [], ◌∷◌, Option, Some, None, refl, sym, ap, subst, ◌∙◌, inl, inr, arith}
use Rattle.std.specs.Prelude.{◌||◌, not}
use Rattle.std.proofs.lemmas.Option.{same_Some}
use Rattle.std.proofs.lemmas.Bool.{false≢true, both_ways}
use Rattle.hy_record.specs.declared.message.MetaAsk.{MetaAsk}
use Rattle.hy_record.specs.declared.message.MetaSay.TheVariants as says
use Rattle.hy_record.specs.declared.action.Action.{Action}
use Rattle.hy_record.specs.declared.action.Action.TheVariants as asked
use Rattle.hy_record.specs.Stamp.{Timestamp}
use Rattle.hy_record.specs.Key.{is_cell}
use Rattle.hy_record.proofs.Order.{stamp_eq-true}
use Rattle.hy_meta.specs.Service.{Attempt, is_expected}
use Rattle.hy_meta.specs.Run.{IsApplied}
use Rattle.hy_meta.proofs.Lasting.{applied-tried}
use Rattle.hy_protocol.specs.Inputs.{addresses}
use Rattle.hy_protocol.specs.Write.{write_reply}
use Rattle.hy_protocol.specs.Operations.{key_of, suits, write_plan, replied}
use Rattle.hy_trace.specs.Deeds.{Params, Deed, Start, served, inputs_of, start_of}
use Rattle.hy_trace.specs.Messages.{Say}
use Rattle.hy_trace.specs.Trace.{IsTrace}
use Rattle.hy_trace.specs.History.{Return, return_of, Begun}
use Rattle.hy_trace.specs.Points.{Point, Update, first_update, is_own, was_applied}
use Rattle.hy_trace.specs.Order.{Mark, is_done, is_done_return}
use Rattle.hy_trace.proofs.Growth.{start-same}
use Rattle.hy_trace.proofs.Heard.{inputs-heard, said-answer, said-verdict}
use Rattle.hy_theorems.specs.Writing.{Change, Puts, Deletes, Swaps, change_value, change_expected, change_action}
use Rattle.hy_theorems.proofs.Writes.{key_of-write, change-same, update-own, SwapReplies, swap-replied}
use Rattle.hy_theorems.specs.Writing.{IsWriting}
use Rattle.hy_record.specs.Record.{RecordValue}
use Rattle.hy_protocol.specs.Write.{own_stamp}
use Rattle.hy_theorems.proofs.Meaning.{IsUpdated, IsSwapped, IsUpdating, WasStamp}
use Rattle.hy_theorems.proofs.Speaking.{applied-top}
use Rattle.hy_theorems.proofs.Invariant.{trace-holds, by-means, start-suits, updating-next, expected-seen}
use Rattle.hy_theorems.proofs.Apart.{replied-write}
use Rattle.hy_theorems.proofs.RealTime.{return-reply}
use Rattle.hy_theorems.proofs.Replies.{done-heard}
use Rattle.hy_theorems.proofs.TopAt.{top_at, first-served, tried-first}
use Rattle.hy_theorems.proofs.Overwritten.{IsWrittenAt, written-at, own-update, own-parts, applied-own, applied-was, first-applied, first-true}
use Rattle.hy_theorems.proofs.Marks.{IsMarkOf, IsWriteMark, mark-writing}

-- where an attempt was applied, the record had its timestamp
pub applied-stamp : (requests : List MetaAsk) (a : Attempt) → IsApplied requests a → WasStamp requests a.key a.rec.stamp
applied-stamp [] a is = absurd is
applied-stamp (ask ∷ before) a (inl is) = record { later = []; before = ask ∷ before; all = refl; is = applied-top ask before a is.0 is.1 }
applied-stamp (ask ∷ before) a (inr was) = (let w = applied-stamp before a was in record { later = ask ∷ w.later; before = w.before; all = ap (λ (x : List MetaAsk). ask ∷ x) w.all; is = w.is })

not-both : (b : Bool) → b ≡ true → not b ≡ true → ⊥
not-both true is other = false≢true other
not-both false is other = false≢true is

-- the update of a write is of its key, and has its timestamp
writing-one : (p : Params) (t : List Deed) (c o : ℕ) (key : List ℕ) (s : Timestamp) (w : IsWriting p c o key s t) (k : List ℕ) (e : Option Timestamp) (r : RecordValue) → IsUpdating p c o k e r t → (k ≡ key) × (r.stamp ≡ s)
writing-one p t c o key s w k e r u =
    let same : u.start ≡ w.start = start-same c o t u.start w.start u.began w.began in
    let action : change_action k u.change ≡ change_action key w.change = sym u.action_is ∙ (ap (λ (x : Start). x.action) same ∙ w.action_is) in
    let key_is : k ≡ key = sym (key_of-write k u.change) ∙ (ap key_of action ∙ key_of-write key w.change) in
    let change_is : u.change ≡ w.change = change-same k key u.change w.change action in
    let stamp : own_stamp (write_plan p.f p.k c o key (change_value w.change)) (inputs_of c o t) ≡ Some r.stamp =
    subst (λ (x : List ℕ). own_stamp (write_plan p.f p.k c o x (change_value w.change)) (inputs_of c o t) ≡ Some r.stamp) key_is (subst (λ (x : Change). own_stamp (write_plan p.f p.k c o k (change_value x)) (inputs_of c o t) ≡ Some r.stamp) change_is (update-own (write_plan p.f p.k c o k (change_value u.change)) (inputs_of c o t) r u.update)) in
    (key_is, same_Some r.stamp s (sym stamp ∙ w.own))

-- what a swap that was applied expected, and wrote
pub record CellWrite (t : List Deed) (key : List ℕ) (m : Mark) (e : Timestamp) : Type 0 where
  pub number : m.stamp.sn ≡ e.sn + 1
  pub seen : WasStamp (served t) key e
  pub was : WasStamp (served t) key m.stamp
  pub step : ℕ
  pub before : top_at t key step ≡ e
  pub cell : is_cell key ≡ true

module _ (p : Params) (t : List Deed) (trace : IsTrace p t) (key : List ℕ) where
  replies-of : (b : Begun) (change : Change) (r : Return) → start_of b.client b.op t ≡ Some b.start → b.start.action ≡ change_action key change → return_of p b.client b.op t ≡ Some r → replied p.f p.k b.client b.op (change_action key change) (inputs_of b.client b.op t) ≡ Some r.reply
  replies-of b change r began action returned =
      let h = return-reply p b.client b.op t r trace returned in
      let same : h.start ≡ b.start = start-same b.client b.op t h.start b.start h.began began in
      ap (λ (a : Action). replied p.f p.k b.client b.op a (inputs_of b.client b.op t)) (sym (ap (λ (s : Start). s.action) same ∙ action)) ∙ h.replies

  -- a swap that replied that it was done was applied
  swap-done-applied : (b : Begun) (e : Timestamp) (v : List ℕ) (r : Return) → start_of b.client b.op t ≡ Some b.start → b.start.action ≡ asked.Swap key e v → return_of p b.client b.op t ≡ Some r → is_done r.reply ≡ true → was_applied (served t) b.client b.op ≡ true
  swap-done-applied b e v r began action returned done =
      by_reply (swap-replied (write_plan p.f p.k b.client b.op key (Some v)) e (inputs_of b.client b.op t) r.reply (sym (replied-write p b.client b.op key (Swaps e v) (inputs_of b.client b.op t)) ∙ replies-of b (Swaps e v) r began action returned))
    where
      by_reply : SwapReplies (write_plan p.f p.k b.client b.op key (Some v)) e (inputs_of b.client b.op t) r.reply → was_applied (served t) b.client b.op ≡ true
      by_reply (inr (inl changed)) = absurd (false≢true (ap is_done changed.reply_is ∙ done))
      by_reply (inr (inr ended)) = absurd (false≢true (ap is_done ended.reply_is ∙ done))
      by_reply (inl a) =
          let h = inputs-heard p b.client b.op a.cue t trace a.input in
          let key_is : key_of h.start.action ≡ key = ap key_of (ap (λ (x : Start). x.action) (start-same b.client b.op t h.start b.start h.began began) ∙ action) in
          let own_key : addresses b.client b.op key a.cue ≡ true = subst (λ (k : List ℕ). addresses b.client b.op k a.cue ≡ true) key_is h.own in
          let heard = said-verdict p t b.client b.op key a.cue a.rec r.reply a.answer own_key h.delivered in
          elim heard.1 [
            | inr changed ↦ absurd (false≢true (ap is_done changed.1 ∙ done))
            | inl swapped ↦
                let s : IsSwapped t b.client b.op key = (trace-holds p t trace).said (Say (says.Swapped b.client b.op key heard.0)) swapped.0 in
                subst (λ (x : ℕ). was_applied (served t) x b.op ≡ true) s.2.0 (subst (λ (x : ℕ). was_applied (served t) s.0.client x ≡ true) s.2.1 (applied-was (served t) s.0 s.1))
          ]

  -- each swap that is listed as a write was applied
  pub swap-applied : (b : Begun) (m : Mark) → (of : IsMarkOf p t trace key b m) → (w : IsWriteMark p t trace key b m) → (e : Timestamp) (v : List ℕ) → w.change ≡ Swaps e v → was_applied (served t) b.client b.op ≡ true
  swap-applied b m of w e v is = by_test (was_applied (served t) b.client b.op) refl (return_of p b.client b.op t) refl w.listed
    where
      by_test : (applied : Bool) → was_applied (served t) b.client b.op ≡ applied → (o : Option Return) → return_of p b.client b.op t ≡ o → (is_done_return o || applied) ≡ true → was_applied (served t) b.client b.op ≡ true
      by_test true applied o returned test = applied
      by_test false applied None returned test = absurd (false≢true test)
      by_test false applied (Some r) returned test = swap-done-applied b e v r of.began (w.action_is ∙ ap (change_action key) is) returned (first-true (is_done r.reply) false refl test)

  own-first : (b : Begun) (a : Attempt) → IsApplied (served t) a → a.client ≡ b.client → a.op ≡ b.op → (u : Update) × (first_update (is_own b.client b.op) t ≡ Some u)
  own-first b a applied client op =
      let u = tried-first a t (applied-tried (served t) a applied) in
      (u.0, subst (λ (x : ℕ). first_update (is_own x b.op) t ≡ Some u.0) client (subst (λ (x : ℕ). first_update (is_own a.client x) t ≡ Some u.0) op u.1))

  -- a write that is listed has a first attempt, which was applied if it expects a timestamp
  pub write-update : (b : Begun) (m : Mark) → (of : IsMarkOf p t trace key b m) → (w : IsWriteMark p t trace key b m) → (u : Update) × (first_update (is_own b.client b.op) t ≡ Some u) × (u.is_applied ≡ false → change_expected w.change ≡ None)
  write-update b m of w = by_test (was_applied (served t) b.client b.op) refl (return_of p b.client b.op t) refl w.listed
    where
      by_put : (change : Change) → b.start.action ≡ change_action key change → (r : Return) → return_of p b.client b.op t ≡ Some r → is_done r.reply ≡ true → write_reply (write_plan p.f p.k b.client b.op key (change_value change)) (inputs_of b.client b.op t) ≡ Some r.reply → (u : Update) × (first_update (is_own b.client b.op) t ≡ Some u)
      by_put change action r returned done replies =
          let heard = done-heard (write_plan p.f p.k b.client b.op key (change_value change)) (inputs_of b.client b.op t) r.reply replies done in
          let i = inputs-heard p b.client b.op heard.0 t trace heard.1 in
          let own : addresses b.client b.op key heard.0 ≡ true = subst (λ (k : List ℕ). addresses b.client b.op k heard.0 ≡ true) (ap (λ (s : Start). key_of s.action) (start-same b.client b.op t i.start b.start i.began of.began) ∙ of.key_is) i.own in
          let said = said-answer p t b.client b.op key heard.0 heard.2 own i.delivered in
          let updated : IsUpdated t b.client b.op key = elim said.1 [ inl applied ↦ (trace-holds p t trace).said (Say (says.Applied b.client b.op key said.0)) applied | inr kept ↦ (trace-holds p t trace).said (Say (says.Kept b.client b.op key said.0)) kept ] in
          let u = tried-first updated.0 t updated.1 in
          (u.0, subst (λ (x : ℕ). first_update (is_own x b.op) t ≡ Some u.0) updated.2.0 (subst (λ (x : ℕ). first_update (is_own updated.0.client x) t ≡ Some u.0) updated.2.1 u.1))

      by_change : (change : Change) → w.change ≡ change → (r : Return) → return_of p b.client b.op t ≡ Some r → is_done r.reply ≡ true → was_applied (served t) b.client b.op ≡ false → (u : Update) × (first_update (is_own b.client b.op) t ≡ Some u) × (u.is_applied ≡ false → change_expected w.change ≡ None)
      by_change (Puts v) is r returned done applied =
          (let action : b.start.action ≡ change_action key (Puts v) = w.action_is ∙ ap (change_action key) is in
          let u = by_put (Puts v) action r returned done (sym (replied-write p b.client b.op key (Puts v) (inputs_of b.client b.op t)) ∙ replies-of b (Puts v) r of.began action returned) in (u.0, u.1, λ refused. ap change_expected is))
      by_change Deletes is r returned done applied =
          (let action : b.start.action ≡ change_action key Deletes = w.action_is ∙ ap (change_action key) is in
          let u = by_put Deletes action r returned done (sym (replied-write p b.client b.op key Deletes (inputs_of b.client b.op t)) ∙ replies-of b Deletes r of.began action returned) in (u.0, u.1, λ refused. ap change_expected is))
      by_change (Swaps e v) is r returned done applied = absurd (both_ways (was_applied (served t) b.client b.op) applied (swap-done-applied b e v r of.began (w.action_is ∙ ap (change_action key) is) returned done))

      by_test : (applied : Bool) → was_applied (served t) b.client b.op ≡ applied → (o : Option Return) → return_of p b.client b.op t ≡ o → (is_done_return o || applied) ≡ true → (u : Update) × (first_update (is_own b.client b.op) t ≡ Some u) × (u.is_applied ≡ false → change_expected w.change ≡ None)
      by_test true applied o returned test =
          let a = applied-own (served t) b.client b.op applied in
          let u = own-first b a.0 a.1 a.2 a.3 in
          (u.0, u.1, λ refused. absurd (both_ways u.0.is_applied refused (first-applied p b.client b.op t u.0 trace u.1 applied)))
      by_test false applied None returned test = absurd (both_ways false refl test)
      by_test false applied (Some r) returned test = by_change w.change refl r returned (first-true (is_done r.reply) false refl test) applied

  pub written : (b : Begun) (m : Mark) → (of : IsMarkOf p t trace key b m) → (w : IsWriteMark p t trace key b m) → IsWrittenAt t key m.stamp m.point
  written b m of w =
      let u = write-update b m of w in
      subst (λ (x : Point). IsWrittenAt t key m.stamp x) (sym w.point_is) (written-at p t trace b.client b.op key m.stamp (mark-writing p t trace key b m of w) u.0 u.1 u.2)

  -- a swap that is listed as a write
  pub cell-write : (b : Begun) (m : Mark) → (of : IsMarkOf p t trace key b m) → (w : IsWriteMark p t trace key b m) → (e : Timestamp) (v : List ℕ) → w.change ≡ Swaps e v → CellWrite t key m e
  cell-write b m of w e v is =
      let applied = swap-applied b m of w e v is in
      let u = write-update b m of w in
      let on = first-applied p b.client b.op t u.0 trace u.1 applied in
      let f = first-served (is_own b.client b.op) t u.0 u.1 in
      let own = own-parts b.client b.op u.0 f.1 in
      let o = own-update p t trace b.client b.op key m.stamp (mark-writing p t trace key b m of w) u.0 u.1 in
      let a = f.0.attempt in
      let expects : a.expected ≡ Some e = o.2 ∙ ap change_expected is in
      let meant : IsUpdating p b.client b.op u.0.key a.expected a.rec t = by-means p t a b.client b.op u.0.key trace (trace-holds p t trace) f.0.tried (f.0.by.0 ∙ own.0, f.0.by.1 ∙ own.1, f.0.by.2) in
      let mine : IsUpdating p b.client b.op key (Some e) a.rec t = subst (λ (k : List ℕ). IsUpdating p b.client b.op k (Some e) a.rec t) o.0 (subst (λ (x : Option Timestamp). IsUpdating p b.client b.op u.0.key x a.rec t) expects meant) in
      let cell : is_cell key ≡ true = sym (ap suits (w.action_is ∙ ap (change_action key) is)) ∙ start-suits p b.client b.op t b.start trace of.began in
      let next = updating-next p t trace (trace-holds p t trace) b.client b.op key (Some e) a.rec cell mine in
      let stamp : a.rec.stamp ≡ m.stamp = f.0.stamp_is ∙ o.1 in
      let same = ap (λ (x : Timestamp). x.sn) (same_Some e next.0 next.1) in
      let sn = ap (λ (x : Timestamp). x.sn) stamp in
      let raised = next.2 in
      let some = f.0.some in
      let own_ = applied-own (served t) b.client b.op applied in
      record {
        number = omega (arith, sn, raised, same);
        seen = expected-seen p t trace (trace-holds p t trace) b.client b.op key e a.rec mine;
        was = was_stamp own_.0 own_.1 own_.2 own_.3;
        step = u.0.step - 1;
        before = found u.0 (subst (λ (x : Option Timestamp). is_expected x (top_at t u.0.key (u.0.step - 1)) ≡ true) expects (f.0.met on (u.0.step - 1) (omega (arith, some)))) o.0;
        cell = cell;
      }
    where
      found : (u : Update) → is_expected (Some e) (top_at t u.key (u.step - 1)) ≡ true → u.key ≡ key → top_at t key (u.step - 1) ≡ e
      found u met key_is = ap (λ (k : List ℕ). top_at t k (u.step - 1)) (sym key_is) ∙ stamp_eq-true (top_at t u.key (u.step - 1)) e met

      was_stamp : (x : Attempt) → IsApplied (served t) x → x.client ≡ b.client → x.op ≡ b.op → WasStamp (served t) key m.stamp
      was_stamp x x_applied client op =
          let meant : IsUpdating p b.client b.op x.key x.expected x.rec t = by-means p t x b.client b.op x.key trace (trace-holds p t trace) (applied-tried (served t) x x_applied) (client, op, refl) in
          let one = writing-one p t b.client b.op key m.stamp (mark-writing p t trace key b m of w) x.key x.expected x.rec meant in
          subst (λ (k : List ℕ). WasStamp (served t) k m.stamp) one.0 (subst (λ (y : Timestamp). WasStamp (served t) x.key y) one.1 (applied-stamp (served t) x x_applied))

  -- on a cell key each write is a swap
  pub cell-change : (b : Begun) (change : Change) → is_cell key ≡ true → start_of b.client b.op t ≡ Some b.start → b.start.action ≡ change_action key change → (e : Timestamp) × (v : List ℕ) × (change ≡ Swaps e v)
  cell-change b (Swaps e v) cell began action = (e, v, refl)
  cell-change b (Puts v) cell began action = absurd (not-both (is_cell key) cell (sym (ap suits action) ∙ start-suits p b.client b.op t b.start trace began))
  cell-change b Deletes cell began action = absurd (not-both (is_cell key) cell (sym (ap suits action) ∙ start-suits p b.client b.op t b.start trace began))
