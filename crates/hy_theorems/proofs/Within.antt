-- The point of a listed operation lies within it.
use Rattle.std.proofs.Common.{◌≡◌, ℕ, ◌+◌, ◌≤◌, ◌<◌, Bool, true, false, List, [], ◌∷◌, length, Option, Some, None, refl, sym, ap, subst, ◌∙◌, inl, inr, arith}
use Rattle.std.specs.Prelude.{nat_le}
use Rattle.std.specs.Option.{option_map}
use Rattle.std.specs.List.{AllByRecursion}
use Rattle.std.proofs.lemmas.Option.{none-some, same_Some}
use Rattle.std.proofs.lemmas.Bool.{both_ways, leb-true, leb-false}
use Rattle.hy_record.specs.declared.action.Reply.{Reply}
use Rattle.hy_record.specs.Stamp.{Timestamp, stamp_lt}
use Rattle.hy_record.proofs.Order.{stamp_le-lt, stamp_lt-same, stamp_lt-trans}
use Rattle.hy_meta.proofs.Rising.{cases_bool}
use Rattle.hy_protocol.specs.Operations.{key_of}
use Rattle.hy_protocol.specs.Progress.{progress_of}
use Rattle.hy_order.specs.declared.operation.Operation.{Operation}
use Rattle.hy_trace.specs.Deeds.{Params, Deed, Start, start_of, reply_of, inputs_of}
use Rattle.hy_trace.specs.Trace.{IsTrace}
use Rattle.hy_trace.specs.History.{Return, return_of, Begun, begun_of, end_of}
use Rattle.hy_trace.specs.Order.{Mark, mark_of, marks_of}
use Rattle.hy_trace.proofs.Growth.{Le, top, or-cases, start-keeps}
use Rattle.hy_trace.proofs.Steps.{has-replied}
use Rattle.hy_theorems.specs.Within.{ReturnsFrom, IsWithin}
use Rattle.hy_theorems.proofs.Invariant.{IsCovered, trace-holds}
use Rattle.hy_theorems.proofs.Apart.{own-above}
use Rattle.hy_theorems.proofs.RealTime.{return-reply, returned-within}
use Rattle.hy_theorems.proofs.Beginnings.{begun-are}
use Rattle.hy_theorems.proofs.Verdicts.{at-start}
use Rattle.hy_theorems.proofs.Marks.{IsWriteMark, IsMarkOf, mark-is, mark-writing, mark-covered}
use Rattle.hy_theorems.proofs.Linear.{picked}
use Rattle.hy_theorems.proofs.TopAt.{top_at, at-end, at-earlier, at-rises}
use Rattle.hy_theorems.proofs.Overwritten.{IsWrittenAt}
use Rattle.hy_theorems.proofs.Cells.{written}

-- at the step of a return the record is not below what was replied
at-return : (p : Params) (c o : ℕ) (t : List Deed) (s : Start) (r : Return) → IsTrace p t → start_of c o t ≡ Some s → return_of p c o t ≡ Some r → IsCovered r.reply (top_at t (key_of s.action) r.at)
unfolding IsTrace return_of
at-return p c o [] s r trace began returned = absurd (none-some r returned)
at-return p c o (d ∷ t) s r trace began returned =
    elim (or-cases (return_of p c o t) (option_map (λ reply. record { at = length t + 1; reply = reply }) (reply_of p c o (d ∷ t))) r returned) [
      | inl was ↦
          let h = return-reply p c o t r trace.1 was in
          let same : h.start ≡ s = same_Some h.start s (sym (start-keeps c o d t h.start h.began) ∙ began) in
          let before = at-return p c o t h.start r trace.1 h.began was in
          subst (λ (x : Timestamp). IsCovered r.reply x) (sym (at-earlier d t (key_of s.action) r.at (returned-within p c o t r was))) (subst (λ (x : Start). IsCovered r.reply (top_at t (key_of x.action) r.at)) same before)
      | inr now ↦ by_reply (reply_of p c o (d ∷ t)) refl now.1
    ]
  where
    by_reply : (q : Option Reply) → reply_of p c o (d ∷ t) ≡ q → option_map (λ reply. record { at = length t + 1; reply = reply }) q ≡ Some r → IsCovered r.reply (top_at (d ∷ t) (key_of s.action) r.at)
    by_reply None reply_is e = absurd (none-some r e)
    by_reply (Some reply) reply_is e =
        let same = same_Some (record { at = length t + 1; reply = reply }) r e in
        let at = ap (λ (x : Return). x.at) same in
        let h = has-replied p c o (d ∷ t) reply reply_is in
        let start_is : h.start ≡ s = same_Some h.start s (sym h.began ∙ began) in
        let covered : IsCovered reply (top (d ∷ t) (key_of s.action)) = subst (λ (x : Start). IsCovered reply (top (d ∷ t) (key_of x.action))) start_is ((trace-holds p (d ∷ t) trace).done c o h.start reply h.began h.replies) in
        subst (λ (x : Timestamp). IsCovered r.reply x) (sym (at-end (d ∷ t) (key_of s.action) r.at (omega (arith, at)))) (subst (λ (x : Reply). IsCovered x (top (d ∷ t) (key_of s.action))) (ap (λ (x : Return). x.reply) same) covered)

module _ (p : Params) (t : List Deed) (trace : IsTrace p t) (key : List ℕ) where
  -- a write stands after its invocation
  written-after : (b : Begun) (m : Mark) → (of : IsMarkOf p t trace key b m) → (w : IsWriteMark p t trace key b m) → IsWrittenAt t key m.stamp m.point → length b.start.before + 1 < m.point.step
  written-after b m of w at =
      elim (cases_bool (nat_le m.point.step (length b.start.before + 1))) [
        | inr later ↦ leb-false m.point.step (length b.start.before + 1) later
        | inl early ↦
            let low : stamp_lt (top_at t key (length b.start.before + 1)) m.stamp ≡ true = ap (λ (x : Timestamp). stamp_lt x m.stamp) (at-start b.client b.op t b.start key of.began).1 ∙ (own-above p t b.client b.op key m.stamp trace (mark-writing p t trace key b m of w)).0 in
            let under : stamp_lt (top_at t key m.point.step) m.stamp ≡ true = stamp_le-lt (top_at t key m.point.step) (top_at t key (length b.start.before + 1)) m.stamp (at-rises t key m.point.step (length b.start.before + 1) (leb-true m.point.step (length b.start.before + 1) early)) low in
            absurd (by_side m.point.is_just_before refl under)
      ]
    where
      by_side : (side : Bool) → m.point.is_just_before ≡ side → stamp_lt (top_at t key m.point.step) m.stamp ≡ true → ⊥
      by_side false is under = both_ways (stamp_lt m.stamp m.stamp) (stamp_lt-same m.stamp) (ap (λ (x : Timestamp). stamp_lt x m.stamp) (sym (at.here is)) ∙ under)
      by_side true is under = both_ways (stamp_lt m.stamp m.stamp) (stamp_lt-same m.stamp) (stamp_lt-trans m.stamp (top_at t key m.point.step) m.stamp (at.past is) under)

  -- and not after its return
  written-returned : (b : Begun) (m : Mark) (r : Return) → (of : IsMarkOf p t trace key b m) → (w : IsWriteMark p t trace key b m) → IsWrittenAt t key m.stamp m.point → return_of p b.client b.op t ≡ Some r → m.point.step ≤ r.at
  written-returned b m r of w at returned =
      elim (cases_bool (nat_le m.point.step r.at)) [
        | inl within ↦ leb-true m.point.step r.at within
        | inr late ↦
            let covered : IsCovered r.reply (top_at t key r.at) = subst (λ (k : List ℕ). IsCovered r.reply (top_at t k r.at)) of.key_is (at-return p b.client b.op t b.start r trace of.began returned) in
            let above : Le m.stamp (top_at t key r.at) = mark-covered p t trace key b m r (top_at t key r.at) of returned covered in
            absurd (both_ways (stamp_lt (top_at t key r.at) m.stamp) above (at.below r.at (leb-false m.point.step r.at late)))
      ]

  -- an operation returns at the step of this point, or later, where each return does
  end-from : (b : Begun) (m : Mark) → IsMarkOf p t trace key b m → ((r : Return) → return_of p b.client b.op t ≡ Some r → m.point.step ≤ r.at) → ReturnsFrom m.point.step m.op.end
  end-from b m of from = subst (λ (x : Operation). ReturnsFrom m.point.step x.end) (sym of.op_is) (ends (return_of p b.client b.op t) refl)
    where
      ends : (o : Option Return) → return_of p b.client b.op t ≡ o → ReturnsFrom m.point.step (end_of o (progress_of p.f p.k b.client b.op b.start.action (inputs_of b.client b.op t)))
      ends None is = tt
      ends (Some r) is = from r is

  within : (b : Begun) (m : Mark) → IsMarkOf p t trace key b m → IsWithin m
  within b m of =
      let invoked = ap (λ (x : Operation). x.invoked) of.op_is in
      elim of.sort [
        | inl write ↦
            let at = written p t trace key b m of write in
            let after = written-after b m of write at in
            record {
              invoked = omega (arith, invoked, after);
              later = λ is. omega (arith, invoked, after);
              returned = end-from b m of (λ r returned. written-returned b m r of write at returned);
            }
        | inr read ↦
            let after = read.late in
            let before = read.early in
            record {
              invoked = omega (arith, invoked, after);
              later = λ is. absurd (both_ways m.point.is_just_before read.side is);
              returned = end-from b m of (λ r returned. (let same = ap (λ (x : Return). x.at) (same_Some read.ret r (sym read.returned ∙ returned)) in omega (arith, before, same)));
            }
      ]

  -- each listed operation of the key stands within itself
  pub all-within : AllByRecursion IsWithin (marks_of p t key)
  all-within = picked (mark_of p t key) (λ b. start_of b.client b.op t ≡ Some b.start) IsWithin (begun_of t) (λ b m began is. within b m (mark-is p t trace key b m began is)) (begun-are p t trace).0
