-- What returned before another operation of its key began has no greater timestamp, and a smaller one where the other writes.
use Rattle.std.proofs.Common.{◌≡◌, ℕ, ◌+◌, ◌≤◌, List, [], ◌∷◌, length, Option, Some, None, refl, sym, ap, subst, ◌∙◌, inl, inr, arith}
use Rattle.std.specs.Option.{option_map}
use Rattle.std.proofs.lemmas.Option.{none-some, same_Some, cond_some}
use Rattle.hy_record.specs.declared.action.Reply.{Reply}
use Rattle.hy_record.specs.declared.action.Reply.TheVariants as told
use Rattle.hy_record.specs.Stamp.{Timestamp}
use Rattle.hy_record.specs.Record.{RecordValue}
use Rattle.hy_meta.specs.Service.{stamp_of_record}
use Rattle.hy_meta.proofs.Rising.{cases_bool}
use Rattle.hy_record.specs.declared.turn.Cue.{Cue}
use Rattle.hy_protocol.specs.Read.{Version, version_of, answer_for, answer_of, read_reply}
use Rattle.hy_record.specs.Record.{is_tombstone}
use Rattle.hy_trace.specs.Deeds.{Params, Deed, Start, inputs_of, start_of, start_at, reply_of}
use Rattle.hy_protocol.specs.Operations.{key_of}
use Rattle.hy_trace.specs.Trace.{IsTrace}
pub use Rattle.hy_trace.specs.History.{Return, return_of}
use Rattle.hy_trace.proofs.Growth.{Le, top, or-cases, start-now, start-same}
use Rattle.hy_trace.proofs.Heard.{IsInput, version-told, inputs-heard}
use Rattle.hy_theorems.proofs.Meaning.{IsReading}
use Rattle.hy_theorems.proofs.Invariant.{IsCovered, trace-holds, told-reading}
use Rattle.hy_theorems.proofs.Apart.{start-trace, start-lasts}
use Rattle.hy_trace.proofs.Steps.{HasReplied, has-replied, has-keeps}
use Rattle.hy_theorems.proofs.Told.{read-answered}

pub returned-within : (p : Params) (c o : ℕ) (t : List Deed) (r : Return) → return_of p c o t ≡ Some r → r.at ≤ length t
unfolding return_of
returned-within p c o [] r is = absurd (none-some r is)
returned-within p c o (d ∷ t) r is =
    elim (or-cases (return_of p c o t) _ r is) [
      | inl was ↦ let le = returned-within p c o t r was in omega (arith, le)
      | inr now ↦ by_reply (reply_of p c o (d ∷ t)) now.1
    ]
  where
    by_reply : (o : Option Reply) → option_map (λ reply. record { at = length t + 1; reply = reply }) o ≡ Some r → r.at ≤ length (d ∷ t)
    by_reply None e = absurd (none-some r e)
    by_reply (Some reply) e = let at_is = ap (λ (x : Return). x.at) (same_Some (record { at = length t + 1; reply = reply }) r e) in omega (arith, at_is)

pub shorter : (c o : ℕ) (t : List Deed) (s : Start) → start_of c o t ≡ Some s → length s.before ≤ length t
unfolding start_of
shorter c o [] s is = absurd (none-some s is)
shorter c o (d ∷ t) s is =
    elim (or-cases (start_of c o t) (start_at c o d t) s is) [
      | inl was ↦ let le = shorter c o t s was in omega (arith, le)
      | inr now ↦ let same = ap (λ (x : List Deed). length x) (start-now c o d t s now.1) in omega (arith, same)
    ]

-- an operation that returned before another began had replied then
pub returned-early : (p : Params) (c o b n : ℕ) (t : List Deed) (s : Start) (r : Return) → start_of c o t ≡ Some s → return_of p b n t ≡ Some r → r.at ≤ length s.before → return_of p b n s.before ≡ Some r
unfolding return_of start_of
returned-early p c o b n [] s r began returned early = absurd (none-some s began)
returned-early p c o b n (d ∷ t) s r began returned early =
    elim (or-cases (start_of c o t) (start_at c o d t) s began) [
      | inl was ↦ elim (or-cases (return_of p b n t) _ r returned) [
        | inl before ↦ returned-early p c o b n t s r was before early
        | inr now ↦ absurd (late (reply_of p b n (d ∷ t)) now.1 (shorter c o t s was))
      ]
      | inr now ↦ elim (or-cases (return_of p b n t) _ r returned) [
        | inl before ↦ ap (return_of p b n) (start-now c o d t s now.1) ∙ before
        | inr too ↦ absurd (late (reply_of p b n (d ∷ t)) too.1 (let same = ap (λ (x : List Deed). length x) (start-now c o d t s now.1) in omega (arith, same)))
      ]
    ]
  where
    late : (o : Option Reply) → option_map (λ reply. record { at = length t + 1; reply = reply }) o ≡ Some r → length s.before ≤ length t → ⊥
    late None e le = none-some r e
    late (Some reply) e le = let at_is = ap (λ (x : Return). x.at) (same_Some (record { at = length t + 1; reply = reply }) r e) in omega (arith, at_is, le, early)

-- a return is that of the operation's reply
pub return-reply : (p : Params) (c o : ℕ) (t : List Deed) (r : Return) → IsTrace p t → return_of p c o t ≡ Some r → HasReplied p c o r.reply t
unfolding return_of IsTrace
return-reply p c o [] r trace is = absurd (none-some r is)
return-reply p c o (d ∷ t) r trace is =
    elim (or-cases (return_of p c o t) _ r is) [
      | inl was ↦ has-keeps p c o d t r.reply trace.0 (return-reply p c o t r trace.1 was)
      | inr now ↦ by_reply (reply_of p c o (d ∷ t)) refl now.1
    ]
  where
    by_reply : (q : Option Reply) → reply_of p c o (d ∷ t) ≡ q → option_map (λ reply. record { at = length t + 1; reply = reply }) q ≡ Some r → HasReplied p c o r.reply (d ∷ t)
    by_reply None reply_is e = absurd (none-some r e)
    by_reply (Some reply) reply_is e = has-replied p c o (d ∷ t) r.reply (reply_is ∙ ap Some (ap (λ (x : Return). x.reply) (same_Some (record { at = length t + 1; reply = reply }) r e)))

-- the timestamp of a finished operation's reply
abbrev pub stamp_of_reply : Reply → Timestamp
stamp_of_reply (told.Done s) = s
stamp_of_reply (told.Value v s) = s
stamp_of_reply (told.Absent s) = s
stamp_of_reply (told.Exhausted s) = s
stamp_of_reply (told.Collected n) = record { sn = 0; cid = 0 }
stamp_of_reply (told.Swapped s) = s
stamp_of_reply (told.Changed s) = s

pub answer-stamp : (r : Option RecordValue) (since : List Cue) (reply : Reply) → answer_for r since ≡ Some reply → stamp_of_reply reply ≡ stamp_of_record r
unfolding answer_for
answer-stamp None since reply is = ap stamp_of_reply (sym (same_Some (told.Absent (record { sn = 0; cid = 0 })) reply is))
answer-stamp (Some r) since reply is =
    elim (cases_bool (is_tombstone r.kind)) [
      | inl tomb ↦ ap stamp_of_reply (sym (same_Some (told.Absent r.stamp) reply (rw tomb at is)))
      | inr value ↦ ap stamp_of_reply (sym (cond_some _ (told.Value _ r.stamp) reply (rw value at is)).1)
    ]

-- a read's timestamp is not below what the record was when it began
pub read-above : (p : Params) (t : List Deed) (c o : ℕ) (s : Start) (reply : Reply) → IsTrace p t → start_of c o t ≡ Some s → read_reply (inputs_of c o t) ≡ Some reply → Le (top s.before (key_of s.action)) (stamp_of_reply reply)
read-above p t c o s reply trace began is =
    let a = read-answered (inputs_of c o t) reply is in
    by_version a.front a.within (version_of a.front) refl a.answer
  where
    by_version : (front : List Cue) → ((cue : Cue) → IsInput front cue → IsInput (inputs_of c o t) cue) → (v : Option Version) → version_of front ≡ v → answer_of v ≡ Some reply → Le (top s.before (key_of s.action)) (stamp_of_reply reply)
    by_version front within None v_is answer = absurd (none-some reply answer)
    by_version front within (Some v) v_is answer =
        let b = version-told front v v_is in
        let h = inputs-heard p c o b.cue t trace (within b.cue b.input) in
        let same = start-same c o t h.start s h.began began in
        let own = ap (λ (x : Start). key_of x.action) same in
        let reading : IsReading c o (key_of s.action) v.rec t = subst (λ (k : List ℕ). IsReading c o k v.rec t) own (told-reading p t c o (key_of h.start.action) b.cue v.rec (trace-holds p t trace) b.tells h.own h.delivered) in
        let above = subst (λ (x : Start). Le (top x.before (key_of s.action)) (stamp_of_record v.rec)) (start-same c o t reading.start s reading.began began) reading.above in
        subst (λ (x : Timestamp). Le (top s.before (key_of s.action)) x) (sym (answer-stamp v.rec v.since reply answer)) above

-- what an operation replied before another began is not above what the record was then
pub returned-below : (p : Params) (t : List Deed) (c o b n : ℕ) (s u : Start) (r : Return) → IsTrace p t → start_of c o t ≡ Some s → start_of b n t ≡ Some u → return_of p b n t ≡ Some r → r.at ≤ length s.before → IsCovered r.reply (top s.before (key_of u.action))
returned-below p t c o b n s u r trace began other returned early =
    let before = (start-trace p c o t s trace began).0 in
    let h = return-reply p b n s.before r before (returned-early p c o b n t s r began returned early) in
    let same : h.start ≡ u = start-same b n t h.start u (start-lasts c o b n t s h.start began h.began) other in
    subst (λ (x : Start). IsCovered r.reply (top s.before (key_of x.action))) same ((trace-holds p s.before before).done b n h.start r.reply h.began h.replies)
