-- The order of a key's operations is a linearization of it, in the words of histories.
use Rattle.std.proofs.Common.{◌≡◌, ℕ, ◌+◌, ◌≤◌, ◌<◌, true, List, [], ◌∷◌, ◌++◌, length, map, reverse, Option, Some, None, refl, sym, ap, subst, ◌∙◌, inl, inr, arith}
use Rattle.std.specs.Prelude.{◌&&◌, nat_eq, Contains, IsTrue}
use Rattle.std.specs.List.{AllByRecursion, IsDistinct, filter_map, cons_option}
use Rattle.std.proofs.lemmas.Bool.{false≢true}
use Rattle.std.proofs.lemmas.List.{length-map, length-reverse, map-append}
use Rattle.std.proofs.lemmas.Slice.Eq.{bytes_eq-Decides}
use Rattle.hy_record.specs.declared.action.Action.{Action}
use Rattle.hy_record.specs.declared.action.Action.TheVariants as asked
use Rattle.hy_record.specs.declared.action.Reply.{Reply}
use Rattle.hy_record.specs.declared.action.Reply.TheVariants as told
use Rattle.hy_base.specs.Shape.{IsShape}
use Rattle.hy_record.specs.Key.{key_eq}
use Rattle.hy_record.proofs.Order.{key_eq-same}
use Rattle.hy_meta.proofs.Rising.{both}
use Rattle.hy_order.specs.declared.operation.Operation.{Operation}
use Rattle.hy_order.specs.History.{key_of_action, is_end_of, is_reply_of, IsNumberedFrom, IsHistory}
use Rattle.hy_order.specs.Linearization.{is_of_key, is_finished, is_finished_reply, is_write, may_be_listed, operation_at, listed, IsMember, IsLinearization, RespectsRealTime, ReadsRegister}
use Rattle.hy_protocol.specs.Write.{write_reply}
use Rattle.hy_trace.specs.Deeds.{Params, Deed, Joined, Began, Handed, Served, Granted, Stopped, Nothing, Start, inputs_of, start_of}
use Rattle.hy_protocol.specs.Operations.{key_of, suits, write_plan, replied}
use Rattle.hy_trace.specs.Trace.{IsTrace}
use Rattle.hy_theorems.specs.Writing.{Change, Puts, Deletes, Swaps, change_value, change_expected, change_action}
use Rattle.hy_theorems.proofs.Writes.{update-own, SwapReplies, swap-replied}
use Rattle.hy_theorems.proofs.Invariant.{start-suits}
use Rattle.hy_record.specs.Stamp.{Timestamp}
use Rattle.hy_record.specs.declared.turn.Cue.{Cue}
use Rattle.hy_protocol.specs.declared.plan.PutPlan.{PutPlan}
use Rattle.hy_protocol.specs.Swap.{swap_reply}
use Rattle.hy_order.specs.Linearization.{no_register}
use Rattle.hy_order.specs.History.{is_own_key}
use Rattle.std.proofs.lemmas.Option.{none-some}
use Rattle.std.specs.Prelude.{◌⊎◌}
use Rattle.hy_trace.specs.Points.{write_point, changed_point}
use Rattle.hy_trace.specs.Order.{Mark, is_behind, sorted_marks, is_done, is_done_return, write_mark, reply_mark, read_mark, changed_reply_mark, changed_mark, mark_by, mark_of, marks_of, op_of, number_of, linearization_of}
use Rattle.hy_protocol.specs.Progress.{progress_of}
use Rattle.hy_trace.specs.History.{Return, return_of, Begun, begun_of, end_of, operation_of, history_of}
use Rattle.hy_trace.proofs.Growth.{start-same}
use Rattle.hy_theorems.proofs.RealTime.{return-reply}
use Rattle.hy_theorems.proofs.Apart.{change_reply, replied-write}
use Rattle.hy_theorems.proofs.Values.{IsCollisionFree}
use Rattle.hy_theorems.proofs.Told.{ArePutBytes}
use Rattle.hy_theorems.proofs.Beginnings.{begun-are, IsAmongBegun, begun-in}
use Rattle.hy_theorems.proofs.Marks.{IsMarkOf, IsWriteMark, IsReadMark, IsGetMark, IsChangedMark, mark-is, mark-replied}
use Rattle.hy_theorems.proofs.Linear.{sorted-are, real-time, reads-register}
use Rattle.hy_theorems.proofs.Placed.{orders-same}
use Rattle.hy_theorems.proofs.Replies.{is_read_reply, write-replies, reply-fits, phase-fits}
use Rattle.hy_theorems.proofs.Listing.{IsIn, in-contains, in-map, in-reverse, all-reverse, all-over, reverse-more, numbered-more, found-numbered, listed-all, in-picked, in-sorted, IsOther, AreOther, other-sorted, other-distinct}

-- each operation has the number of those before it, and one
abbrev pub AreNumbered : List Begun → Type 0
AreNumbered [] = Unit {0}
AreNumbered (b ∷ ops) = (length (begun_of b.start.before) ≡ length ops) × AreNumbered ops

begun-numbered : (t : List Deed) → AreNumbered (begun_of t)
unfolding begun_of
begun-numbered [] = tt
begun-numbered (Began c o a ∷ t) = (refl, begun-numbered t)
begun-numbered (Joined ∷ t) = begun-numbered t
begun-numbered (Handed c o w cue ∷ t) = begun-numbered t
begun-numbered (Served ask ∷ t) = begun-numbered t
begun-numbered (Granted ask ∷ t) = begun-numbered t
begun-numbered (Stopped c ∷ t) = begun-numbered t
begun-numbered (Nothing ∷ t) = begun-numbered t

numbered-from : (p : Params) (t : List Deed) (ops : List Begun) → AreNumbered ops → IsNumberedFrom 1 (map (operation_of p t) (reverse ops))
numbered-from p t [] numbered = tt
numbered-from p t (b ∷ ops) numbered =
    let joined : map (operation_of p t) (reverse (b ∷ ops)) ≡ map (operation_of p t) (reverse ops) ++ operation_of p t b ∷ [] = ap (map (operation_of p t)) (reverse-more b ops) ∙ map-append (operation_of p t) (reverse ops) (b ∷ []) in
    let count : length (map (operation_of p t) (reverse ops)) ≡ length ops = length-map (reverse ops) (operation_of p t) ∙ length-reverse ops in
    let here = numbered.0 in
    subst (IsNumberedFrom 1) (sym joined) (numbered-more 1 (map (operation_of p t) (reverse ops)) (operation_of p t b) (numbered-from p t ops numbered.1) (omega (arith, count, here)))

history-numbered : (p : Params) (t : List Deed) → IsNumberedFrom 1 (history_of p t)
unfolding history_of
history-numbered p t = numbered-from p t (begun_of t) (begun-numbered t)

among-in : (ops : List Begun) (b : Begun) → IsAmongBegun ops b → IsIn ops b
among-in [] b is = is
among-in (first ∷ others) b (inl is) = inl is
among-in (first ∷ others) b (inr later) = inr (among-in others b later)

history-in : (p : Params) (t : List Deed) (b : Begun) → start_of b.client b.op t ≡ Some b.start → IsIn (history_of p t) (operation_of p t b)
unfolding history_of
history-in p t b began = in-map (operation_of p t) (reverse (begun_of t)) b (in-reverse (begun_of t) b (among-in (begun_of t) b (begun-in b.client b.op t b.start began)))

history-finds : (p : Params) (t : List Deed) (b : Begun) → start_of b.client b.op t ≡ Some b.start → operation_at (history_of p t) (operation_of p t b).number ≡ Some (operation_of p t b)
history-finds p t b began = found-numbered 1 (history_of p t) (operation_of p t b) (history-numbered p t) (history-in p t b began)

-- what holds of each operation that began
history-all : (P : Operation → Type 0) (p : Params) (t : List Deed) → IsTrace p t → ((b : Begun) → start_of b.client b.op t ≡ Some b.start → P (operation_of p t b)) → AllByRecursion P (history_of p t)
unfolding history_of
history-all P p t trace each =
    all-over P (operation_of p t) (reverse (begun_of t)) (all-reverse (λ b. P (operation_of p t b)) (begun_of t) (weaker (begun_of t) (begun-are p t trace).0))
  where
    weaker : (ops : List Begun) → AllByRecursion (λ b. start_of b.client b.op t ≡ Some b.start) ops → AllByRecursion (λ b. P (operation_of p t b)) ops
    weaker [] all = tt
    weaker (b ∷ ops) all = (each b all.0, weaker ops all.1)

key-same : (a : Action) → key_of_action a ≡ key_of a
key-same (asked.Put key v) = refl
key-same (asked.Get key) = refl
key-same (asked.Delete key) = refl
key-same (asked.Collect key) = refl
key-same (asked.Swap key e v) = refl

write-is : (key : List ℕ) (change : Change) → is_write (change_action key change) ≡ true
write-is key (Puts v) = refl
write-is key Deletes = refl
write-is key (Swaps e v) = refl

own-key : (a : Action) → suits a ≡ true → is_own_key a ≡ true
own-key (asked.Put key v) is = is
own-key (asked.Delete key) is = is
own-key (asked.Swap key e v) is = is
own-key (asked.Get key) is = refl
own-key (asked.Collect key) is = refl

read-finished : (reply : Reply) → is_read_reply reply ≡ true → is_finished_reply reply ≡ true
read-finished (told.Value v s) is = refl
read-finished (told.Absent s) is = refl
read-finished (told.Done s) is = refl
read-finished (told.Exhausted s) is = is
read-finished (told.Collected n) is = is
read-finished (told.Swapped s) is = refl
read-finished (told.Changed s) is = refl

-- what an operation replied, by its history
history-replies : (p : Params) (t : List Deed) (b : Begun) (r : Return) → IsTrace p t → start_of b.client b.op t ≡ Some b.start → return_of p b.client b.op t ≡ Some r → replied p.f p.k b.client b.op b.start.action (inputs_of b.client b.op t) ≡ Some r.reply
history-replies p t b r trace began returned =
    let h = return-reply p b.client b.op t r trace returned in
    let same : h.start ≡ b.start = start-same b.client b.op t h.start b.start h.began began in
    ap (λ (s : Start). replied p.f p.k b.client b.op s.action (inputs_of b.client b.op t)) (sym same) ∙ h.replies

-- the operations of a trace are a history
pub is-history : (p : Params) (t : List Deed) → IsTrace p t → IsHistory (history_of p t)
is-history p t trace = record {
  numbered = history-numbered p t;
  keys = history-all (λ op. IsTrue (is_own_key op.action)) p t trace (λ b began. own-key b.start.action (start-suits p b.client b.op t b.start trace began));
  ends = history-all (λ op. IsTrue (is_end_of op.action op.end)) p t trace (λ b began. by_return b began (return_of p b.client b.op t) refl);
}
  where
    by_return : (b : Begun) → start_of b.client b.op t ≡ Some b.start → (o : Option Return) → return_of p b.client b.op t ≡ o → IsTrue (is_end_of b.start.action (end_of o (progress_of p.f p.k b.client b.op b.start.action (inputs_of b.client b.op t))))
    by_return b began None is = phase-fits p b.client b.op b.start.action (inputs_of b.client b.op t)
    by_return b began (Some r) is = reply-fits p b.client b.op b.start.action (inputs_of b.client b.op t) r.reply (history-replies p t b r trace began is)

module _ (p : Params) (t : List Deed) (trace : IsTrace p t) (key : List ℕ) where
  abbrev pub IsOf : Begun → Mark → Type 0
  IsOf b m = IsMarkOf p t trace key b m

  abbrev pub Is : Mark → Type 0
  Is m = (b : Begun) × IsOf b m

  abbrev pub marks : List Mark
  marks = marks_of p t key

  -- each is of an operation that an order of the key may list
  of-key : (b : Begun) → key_of b.start.action ≡ key → IsTrue (is_of_key key (operation_of p t b))
  of-key b is = (bytes_eq-Decides (key_of_action b.start.action) key).1 (key-same b.start.action ∙ is)

  write-listed : (b : Begun) (m : Mark) → IsOf b m → IsWriteMark p t trace key b m → (o : Option Return) → return_of p b.client b.op t ≡ o → IsTrue (may_be_listed b.start.action (end_of o (progress_of p.f p.k b.client b.op b.start.action (inputs_of b.client b.op t))))
  write-listed b m of w None is = ap is_write w.action_is ∙ write-is key w.change
  write-listed b m of w (Some r) is =
      elim (mark-replied p t trace key b m r of w is) [
        | inl done ↦ ap is_finished_reply (sym done)
        | inr swapped ↦ ap is_finished_reply (sym swapped)
      ]

  kind-finished : (b : Begun) (m : Mark) (read : IsReadMark p t trace key b m) → IsGetMark p t trace key b m read.ret ⊎ IsChangedMark p t trace key b m read.ret → is_finished_reply read.ret.reply ≡ true
  kind-finished b m read (inl get) = read-finished read.ret.reply get.finished
  kind-finished b m read (inr changed) = ap is_finished_reply changed.reply_is

  member : (m : Mark) → Is m → IsMember (history_of p t) key m.op.number
  member m mark =
      let b = mark.0 in
      let of = mark.1 in
      let listed_ : IsTrue (may_be_listed b.start.action (end_of (return_of p b.client b.op t) (progress_of p.f p.k b.client b.op b.start.action (inputs_of b.client b.op t)))) =
      elim of.sort [
        | inl write ↦ write-listed b m of write (return_of p b.client b.op t) refl
        | inr read ↦ ap (λ (o : Option Return). may_be_listed b.start.action (end_of o (progress_of p.f p.k b.client b.op b.start.action (inputs_of b.client b.op t)))) read.returned ∙ kind-finished b m read read.kind
      ] in
      subst (λ (x : Operation). IsMember (history_of p t) key x.number) (sym of.op_is) (operation_of p t b, history-finds p t b of.began, of-key b of.key_is, listed_)

  members-are : (ms : List Mark) → AllByRecursion Is ms → AllByRecursion (IsMember (history_of p t) key) (map number_of (map op_of ms))
  members-are [] all = tt
  members-are (m ∷ ms) all = (member m all.0, members-are ms all.1)

  found-all : (ms : List Mark) → AllByRecursion Is ms → AllByRecursion (λ op. operation_at (history_of p t) op.number ≡ Some op) (map op_of ms)
  found-all [] all = tt
  found-all (m ∷ ms) all =
      (let b = all.0.0 in let of = all.0.1 in subst (λ (x : Operation). operation_at (history_of p t) x.number ≡ Some x) (sym of.op_is) (history-finds p t b of.began), found-all ms all.1)

  listed-is : listed (history_of p t) (map number_of (map op_of (sorted_marks is_behind marks))) ≡ map op_of (sorted_marks is_behind marks)
  listed-is = listed-all (history_of p t) (map op_of (sorted_marks is_behind marks)) (found-all (sorted_marks is_behind marks) (sorted-are p t trace key))

  -- no two marks are of operations with one number
  number-is : (b : Begun) (m : Mark) → IsOf b m → m.op.number ≡ length (begun_of b.start.before) + 1
  number-is b m of = ap (λ (x : Operation). x.number) of.op_is

  low-numbers : (ops : List Begun) (n : ℕ) → length ops ≤ n → AreNumbered ops → AllByRecursion (λ b. start_of b.client b.op t ≡ Some b.start) ops → AllByRecursion (λ m. m.op.number ≤ n) (filter_map (mark_of p t key) ops)
  low-numbers [] n few numbered began = tt
  low-numbers (b ∷ ops) n few numbered began = by_first (mark_of p t key b) refl (low-numbers ops n (omega (arith, few)) numbered.1 began.1)
    where
      by_first : (o : Option Mark) → mark_of p t key b ≡ o → AllByRecursion (λ m. m.op.number ≤ n) (filter_map (mark_of p t key) ops) → AllByRecursion (λ m. m.op.number ≤ n) (cons_option o (filter_map (mark_of p t key) ops))
      by_first None is rest = rest
      by_first (Some m) is rest =
          let here = number-is b m (mark-is p t trace key b m began.0 is) in
          let count = numbered.0 in
          (omega (arith, here, count, few), rest)

  others : (m : Mark) (n : ℕ) (ms : List Mark) → n < m.op.number → AllByRecursion (λ x. x.op.number ≤ n) ms → AllByRecursion (IsOther m) ms
  others m n [] above low = tt
  others m n (x ∷ ms) above low = ((λ e. (let le = low.0 in omega (arith, above, le, e))), others m n ms above low.1)

  picked-others : (ops : List Begun) → AreNumbered ops → AllByRecursion (λ b. start_of b.client b.op t ≡ Some b.start) ops → AreOther (filter_map (mark_of p t key) ops)
  picked-others [] numbered began = tt
  picked-others (b ∷ ops) numbered began = by_first (mark_of p t key b) refl (picked-others ops numbered.1 began.1)
    where
      by_first : (o : Option Mark) → mark_of p t key b ≡ o → AreOther (filter_map (mark_of p t key) ops) → AreOther (cons_option o (filter_map (mark_of p t key) ops))
      by_first None is rest = rest
      by_first (Some m) is rest =
          let here = number-is b m (mark-is p t trace key b m began.0 is) in
          let count = numbered.0 in
          (others m (length ops) (filter_map (mark_of p t key) ops) (omega (arith, here, count)) (low-numbers ops (length ops) (omega arith) numbered.1 began.1), rest)

  distinct-are : IsDistinct nat_eq (map number_of (map op_of (sorted_marks is_behind marks)))
  distinct-are = other-distinct (sorted_marks is_behind marks) (other-sorted marks (picked-others (begun_of t) (begun-numbered t) (begun-are p t trace).0))

  -- a finished operation of the key has a mark
  abbrev pub HasMark : Begun → Type 0
  HasMark b = (m : Mark) × (mark_of p t key b ≡ Some m)

  write-has : (b : Begun) (change : Change) (r : Return) → b.start.action ≡ change_action key change → change_expected change ≡ None → return_of p b.client b.op t ≡ Some r → start_of b.client b.op t ≡ Some b.start → IsTrue (is_finished_reply r.reply) → (m : Mark) × (write_mark p t b key (change_value change) ≡ Some m)
  write-has b change r action free returned began finished =
      let inputs = inputs_of b.client b.op t in
      let plan = write_plan p.f p.k b.client b.op key (change_value change) in
      let replies : change_reply plan change inputs ≡ Some r.reply = sym (replied-write p b.client b.op key change inputs) ∙ (ap (λ (a : Action). replied p.f p.k b.client b.op a inputs) (sym action) ∙ history-replies p t b r trace began returned) in
      elim (write-replies plan inputs r.reply (plain-reply plan change inputs r.reply free replies)) [
        | inr limit ↦ absurd (false≢true (ap is_finished_reply limit.1 ∙ finished))
        | inl done ↦
            let m : Mark = record { op = operation_of p t b; stamp = done.0; reads = 0; point = write_point b.client b.op t } in
            let tests : is_done_return (return_of p b.client b.op t) ≡ true = ap is_done_return returned ∙ ap is_done (sym done.2) in
            (m, rw (tests, done.1) refl)
      ]
    where
      plain-reply : (plan : PutPlan) (change : Change) (inputs : List Cue) (reply : Reply) → change_expected change ≡ None → change_reply plan change inputs ≡ Some reply → write_reply plan inputs ≡ Some reply
      plain-reply plan (Puts v) inputs reply free is = is
      plain-reply plan Deletes inputs reply free is = is
      plain-reply plan (Swaps e v) inputs reply free is = absurd (none-some e (sym free))

  -- a swap that finished has a mark
  swap-has : (b : Begun) (e : Timestamp) (v : List ℕ) (r : Return) → b.start.action ≡ asked.Swap key e v → return_of p b.client b.op t ≡ Some r → start_of b.client b.op t ≡ Some b.start → IsTrue (is_finished_reply r.reply) → (m : Mark) × (mark_by p t b (asked.Swap key e v) ≡ Some m)
  swap-has b e v r action returned began finished = by_reply r.reply refl finished
    where
      inputs : List Cue
      inputs = inputs_of b.client b.op t

      replies : swap_reply (write_plan p.f p.k b.client b.op key (Some v)) e inputs ≡ Some r.reply
      replies = sym (replied-write p b.client b.op key (Swaps e v) inputs) ∙ (ap (λ (a : Action). replied p.f p.k b.client b.op a inputs) (sym action) ∙ history-replies p t b r trace began returned)

      none_changed : (reply : Reply) → r.reply ≡ reply → is_done reply ≡ true → changed_mark p t b (return_of p b.client b.op t) ≡ None
      none_changed (told.Swapped s) is done = ap (changed_mark p t b) returned ∙ ap (changed_reply_mark p t b) is
      none_changed (told.Done s) is done = ap (changed_mark p t b) returned ∙ ap (changed_reply_mark p t b) is
      none_changed (told.Changed s) is done = absurd (false≢true done)
      none_changed (told.Exhausted s) is done = absurd (false≢true done)
      none_changed (told.Collected n) is done = absurd (false≢true done)
      none_changed (told.Value w s) is done = absurd (false≢true done)
      none_changed (told.Absent s) is done = absurd (false≢true done)

      by_answer : is_done r.reply ≡ true → SwapReplies (write_plan p.f p.k b.client b.op key (Some v)) e inputs r.reply → (m : Mark) × (mark_by p t b (asked.Swap key e v) ≡ Some m)
      by_answer done (inl a) =
          let own = update-own (write_plan p.f p.k b.client b.op key (Some v)) inputs a.rec a.update in
          let tests : is_done_return (return_of p b.client b.op t) ≡ true = ap is_done_return returned ∙ done in
          let none = none_changed r.reply refl done in
          (record { op = operation_of p t b; stamp = a.rec.stamp; reads = 0; point = write_point b.client b.op t }, rw (none, tests, own) refl)
      by_answer done (inr (inl changed)) = absurd (false≢true (ap is_done changed.reply_is ∙ done))
      by_answer done (inr (inr ended)) = absurd (false≢true (ap is_done ended.reply_is ∙ done))

      fits : is_reply_of (asked.Swap key e v) r.reply ≡ true
      fits = reply-fits p b.client b.op (asked.Swap key e v) inputs r.reply (ap (λ (a : Action). replied p.f p.k b.client b.op a inputs) (sym action) ∙ history-replies p t b r trace began returned)

      by_reply : (reply : Reply) → r.reply ≡ reply → IsTrue (is_finished_reply reply) → (m : Mark) × (mark_by p t b (asked.Swap key e v) ≡ Some m)
      by_reply (told.Changed s) is finished_ =
          let m : Mark = record { op = operation_of p t b; stamp = s; reads = 1; point = changed_point b.client b.op t } in
          let changed : changed_mark p t b (return_of p b.client b.op t) ≡ Some m = ap (changed_mark p t b) returned ∙ ap (changed_reply_mark p t b) is in
          (m, rw changed refl)
      by_reply (told.Swapped s) is finished_ = by_answer (ap is_done is) (swap-replied (write_plan p.f p.k b.client b.op key (Some v)) e inputs r.reply replies)
      by_reply (told.Done s) is finished_ = absurd (false≢true (sym (ap (is_reply_of (asked.Swap key e v)) is) ∙ fits))
      by_reply (told.Exhausted s) is finished_ = absurd (false≢true finished_)
      by_reply (told.Collected n) is finished_ = absurd (false≢true finished_)
      by_reply (told.Value w s) is finished_ = absurd (false≢true (sym (ap (is_reply_of (asked.Swap key e v)) is) ∙ fits))
      by_reply (told.Absent s) is finished_ = absurd (false≢true (sym (ap (is_reply_of (asked.Swap key e v)) is) ∙ fits))

  reply-has : (b : Begun) (reply : Reply) → is_reply_of (asked.Get key) reply ≡ true → (m : Mark) × (reply_mark p t b reply ≡ Some m)
  reply-has b (told.Value v s) is = (_, refl)
  reply-has b (told.Absent s) is = (_, refl)
  reply-has b (told.Done s) is = absurd (false≢true is)
  reply-has b (told.Exhausted s) is = absurd (false≢true is)
  reply-has b (told.Collected n) is = absurd (false≢true is)
  reply-has b (told.Swapped s) is = absurd (false≢true is)
  reply-has b (told.Changed s) is = absurd (false≢true is)

  collect-unfinished : (k : List ℕ) (reply : Reply) → is_reply_of (asked.Collect k) reply ≡ true → IsTrue (is_finished_reply reply) → ⊥
  collect-unfinished k (told.Collected n) is finished = false≢true finished
  collect-unfinished k (told.Value v s) is finished = false≢true is
  collect-unfinished k (told.Absent s) is finished = false≢true is
  collect-unfinished k (told.Done s) is finished = false≢true is
  collect-unfinished k (told.Exhausted s) is finished = false≢true is
  collect-unfinished k (told.Swapped s) is finished = false≢true is
  collect-unfinished k (told.Changed s) is finished = false≢true is

  by-action : (b : Begun) (a : Action) (r : Return) → b.start.action ≡ a → key_of a ≡ key → return_of p b.client b.op t ≡ Some r → start_of b.client b.op t ≡ Some b.start → IsTrue (is_finished_reply r.reply) → (m : Mark) × (mark_by p t b a ≡ Some m)
  by-action b (asked.Put k v) r action key_is returned began finished =
      subst (λ (x : List ℕ). (m : Mark) × (mark_by p t b (asked.Put x v) ≡ Some m)) (sym key_is) (write-has b (Puts v) r (action ∙ ap (λ (x : List ℕ). asked.Put x v) key_is) refl returned began finished)
  by-action b (asked.Delete k) r action key_is returned began finished =
      subst (λ (x : List ℕ). (m : Mark) × (mark_by p t b (asked.Delete x) ≡ Some m)) (sym key_is) (write-has b Deletes r (action ∙ ap asked.Delete key_is) refl returned began finished)
  by-action b (asked.Swap k e v) r action key_is returned began finished =
      subst (λ (x : List ℕ). (m : Mark) × (mark_by p t b (asked.Swap x e v) ≡ Some m)) (sym key_is) (swap-has b e v r (action ∙ ap (λ (x : List ℕ). asked.Swap x e v) key_is) returned began finished)
  by-action b (asked.Get k) r action key_is returned began finished =
      let has = reply-has b r.reply (reply-fits p b.client b.op (asked.Get key) (inputs_of b.client b.op t) r.reply (ap (λ (a : Action). replied p.f p.k b.client b.op a (inputs_of b.client b.op t)) (sym (action ∙ ap asked.Get key_is)) ∙ history-replies p t b r trace began returned)) in
      (has.0, ap (read_mark p t b) returned ∙ has.1)
  by-action b (asked.Collect k) r action key_is returned began finished =
      absurd (collect-unfinished k r.reply (reply-fits p b.client b.op (asked.Collect k) (inputs_of b.client b.op t) r.reply (ap (λ (a : Action). replied p.f p.k b.client b.op a (inputs_of b.client b.op t)) (sym action) ∙ history-replies p t b r trace began returned)) finished)

  has-mark : (b : Begun) (r : Return) → start_of b.client b.op t ≡ Some b.start → key_of b.start.action ≡ key → return_of p b.client b.op t ≡ Some r → IsTrue (is_finished_reply r.reply) → HasMark b
  unfolding mark_of
  has-mark b r began key_is returned finished =
      let test : key_eq (key_of b.start.action) key ≡ true = ap (λ (k : List ℕ). key_eq k key) key_is ∙ key_eq-same key in
      let has = by-action b b.start.action r refl key_is returned began finished in
      (has.0, rw test has.1)

  complete-one : (b : Begun) → start_of b.client b.op t ≡ Some b.start → IsTrue (is_of_key key (operation_of p t b) && is_finished (operation_of p t b).end) → Contains (map number_of (map op_of (sorted_marks is_behind marks))) (operation_of p t b).number
  complete-one b began due =
      let tests = both (is_of_key key (operation_of p t b)) (is_finished (operation_of p t b).end) due in
      let key_is : key_of b.start.action ≡ key = sym (key-same b.start.action) ∙ (bytes_eq-Decides (key_of_action b.start.action) key).0 tests.0 in
      by_return (return_of p b.client b.op t) refl tests.1 key_is
    where
      by_mark : HasMark b → Contains (map number_of (map op_of (sorted_marks is_behind marks))) (operation_of p t b).number
      by_mark has =
          let of = mark-is p t trace key b has.0 began has.1 in
          let here : IsIn (sorted_marks is_behind marks) has.0 = in-sorted marks has.0 (in-picked (mark_of p t key) (begun_of t) b has.0 (among-in (begun_of t) b (begun-in b.client b.op t b.start began)) has.1) in
          let there : IsIn (map number_of (map op_of (sorted_marks is_behind marks))) has.0.op.number = in-map number_of (map op_of (sorted_marks is_behind marks)) has.0.op (in-map op_of (sorted_marks is_behind marks) has.0 here) in
          in-contains (map number_of (map op_of (sorted_marks is_behind marks))) (operation_of p t b).number (subst (λ (x : Operation). IsIn (map number_of (map op_of (sorted_marks is_behind marks))) x.number) of.op_is there)

      by_return : (o : Option Return) → return_of p b.client b.op t ≡ o → is_finished (end_of o (progress_of p.f p.k b.client b.op b.start.action (inputs_of b.client b.op t))) ≡ true → key_of b.start.action ≡ key → Contains (map number_of (map op_of (sorted_marks is_behind marks))) (operation_of p t b).number
      by_return None is finished key_is = absurd (false≢true finished)
      by_return (Some r) is finished key_is = by_mark (has-mark b r began key_is is finished)

  stamp-linearization : IsShape p.f p.k → IsCollisionFree p t → ArePutBytes t → IsLinearization (history_of p t) key (map number_of (map op_of (sorted_marks is_behind marks)))
  stamp-linearization shape free bytes_only = record {
    complete = history-all (λ op. IsTrue (is_of_key key op && is_finished op.end) → Contains (map number_of (map op_of (sorted_marks is_behind marks))) op.number) p t trace complete-one;
    members = members-are (sorted_marks is_behind marks) (sorted-are p t trace key);
    distinct = distinct-are;
    real_time = subst RespectsRealTime (sym listed-is) (real-time p t trace key);
    reads = subst (ReadsRegister no_register) (sym listed-is) (reads-register p t trace key shape free bytes_only);
  }

  pub is-linearization : IsShape p.f p.k → IsCollisionFree p t → ArePutBytes t → IsLinearization (history_of p t) key (linearization_of p t key)
  unfolding linearization_of
  is-linearization shape free bytes_only =
      subst (λ (ms : List Mark). IsLinearization (history_of p t) key (map number_of (map op_of ms))) (sym (orders-same p t trace key)) (stamp-linearization shape free bytes_only)
