-- What an operation in an order is: a write with its timestamp, or a get with what it found.
use Rattle.std.proofs.Common.{◌≡◌, ◌≢◌, ◌≤◌, ℕ, ◌+◌, ◌<◌, Bool, true, false, cond, List, length, Option, Some, None, refl, sym, ap, subst, ◌∙◌, inl, inr, arith}
use Rattle.std.specs.Prelude.{◌||◌, ◌⊎◌}
use Rattle.std.specs.Option.{option_or, option_map}
use Rattle.std.proofs.lemmas.Option.{none-some, same_Some}
use Rattle.std.proofs.lemmas.Bool.{false≢true, ltb-true}
use Rattle.std.proofs.lemmas.Bool.Decides.{nat_tests}
use Rattle.hy_record.specs.declared.action.Action.{Action}
use Rattle.hy_record.specs.declared.action.Action.TheVariants as asked
use Rattle.hy_record.specs.declared.action.Reply.{Reply}
use Rattle.hy_record.specs.declared.action.Reply.TheVariants as told
use Rattle.hy_record.specs.Stamp.{Timestamp, stamp_lt}
use Rattle.hy_record.specs.Key.{key_eq}
use Rattle.hy_record.proofs.Order.{key_eq-true, stamp_le-lt}
use Rattle.hy_meta.proofs.Rising.{cases_bool}
use Rattle.hy_record.specs.declared.turn.Cue.{Cue}
use Rattle.hy_protocol.specs.declared.plan.PutPlan.{PutPlan}
use Rattle.hy_protocol.specs.Write.{own_stamp, stamp_upon, write_reply}
use Rattle.hy_protocol.specs.Read.{version_of, answer_of, read_reply}
use Rattle.hy_order.specs.declared.operation.Operation.{Operation}
use Rattle.hy_order.specs.Linearization.{returned_before}
use Rattle.hy_protocol.specs.Progress.{Progress, progress_of}
use Rattle.hy_trace.specs.Points.{Point, read_point, write_point, version_made, changed_point}
use Rattle.hy_trace.specs.Order.{Mark, is_behind}
use Rattle.hy_trace.specs.Deeds.{Params, Deed, Start, served, inputs_of, start_of}
use Rattle.hy_protocol.specs.Operations.{key_of, write_plan, replied}
use Rattle.hy_trace.specs.Trace.{IsTrace}
use Rattle.hy_trace.specs.Points.{was_applied}
use Rattle.hy_theorems.specs.Writing.{Change, Puts, Deletes, Swaps, change_value, change_expected, change_action, IsMet, IsWriting}
use Rattle.hy_theorems.proofs.Writes.{update-own, SwapReplies, swap-replied}
use Rattle.hy_theorems.proofs.Meaning.{IsUpdating}
use Rattle.hy_theorems.proofs.Overwritten.{first-true, applied-own}
use Rattle.hy_theorems.proofs.TopAt.{top_at, at-rises}
use Rattle.hy_theorems.proofs.ReadPoints.{IsReadAt, version-at, reply-version}
use Rattle.hy_theorems.proofs.Verdicts.{at-start, expects-swap, FoundAt, found-at}
use Rattle.hy_meta.proofs.Lasting.{applied-tried}
use Rattle.hy_meta.specs.Service.{stamp_of_record}
use Rattle.hy_order.specs.History.{is_reply_of}
use Rattle.hy_protocol.specs.Swap.{answered_by, swap_reply}
use Rattle.hy_record.specs.declared.message.MetaSay.TheVariants as says
use Rattle.hy_record.specs.declared.turn.Cue.TheVariants as cues
use Rattle.hy_record.specs.Record.{RecordValue}
use Rattle.hy_trace.specs.History.{Return, return_of, Begun, end_of, operation_of}
use Rattle.hy_trace.specs.Order.{is_done, is_done_return, write_mark, found_mark, reply_mark, read_mark, changed_reply_mark, changed_mark, mark_by, mark_of}
use Rattle.hy_trace.proofs.Growth.{Le, le-trans, or-cases, top, start-same}
use Rattle.hy_theorems.proofs.Replies.{is_read_reply, reply-fits}
use Rattle.hy_theorems.proofs.Points.{point-timely, answered-version}
use Rattle.hy_theorems.proofs.Invariant.{IsCovered, trace-holds, by-means}
use Rattle.hy_theorems.proofs.Apart.{own-above, own-has, replies-by, change_reply, replied-write, stamps-differ}
use Rattle.hy_theorems.proofs.RealTime.{return-reply, returned-below, stamp_of_reply, answer-stamp}
use Rattle.hy_theorems.proofs.Ordering.{InTime, Differs}

pub behind-lt : (a b : Mark) → stamp_lt b.stamp a.stamp ≡ true → is_behind a b ≡ true
unfolding is_behind stamp_lt
behind-lt a b below = grind (arith, nat_tests)

pub behind-le : (a b : Mark) → stamp_lt a.stamp b.stamp ≡ false → (b.reads < a.reads) ⊎ ((b.reads ≡ a.reads) × (b.point.step < a.point.step)) → is_behind a b ≡ true
unfolding is_behind stamp_lt
behind-le a b le (inl reads) = grind (arith, nat_tests)
behind-le a b le (inr point) = let reads = point.0 in let less = point.1 in grind (arith, nat_tests)

pub as-read : (c o : ℕ) (key : List ℕ) (inputs : List Cue) → (p : Params) → read_reply inputs ≡ replied p.f p.k c o (asked.Get key) inputs
unfolding replied
as-read c o key inputs p = refl

-- a put or delete replied Done with its timestamp
pub write-done : (plan : PutPlan) (inputs : List Cue) (x : Timestamp) (reply : Reply) → own_stamp plan inputs ≡ Some x → write_reply plan inputs ≡ Some reply → told.Done x ≡ reply
write-done plan inputs x reply own is =
    let r = replies-by plan inputs reply is in
    let has = own-has plan inputs x own in
    r.done x (ap (stamp_upon plan.client) (same_Some r.held has.0 (sym r.has ∙ has.1)) ∙ has.2)

-- a write replied that it was done or swapped, with its timestamp; a swap that met what it expects may also have found another record then
abbrev pub RepliesWrite : Timestamp → Reply → Type 0
RepliesWrite x reply = (told.Done x ≡ reply) ⊎ (told.Swapped x ≡ reply)

pub change-done : (plan : PutPlan) (change : Change) (inputs : List Cue) (x : Timestamp) (reply : Reply) → IsMet (change_expected change) inputs → own_stamp plan inputs ≡ Some x → change_reply plan change inputs ≡ Some reply → ((t : Timestamp) → reply ≡ told.Changed t → ⊥) → RepliesWrite x reply
change-done plan (Puts v) inputs x reply met own is never = inl (write-done plan inputs x reply own is)
change-done plan Deletes inputs x reply met own is never = inl (write-done plan inputs x reply own is)
change-done plan (Swaps e v) inputs x reply met own is never = by_reply (swap-replied plan e inputs reply is)
  where
    by_cue : (r : RecordValue) → r.stamp ≡ x → (cue : Cue) → answered_by (Some r) cue ≡ Some reply → RepliesWrite x reply
    by_cue r stamp (cues.Meta (says.Swapped c o k s)) answer = inr (ap told.Swapped (sym stamp) ∙ same_Some (told.Swapped r.stamp) reply answer)
    by_cue r stamp (cues.Meta (says.Changed c o k s)) answer = absurd (never s (sym (same_Some (told.Changed s) reply answer)))
    by_cue r stamp (cues.Meta (says.Has c o k h)) answer = absurd (none-some reply answer)
    by_cue r stamp (cues.Meta (says.Applied c o k s)) answer = absurd (none-some reply answer)
    by_cue r stamp (cues.Meta (says.Kept c o k s)) answer = absurd (none-some reply answer)
    by_cue r stamp (cues.Meta (says.Fired c o k s)) answer = absurd (none-some reply answer)
    by_cue r stamp (cues.Meta (says.OldList c o k ss)) answer = absurd (none-some reply answer)
    by_cue r stamp (cues.Meta (says.Forgot c o k)) answer = absurd (none-some reply answer)
    by_cue r stamp (cues.Cloud answer_) answer = absurd (none-some reply answer)
    by_cue r stamp cues.Tick answer = absurd (none-some reply answer)

    by_reply : SwapReplies plan e inputs reply → RepliesWrite x reply
    by_reply (inl a) = by_cue a.rec (same_Some a.rec.stamp x (sym (update-own plan inputs a.rec a.update) ∙ own)) a.cue a.answer
    by_reply (inr (inl changed)) = absurd (never (stamp_of_record changed.held) (sym changed.reply_is))
    by_reply (inr (inr ended)) = (let has = own-has plan inputs x own in absurd (none-some x (sym ended.none ∙ (ap (stamp_upon plan.client) (same_Some ended.held has.0 (sym ended.has ∙ has.1)) ∙ has.2))))

-- what a mark of the key is
module _ (p : Params) (t : List Deed) (trace : IsTrace p t) (key : List ℕ) where
  pub record IsWriteMark (b : Begun) (m : Mark) : Type 0 where
    pub change : Change
    pub action_is : b.start.action ≡ change_action key change
    pub met : IsMet (change_expected change) (inputs_of b.client b.op t)
    pub own : own_stamp (write_plan p.f p.k b.client b.op key (change_value change)) (inputs_of b.client b.op t) ≡ Some m.stamp
    pub listed : (is_done_return (return_of p b.client b.op t) || was_applied (served t) b.client b.op) ≡ true
    -- it did not reply that it found another record
    pub unchanged : (r : Return) (s : Timestamp) → return_of p b.client b.op t ≡ Some r → r.reply ≡ told.Changed s → ⊥
    pub reads_is : m.reads ≡ 0
    pub point_is : m.point ≡ write_point b.client b.op t

  -- a get that finished, or a swap that found another record
  pub record IsGetMark (b : Begun) (m : Mark) (r : Return) : Type 0 where
    pub action_is : b.start.action ≡ asked.Get key
    pub finished : is_read_reply r.reply ≡ true
    pub stamp_is : stamp_of_reply r.reply ≡ m.stamp
    pub point_is : m.point ≡ read_point b.client b.op t

  pub record IsChangedMark (b : Begun) (m : Mark) (r : Return) : Type 0 where
    pub expected : Timestamp
    pub value : List ℕ
    pub action_is : b.start.action ≡ asked.Swap key expected value
    pub reply_is : r.reply ≡ told.Changed m.stamp
    pub other : m.stamp ≢ expected
    pub point_is : m.point ≡ changed_point b.client b.op t

  -- the record had the timestamp that a read found at its point, which lies within it
  pub record IsReadMark (b : Begun) (m : Mark) : Type 0 where
    pub ret : Return
    pub returned : return_of p b.client b.op t ≡ Some ret
    pub covered : (u : Timestamp) → IsCovered ret.reply u → Le m.stamp u
    pub reads_is : m.reads ≡ 1
    pub side : m.point.is_just_before ≡ false
    pub at : IsReadAt t key m.stamp m.point.step
    pub late : length b.start.before < m.point.step
    pub early : m.point.step ≤ ret.at
    pub kind : IsGetMark b m ret ⊎ IsChangedMark b m ret

  pub record IsMarkOf (b : Begun) (m : Mark) : Type 0 where
    pub began : start_of b.client b.op t ≡ Some b.start
    pub key_is : key_of b.start.action ≡ key
    pub op_is : m.op ≡ operation_of p t b
    pub sort : IsWriteMark b m ⊎ IsReadMark b m

  -- what a write that is listed met
  listed-met : (b : Begun) (change : Change) → start_of b.client b.op t ≡ Some b.start → b.start.action ≡ change_action key change → ((r : Return) (s : Timestamp) → return_of p b.client b.op t ≡ Some r → r.reply ≡ told.Changed s → ⊥) → (is_done_return (return_of p b.client b.op t) || was_applied (served t) b.client b.op) ≡ true → IsMet (change_expected change) (inputs_of b.client b.op t)
  listed-met b (Puts v) began action unchanged listed = tt
  listed-met b Deletes began action unchanged listed = tt
  listed-met b (Swaps e v) began action unchanged listed = by_test (was_applied (served t) b.client b.op) refl (return_of p b.client b.op t) refl listed
    where
      by_reply : (r : Return) → is_done r.reply ≡ true → SwapReplies (write_plan p.f p.k b.client b.op key (Some v)) e (inputs_of b.client b.op t) r.reply → IsMet (Some e) (inputs_of b.client b.op t)
      by_reply r done (inl a) = a.met
      by_reply r done (inr (inl changed)) = absurd (false≢true (ap is_done changed.reply_is ∙ done))
      by_reply r done (inr (inr ended)) = absurd (false≢true (ap is_done ended.reply_is ∙ done))

      by_test : (applied : Bool) → was_applied (served t) b.client b.op ≡ applied → (o : Option Return) → return_of p b.client b.op t ≡ o → (is_done_return o || applied) ≡ true → IsMet (Some e) (inputs_of b.client b.op t)
      by_test true applied o returned test =
          let a = applied-own (served t) b.client b.op applied in
          let meant : IsUpdating p b.client b.op a.0.key a.0.expected a.0.rec t = by-means p t a.0 b.client b.op a.0.key trace (trace-holds p t trace) (applied-tried (served t) a.0 a.1) (a.2, a.3, refl) in
          let same : meant.start ≡ b.start = start-same b.client b.op t meant.start b.start meant.began began in
          let expects : change_expected meant.change ≡ Some e = expects-swap a.0.key key v e meant.change (sym meant.action_is ∙ (ap (λ (x : Start). x.action) same ∙ action)) in
          subst (λ (x : Option Timestamp). IsMet x (inputs_of b.client b.op t)) expects meant.met
      by_test false applied None returned test = absurd (false≢true test)
      by_test false applied (Some r) returned test =
          let h = return-reply p b.client b.op t r trace returned in
          let same : h.start ≡ b.start = start-same b.client b.op t h.start b.start h.began began in
          let replies : swap_reply (write_plan p.f p.k b.client b.op key (Some v)) e (inputs_of b.client b.op t) ≡ Some r.reply = sym (replied-write p b.client b.op key (Swaps e v) (inputs_of b.client b.op t)) ∙ (ap (λ (a : Action). replied p.f p.k b.client b.op a (inputs_of b.client b.op t)) (sym (ap (λ (s : Start). s.action) same ∙ action)) ∙ h.replies) in
          by_reply r (first-true (is_done r.reply) false refl test) (swap-replied (write_plan p.f p.k b.client b.op key (Some v)) e (inputs_of b.client b.op t) r.reply replies)

  write-mark-is : (b : Begun) (m : Mark) (change : Change) → start_of b.client b.op t ≡ Some b.start → key_of b.start.action ≡ key → b.start.action ≡ change_action key change → ((r : Return) (s : Timestamp) → return_of p b.client b.op t ≡ Some r → r.reply ≡ told.Changed s → ⊥) → write_mark p t b key (change_value change) ≡ Some m → IsMarkOf b m
  write-mark-is b m change began key_is action unchanged is =
      (let parts = only (is_done_return (return_of p b.client b.op t) || was_applied (served t) b.client b.op) (option_map _ (own_stamp (write_plan p.f p.k b.client b.op key (change_value change)) (inputs_of b.client b.op t))) is in
      by_own (own_stamp (write_plan p.f p.k b.client b.op key (change_value change)) (inputs_of b.client b.op t)) refl parts.0 parts.1)
    where
      only : (test : Bool) (o : Option Mark) → cond test o None ≡ Some m → (test ≡ true) × (o ≡ Some m)
      only true o e = (refl, e)
      only false o e = absurd (none-some m e)

      by_own : (o : Option Timestamp) → own_stamp (write_plan p.f p.k b.client b.op key (change_value change)) (inputs_of b.client b.op t) ≡ o → (is_done_return (return_of p b.client b.op t) || was_applied (served t) b.client b.op) ≡ true → option_map (λ stamp. record { op = operation_of p t b; stamp = stamp; reads = 0; point = write_point b.client b.op t }) o ≡ Some m → IsMarkOf b m
      by_own None own listed e = absurd (none-some m e)
      by_own (Some x) own listed e =
          let made = same_Some (record { op = operation_of p t b; stamp = x; reads = 0; point = write_point b.client b.op t }) m e in
          record {
            began = began;
            key_is = key_is;
            op_is = ap (λ (y : Mark). y.op) (sym made);
            sort = inl (record {
              change = change;
              action_is = action;
              met = listed-met b change began action unchanged listed;
              own = own ∙ ap (λ (y : Mark). Some y.stamp) made;
              listed = listed;
              unchanged = unchanged;
              reads_is = ap (λ (y : Mark). y.reads) (sym made);
              point_is = ap (λ (y : Mark). y.point) (sym made);
            });
          }

  -- a get replies neither that it was done nor that a swap found another record
  found-mark-is : (b : Begun) (m : Mark) (r : Return) (s : Timestamp) → is_read_reply r.reply ≡ true → stamp_of_reply r.reply ≡ s → ((u : Timestamp) → IsCovered r.reply u → Le s u) → start_of b.client b.op t ≡ Some b.start → key_of b.start.action ≡ key → return_of p b.client b.op t ≡ Some r → b.start.action ≡ asked.Get key → found_mark p t b s ≡ Some m → IsMarkOf b m
  found-mark-is b m r s finished told_ covered began key_is returned action is =
      let made = same_Some (record { op = operation_of p t b; stamp = s; reads = 1; point = read_point b.client b.op t }) m is in
      let stamp = ap (λ (y : Mark). y.stamp) made in
      let point = ap (λ (y : Mark). y.point) (sym made) in
      let step = ap (λ (y : Point). y.step) point in
      let timely = point-timely p t trace b.client b.op b.start r began (action ∙ ap asked.Get (sym key_is)) returned in
      let late = timely.0 in
      let early = timely.1 in
      record {
        began = began;
        key_is = key_is;
        op_is = ap (λ (y : Mark). y.op) (sym made);
        sort = inr (record {
          ret = r;
          returned = returned;
          covered = λ u c. subst (λ (y : Timestamp). Le y u) stamp (covered u c);
          reads_is = ap (λ (y : Mark). y.reads) (sym made);
          side = ap (λ (y : Point). y.is_just_before) point;
          at = subst (λ (n : ℕ). IsReadAt t key m.stamp n) (sym step) (subst (λ (x : Timestamp). IsReadAt t key x (version_made b.client b.op t)) (told_ ∙ stamp) (read-at b r began key_is returned action));
          late = omega (arith, late, step);
          early = omega (arith, early, step);
          kind = inl (record { action_is = action; finished = finished; stamp_is = told_ ∙ stamp; point_is = point });
        });
      }
    where
      read-at : (b : Begun) (r : Return) → start_of b.client b.op t ≡ Some b.start → key_of b.start.action ≡ key → return_of p b.client b.op t ≡ Some r → b.start.action ≡ asked.Get key → IsReadAt t key (stamp_of_reply r.reply) (version_made b.client b.op t)
      read-at b r began key_is returned action =
          let inputs = inputs_of b.client b.op t in
          let h = return-reply p b.client b.op t r trace returned in
          let same : h.start ≡ b.start = start-same b.client b.op t h.start b.start h.began began in
          let replies : read_reply inputs ≡ Some r.reply = as-read b.client b.op key inputs p ∙ (ap (λ (a : Action). replied p.f p.k b.client b.op a inputs) (sym (ap (λ (s : Start). s.action) same ∙ action)) ∙ h.replies) in
          let answer = reply-version p b.client b.op key r.reply t trace (λ s began_. ap (λ (x : Start). x.action) (start-same b.client b.op t s b.start began_ began) ∙ action) replies in
          let v = answered-version (version_of inputs) r.reply answer in
          let stamp : stamp_of_record v.0.rec ≡ stamp_of_reply r.reply = sym (answer-stamp v.0.rec v.0.since r.reply (sym (ap answer_of v.1) ∙ answer)) in
          let at : IsReadAt t (key_of b.start.action) (stamp_of_record v.0.rec) (version_made b.client b.op t) = version-at p b.client b.op t trace b.start began v.0 v.1 in
          subst (λ (x : Timestamp). IsReadAt t key x (version_made b.client b.op t)) stamp (subst (λ (k : List ℕ). IsReadAt t k (stamp_of_record v.0.rec) (version_made b.client b.op t)) key_is at)

  reply-mark-is : (b : Begun) (m : Mark) (r : Return) (reply : Reply) → r.reply ≡ reply → start_of b.client b.op t ≡ Some b.start → key_of b.start.action ≡ key → return_of p b.client b.op t ≡ Some r → b.start.action ≡ asked.Get key → reply_mark p t b reply ≡ Some m → IsMarkOf b m
  reply-mark-is b m r (told.Value v s) reply_is began key_is returned action is =
      found-mark-is b m r s (ap is_read_reply reply_is) (ap stamp_of_reply reply_is) (λ u c. subst (λ (y : Reply). IsCovered y u) reply_is c) began key_is returned action is
  reply-mark-is b m r (told.Absent s) reply_is began key_is returned action is =
      found-mark-is b m r s (ap is_read_reply reply_is) (ap stamp_of_reply reply_is) (λ u c. subst (λ (y : Reply). IsCovered y u) reply_is c) began key_is returned action is
  reply-mark-is b m r (told.Done s) reply_is began key_is returned action is = absurd (none-some m is)
  reply-mark-is b m r (told.Exhausted s) reply_is began key_is returned action is = absurd (none-some m is)
  reply-mark-is b m r (told.Collected n) reply_is began key_is returned action is = absurd (none-some m is)
  reply-mark-is b m r (told.Swapped s) reply_is began key_is returned action is = absurd (none-some m is)
  reply-mark-is b m r (told.Changed s) reply_is began key_is returned action is = absurd (none-some m is)

  read-mark-is : (b : Begun) (m : Mark) (o : Option Return) → start_of b.client b.op t ≡ Some b.start → key_of b.start.action ≡ key → return_of p b.client b.op t ≡ o → b.start.action ≡ asked.Get key → read_mark p t b o ≡ Some m → IsMarkOf b m
  read-mark-is b m None began key_is returned action is = absurd (none-some m is)
  read-mark-is b m (Some r) began key_is returned action is = reply-mark-is b m r r.reply refl began key_is returned action is

  -- a swap that found another record
  changed-mark-is : (b : Begun) (m : Mark) (r : Return) (e : Timestamp) (v : List ℕ) (reply : Reply) → r.reply ≡ reply → start_of b.client b.op t ≡ Some b.start → key_of b.start.action ≡ key → return_of p b.client b.op t ≡ Some r → b.start.action ≡ asked.Swap key e v → changed_reply_mark p t b reply ≡ Some m → IsMarkOf b m
  changed-mark-is b m r e v (told.Changed s) reply_is began key_is returned action is =
      let made = same_Some (record { op = operation_of p t b; stamp = s; reads = 1; point = changed_point b.client b.op t }) m is in
      let stamp : s ≡ m.stamp = ap (λ (y : Mark). y.stamp) made in
      let point : m.point ≡ changed_point b.client b.op t = ap (λ (y : Mark). y.point) (sym made) in
      let f = found-at p b.client b.op key e v t b.start r s trace began action returned reply_is in
      let g : FoundAt p b.client b.op key e v t b.start r m.stamp m.point = subst (λ (x : Timestamp). FoundAt p b.client b.op key e v t b.start r x m.point) stamp (subst (λ (x : Point). FoundAt p b.client b.op key e v t b.start r s x) (sym point) f) in
      record {
        began = began;
        key_is = key_is;
        op_is = ap (λ (y : Mark). y.op) (sym made);
        sort = inr (record {
          ret = r;
          returned = returned;
          covered = λ u c. subst (λ (y : Reply). IsCovered y u) (reply_is ∙ ap told.Changed stamp) c;
          reads_is = ap (λ (y : Mark). y.reads) (sym made);
          side = g.side;
          at = g.at;
          late = g.late;
          early = g.early;
          kind = inr (record { expected = e; value = v; action_is = action; reply_is = reply_is ∙ ap told.Changed stamp; other = g.other; point_is = point });
        });
      }
  changed-mark-is b m r e v (told.Value w s) reply_is began key_is returned action is = absurd (none-some m is)
  changed-mark-is b m r e v (told.Absent s) reply_is began key_is returned action is = absurd (none-some m is)
  changed-mark-is b m r e v (told.Done s) reply_is began key_is returned action is = absurd (none-some m is)
  changed-mark-is b m r e v (told.Exhausted s) reply_is began key_is returned action is = absurd (none-some m is)
  changed-mark-is b m r e v (told.Collected n) reply_is began key_is returned action is = absurd (none-some m is)
  changed-mark-is b m r e v (told.Swapped s) reply_is began key_is returned action is = absurd (none-some m is)

  -- where a swap has no such mark, it did not reply so
  pub none-changed-mark : (b : Begun) (r : Return) (s : Timestamp) → changed_mark p t b (return_of p b.client b.op t) ≡ None → return_of p b.client b.op t ≡ Some r → r.reply ≡ told.Changed s → ⊥
  none-changed-mark b r s none returned reply_is =
      none-some _ (sym none ∙ (ap (changed_mark p t b) returned ∙ ap (changed_reply_mark p t b) reply_is))

  by-swap : (b : Begun) (m : Mark) (e : Timestamp) (v : List ℕ) → start_of b.client b.op t ≡ Some b.start → key_of b.start.action ≡ key → b.start.action ≡ asked.Swap key e v → option_or (changed_mark p t b (return_of p b.client b.op t)) (write_mark p t b key (Some v)) ≡ Some m → IsMarkOf b m
  by-swap b m e v began key_is action is =
      elim (or-cases (changed_mark p t b (return_of p b.client b.op t)) (write_mark p t b key (Some v)) m is) [
        | inl changed ↦ by_return (return_of p b.client b.op t) refl changed
        | inr write ↦ write-mark-is b m (Swaps e v) began key_is action (λ r s returned reply_is. none-changed-mark b r s write.0 returned reply_is) write.1
      ]
    where
      by_return : (o : Option Return) → return_of p b.client b.op t ≡ o → changed_mark p t b o ≡ Some m → IsMarkOf b m
      by_return None returned is = absurd (none-some m is)
      by_return (Some r) returned is = changed-mark-is b m r e v r.reply refl began key_is returned action is

  -- a put or a delete does not reply that it found another record
  pub never-changed : (b : Begun) (change : Change) → start_of b.client b.op t ≡ Some b.start → b.start.action ≡ change_action key change → change_expected change ≡ None → (r : Return) (s : Timestamp) → return_of p b.client b.op t ≡ Some r → r.reply ≡ told.Changed s → ⊥
  never-changed b change began action free r s returned reply_is = by_change change action free
    where
      replied_ : (change : Change) → b.start.action ≡ change_action key change → is_reply_of (change_action key change) (told.Changed s) ≡ true
      replied_ change action =
          let h = return-reply p b.client b.op t r trace returned in
          let same : h.start ≡ b.start = start-same b.client b.op t h.start b.start h.began began in
          let is : replied p.f p.k b.client b.op (change_action key change) (inputs_of b.client b.op t) ≡ Some (told.Changed s) = ap (λ (a : Action). replied p.f p.k b.client b.op a (inputs_of b.client b.op t)) (sym (ap (λ (x : Start). x.action) same ∙ action)) ∙ (h.replies ∙ ap Some reply_is) in
          reply-fits p b.client b.op (change_action key change) (inputs_of b.client b.op t) (told.Changed s) is

      by_change : (change : Change) → b.start.action ≡ change_action key change → change_expected change ≡ None → ⊥
      by_change (Puts v) action free = false≢true (replied_ (Puts v) action)
      by_change Deletes action free = false≢true (replied_ Deletes action)
      by_change (Swaps e v) action free = none-some e (sym free)

  by-action : (b : Begun) (m : Mark) (a : Action) → start_of b.client b.op t ≡ Some b.start → key_of b.start.action ≡ key → b.start.action ≡ a → key_of a ≡ key → mark_by p t b a ≡ Some m → IsMarkOf b m
  by-action b m (asked.Put k v) began key_is action same is = (let action_ : b.start.action ≡ asked.Put key v = action ∙ ap (λ (x : List ℕ). asked.Put x v) same in write-mark-is b m (Puts v) began key_is action_ (never-changed b (Puts v) began action_ refl) (subst (λ (x : List ℕ). write_mark p t b x (Some v) ≡ Some m) same is))
  by-action b m (asked.Delete k) began key_is action same is = (let action_ : b.start.action ≡ asked.Delete key = action ∙ ap asked.Delete same in write-mark-is b m Deletes began key_is action_ (never-changed b Deletes began action_ refl) (subst (λ (x : List ℕ). write_mark p t b x None ≡ Some m) same is))
  by-action b m (asked.Swap k e v) began key_is action same is = by-swap b m e v began key_is (action ∙ ap (λ (x : List ℕ). asked.Swap x e v) same) (subst (λ (x : List ℕ). option_or (changed_mark p t b (return_of p b.client b.op t)) (write_mark p t b x (Some v)) ≡ Some m) same is)
  by-action b m (asked.Get k) began key_is action same is = read-mark-is b m (return_of p b.client b.op t) began key_is refl (action ∙ ap asked.Get same) is
  by-action b m (asked.Collect k) began key_is action same is = absurd (none-some m is)

  pub mark-is : (b : Begun) (m : Mark) → start_of b.client b.op t ≡ Some b.start → mark_of p t key b ≡ Some m → IsMarkOf b m
  unfolding mark_of
  mark-is b m began is =
      elim (cases_bool (key_eq (key_of b.start.action) key)) [
        | inl same ↦ (let own = key_eq-true (key_of b.start.action) key same in by-action b m b.start.action began own refl own (rw same at is))
        | inr other ↦ absurd (none-some m (rw other at is))
      ]

  -- what a write with a mark replied
  pub mark-replied : (b : Begun) (m : Mark) (r : Return) → IsMarkOf b m → (write : IsWriteMark b m) → return_of p b.client b.op t ≡ Some r → RepliesWrite m.stamp r.reply
  mark-replied b m r mark write returned =
      let h = return-reply p b.client b.op t r trace returned in
      let same : h.start ≡ b.start = start-same b.client b.op t h.start b.start h.began mark.began in
      let inputs = inputs_of b.client b.op t in
      let plan = write_plan p.f p.k b.client b.op key (change_value write.change) in
      let replies : change_reply plan write.change inputs ≡ Some r.reply = sym (replied-write p b.client b.op key write.change inputs) ∙ (ap (λ (a : Action). replied p.f p.k b.client b.op a inputs) (sym (ap (λ (s : Start). s.action) same ∙ write.action_is)) ∙ h.replies) in
      change-done plan write.change inputs m.stamp r.reply write.met write.own replies (λ s reply_is. write.unchanged r s returned reply_is)

  -- what an operation with a mark replied is not below its mark's timestamp
  pub mark-covered : (b : Begun) (m : Mark) (r : Return) (u : Timestamp) → IsMarkOf b m → return_of p b.client b.op t ≡ Some r → IsCovered r.reply u → Le m.stamp u
  mark-covered b m r u mark returned covered =
      elim mark.sort [
        | inr read ↦ read.covered u (subst (λ (y : Return). IsCovered y.reply u) (same_Some r read.ret (sym returned ∙ read.returned)) covered)
        | inl write ↦ elim (mark-replied b m r mark write returned) [
          | inl done ↦ subst (λ (y : Reply). IsCovered y u) (sym done) covered
          | inr swapped ↦ subst (λ (y : Reply). IsCovered y u) (sym swapped) covered
        ]
      ]

  abbrev pub mark-writing : (b : Begun) (m : Mark) → IsMarkOf b m → (w : IsWriteMark b m) → IsWriting p b.client b.op key m.stamp t
  mark-writing b m mark w = record { start = b.start; began = mark.began; change = w.change; action_is = w.action_is; met = w.met; own = w.own }

  -- a read found no less than what the record was when it began
  pub mark-above : (b : Begun) (m : Mark) → IsMarkOf b m → IsReadMark b m → Le (top b.start.before key) m.stamp
  mark-above b m mark read =
      let start = at-start b.client b.op t b.start key mark.began in
      let late = read.late in
      subst (λ (x : Timestamp). Le (top b.start.before key) x) read.at.here (subst (λ (x : Timestamp). Le x (top_at t key m.point.step)) start.1 (at-rises t key (length b.start.before + 1) m.point.step (omega (arith, late))))

  -- an operation that returned before another began stands in front of it
  pub in-time : (a b : Begun) (m n : Mark) → IsMarkOf a m → IsMarkOf b n → InTime m n
  in-time a b m n first second returned =
      by_return (return_of p b.client b.op t) refl (subst (λ (x : Operation). returned_before x.invoked (end_of (return_of p b.client b.op t) (progress b)) ≡ true) first.op_is (subst (λ (x : Operation). returned_before m.op.invoked x.end ≡ true) second.op_is returned))
    where
      by_early : (r : Return) → return_of p b.client b.op t ≡ Some r → r.at < length a.start.before + 1 → is_behind m n ≡ true
      by_early r is early =
          let below : IsCovered r.reply (top a.start.before (key_of b.start.action)) = returned-below p t a.client a.op b.client b.op a.start b.start r trace first.began second.began is (omega (arith, early)) in
          let low : Le n.stamp (top a.start.before key) = mark-covered b n r (top a.start.before key) second is (subst (λ (k : List ℕ). IsCovered r.reply (top a.start.before k)) second.key_is below) in
          elim first.sort [
            | inl write ↦ behind-lt m n (stamp_le-lt n.stamp (top a.start.before key) m.stamp low (own-above p t a.client a.op key m.stamp trace (mark-writing a m first write)).0)
            | inr read ↦
                let high : Le (top a.start.before key) m.stamp = mark-above a m first read in
                behind-le m n (le-trans n.stamp (top a.start.before key) m.stamp low high)
                (elim second.sort [
                  | inl write ↦ (let k1 = write.reads_is in let k2 = read.reads_is in inl (omega (arith, k1, k2)))
                  | inr other ↦ (
                      let p1 = read.late in let p2 = other.early in
                      let same = ap (λ (x : Return). x.at) (same_Some other.ret r (sym other.returned ∙ is)) in
                      inr (other.reads_is ∙ sym read.reads_is, omega (arith, p1, p2, same, early)))
                ])
          ]

      progress : Begun → Progress
      progress b = progress_of p.f p.k b.client b.op b.start.action (inputs_of b.client b.op t)

      by_return : (o : Option Return) → return_of p b.client b.op t ≡ o → returned_before (length a.start.before + 1) (end_of o (progress b)) ≡ true → is_behind m n ≡ true
      by_return None is before = absurd (false≢true before)
      by_return (Some r) is before = by_early r is (ltb-true r.at (length a.start.before + 1) before)

  -- two marks of writes have different timestamps, unless they are of one operation
  pub marks-differ : (a b : Begun) (m n : Mark) → IsMarkOf a m → IsMarkOf b n → ((a.client ≡ b.client) × (a.op ≡ b.op) → ⊥) → Differs m n
  marks-differ a b m n first second apart zero_ zero__ same =
      elim first.sort [
        | inr read ↦ (let k = read.reads_is in omega (arith, k, zero_))
        | inl write ↦ elim second.sort [
          | inr read ↦ (let k = read.reads_is in omega (arith, k, zero__))
          | inl other ↦ apart (stamps-differ p t a.client a.op b.client b.op key m.stamp trace (mark-writing a m first write) (subst (λ (x : Timestamp). IsWriting p b.client b.op key x t) (sym same) (mark-writing b n second other)))
        ]
      ]
