-- A swap as the service judged it: what it found, and whether it was applied.
use Rattle.std.proofs.Common.{◌≡◌, ℕ, ◌+◌, ◌≤◌, Bool, true, false, cond, List, [], ◌∷◌, length, Option, Some, None, refl, sym, ap, subst, ◌∙◌, inl, inr, arith}
use Rattle.std.specs.Prelude.{◌&&◌, ◌==◌}
use Rattle.std.specs.Option.{option_map, option_or}
use Rattle.std.proofs.lemmas.Option.{none-some, same_Some}
use Rattle.std.proofs.lemmas.Bool.{both_ways, eqb-true}
use Rattle.std.proofs.lemmas.Bool.Decides.{nat_tests}
use Rattle.hy_record.specs.declared.action.Action.{Action}
use Rattle.hy_record.specs.declared.action.Action.TheVariants as asked
use Rattle.hy_record.specs.declared.action.Reply.{Reply}
use Rattle.hy_record.specs.declared.action.Reply.TheVariants as told
use Rattle.hy_record.specs.declared.message.MetaAsk.{MetaAsk}
use Rattle.hy_record.specs.declared.message.MetaSay.TheVariants as says
use Rattle.hy_record.specs.declared.turn.Cue.{Cue}
use Rattle.hy_record.specs.Record.{RecordValue}
use Rattle.hy_record.specs.Stamp.{Timestamp, stamp_lt, stamp_eq, next_stamp}
use Rattle.hy_record.proofs.Order.{stamp_eq-true, stamp_eq-same}
use Rattle.hy_meta.specs.Run.{IsTried}
use Rattle.hy_meta.specs.Service.{Attempt, attempt_of, is_expected, stamp_of_record, record_after}
use Rattle.hy_meta.proofs.Lasting.{applied-tried, stamp-is}
use Rattle.hy_meta.proofs.Rising.{cases_bool, both}
use Rattle.hy_protocol.specs.Inputs.{addresses, has_of}
use Rattle.hy_protocol.specs.declared.plan.PutPlan.{PutPlan}
use Rattle.hy_protocol.specs.Operations.{key_of, write_plan, replied}
use Rattle.hy_protocol.specs.Read.{Version, version_of, newer_version}
use Rattle.hy_protocol.specs.Swap.{swap_reply, swap_reply_at, answered_by, changed_by}
use Rattle.hy_protocol.specs.Write.{first_has, own_stamp, stamp_upon, update_of, exhausted_by}
use Rattle.hy_points.proofs.Courses.{next-above}
use Rattle.hy_trace.specs.Deeds.{Params, Deed, Joined, Began, Handed, Served, Granted, Stopped, Nothing, Start, served, inputs_of, start_of, reply_of}
use Rattle.hy_trace.specs.History.{Return, return_of, Begun}
use Rattle.hy_trace.specs.Messages.{Say}
use Rattle.hy_trace.specs.Points.{Update, update_as, update_at, passing, first_update, is_own, version_made, newer_made}
use Rattle.hy_trace.specs.Trace.{IsTrace, Awaits}
use Rattle.hy_trace.proofs.Growth.{or-cases, or-second, start-keeps, start-same, inputs-step}
use Rattle.hy_trace.proofs.Heard.{inputs-heard, said-verdict}
use Rattle.hy_theorems.specs.Writing.{Change, Swaps, change_value, change_expected, change_action, IsMet}
use Rattle.hy_theorems.proofs.Apart.{own-has, replied-write}
use Rattle.hy_theorems.proofs.Invariant.{by-means, trace-holds}
use Rattle.hy_theorems.proofs.Meaning.{IsUpdating, IsRefused, IsSwapped, tried-keeps}
use Rattle.hy_theorems.proofs.Overwritten.{own-parts}
use Rattle.hy_theorems.proofs.RealTime.{return-reply}
use Rattle.hy_theorems.proofs.TopAt.{top_at, at-end, at-earlier, first-served, first-keeps, serves-or-not, passing-is, mapped-is, tried-first}
use Rattle.hy_theorems.proofs.Writes.{key_of-write, change-same, update-own, none-first, none-second, has-keeps, open-met, SwapReplies, swap-replied}
use Rattle.hy_log.specs.Courses.{stamp_before, earlier_made, first_made}
use Rattle.hy_log.proofs.Coursing.{before-now, before-later}

-- ---- the record before a step

pub before-at : (t : List Deed) (key : List ℕ) (step n : ℕ) → n + 1 ≡ step → step ≤ length t → stamp_before t key step ≡ top_at t key n
before-at [] key step n next within = absurd (omega (arith, next, within))
before-at (d ∷ t) key step n next within =
    elim (cases_bool (step == length t + 1)) [
      | inl here ↦
          let at : step ≡ length t + 1 = eqb-true step (length t + 1) here in
          before-now d t key step at ∙ (sym (stamp-is (served t) key (record_after (served t) key) refl)
          ∙ sym (at-earlier d t key n (omega (arith, at, next)) ∙ at-end t key n (omega (arith, at, next))))
      | inr apart ↦
          let upto : step ≤ length t = grind (arith, nat_tests) in
          before-later d t key step upto ∙ (before-at t key step n next upto ∙ sym (at-earlier d t key n (omega (arith, next, upto))))
    ]

-- an attempt of the operation was served there first, and applied where the record then let it
pub record IsJudged (t : List Deed) (c o : ℕ) (u : Update) : Type 0 where
  pub attempt : Attempt
  pub tried : IsTried (served t) attempt
  pub client : attempt.client ≡ c
  pub op : attempt.op ≡ o
  pub key_is : attempt.key ≡ u.key
  pub stamp_is : attempt.rec.stamp ≡ u.stamp
  pub applies : u.is_applied ≡ (is_expected attempt.expected (stamp_before t u.key u.step) && stamp_lt (stamp_before t u.key u.step) u.stamp)

judged-keeps : (d : Deed) (t : List Deed) (c o : ℕ) (u : Update) → u.step ≤ length t → IsJudged t c o u → IsJudged (d ∷ t) c o u
judged-keeps d t c o u within j = record {
  attempt = j.attempt;
  tried = tried-keeps d t j.attempt j.tried;
  client = j.client;
  op = j.op;
  key_is = j.key_is;
  stamp_is = j.stamp_is;
  applies = j.applies ∙ ap (λ (s : Timestamp). is_expected j.attempt.expected s && stamp_lt s u.stamp) (sym (before-later d t u.key u.step within));
}

judged-now : (ask : MetaAsk) (a : Attempt) (t : List Deed) → attempt_of (served t) ask ≡ Some a → IsJudged (Served ask ∷ t) a.client a.op (update_as t a)
unfolding served
judged-now ask a t is = record {
  attempt = a;
  tried = inl is;
  client = refl;
  op = refl;
  key_is = refl;
  stamp_is = refl;
  applies = ap (λ (s : Timestamp). is_expected a.expected s && stamp_lt s a.rec.stamp) (sym (before-now (Served ask) t a.key (length t + 1) refl));
}

pub first-judged : (c o : ℕ) (t : List Deed) (u : Update) → first_update (is_own c o) t ≡ Some u → IsJudged t c o u
unfolding first_update
first-judged c o [] u is = absurd (none-some u is)
first-judged c o (d ∷ t) u is =
    elim (or-cases (first_update (is_own c o) t) (passing (is_own c o) (update_at d t)) u is) [
      | inl was ↦ judged-keeps d t c o u (first-served (is_own c o) t u was).0.within (first-judged c o t u was)
      | inr now ↦ (let passes = passing-is (is_own c o) (update_at d t) u now.1 in elim (serves-or-not d t) [
        | inr quiet ↦ absurd (none-some u (sym quiet.1 ∙ passes.0))
        | inl serves ↦ served_now serves.0 serves.1 passes.0 (own-parts c o u passes.1)
      ])
    ]
  where
    served_now : (ask : MetaAsk) → d ≡ Served ask → update_at d t ≡ Some u → (u.client ≡ c) × (u.op ≡ o) → IsJudged (d ∷ t) c o u
    served_now ask serves at own =
        (let m = mapped-is t (attempt_of (served t) ask) u (ap (λ (x : Deed). update_at x t) (sym serves) ∙ at) in
        let j : IsJudged (Served ask ∷ t) m.0.client m.0.op u = subst (λ (x : Update). IsJudged (Served ask ∷ t) m.0.client m.0.op x) m.2 (judged-now ask m.0 t m.1) in
        let client : m.0.client ≡ c = ap (λ (x : Update). x.client) m.2 ∙ own.0 in
        let op : m.0.op ≡ o = ap (λ (x : Update). x.op) m.2 ∙ own.1 in
        subst (λ (x : Deed). IsJudged (x ∷ t) c o u) (sym serves) (subst (λ (n : ℕ). IsJudged (Served ask ∷ t) c n u) op (subst (λ (b : ℕ). IsJudged (Served ask ∷ t) b m.0.op u) client j)))

flipped : (a b : Timestamp) → stamp_eq a b ≡ stamp_eq b a
flipped a b = by (stamp_eq a b) refl (stamp_eq b a) refl
  where
    by : (x : Bool) → stamp_eq a b ≡ x → (y : Bool) → stamp_eq b a ≡ y → x ≡ y
    by true first true second = refl
    by false first false second = refl
    by true first false second = absurd (both_ways (stamp_eq b a) second (ap (λ (s : Timestamp). stamp_eq b s) (stamp_eq-true a b first) ∙ stamp_eq-same b))
    by false first true second = absurd (both_ways (stamp_eq a b) first (ap (λ (s : Timestamp). stamp_eq a s) (stamp_eq-true b a second) ∙ stamp_eq-same a))

pub stamp_eq-flip : (a b : Timestamp) (x : Bool) → stamp_eq a b ≡ x → stamp_eq b a ≡ x
stamp_eq-flip a b x is = flipped b a ∙ is

-- ---- swaps

-- the swap as it was judged
pub record SwapJudged (p : Params) (t : List Deed) (b : Begun) (key : List ℕ) (e : Timestamp) (v : List ℕ) (u : Update) : Type 0 where
  pub key_is : u.key ≡ key
  pub own : own_stamp (write_plan p.f p.k b.client b.op key (Some v)) (inputs_of b.client b.op t) ≡ Some u.stamp
  pub met : IsMet (Some e) (inputs_of b.client b.op t)
  pub next : next_stamp e b.client ≡ Some u.stamp
  pub applied : u.is_applied ≡ stamp_eq e (stamp_before t u.key u.step)

swap-change : (k key v : List ℕ) (e : Timestamp) (change : Change) → change_action k change ≡ asked.Swap key e v → (k ≡ key) × (change ≡ Swaps e v)
swap-change k key v e change is = (
  sym (key_of-write k change) ∙ (ap key_of is ∙ key_of-write key (Swaps e v)),
  change-same k key change (Swaps e v) is,
)

module _ (p : Params) (t : List Deed) (trace : IsTrace p t) (b : Begun) (began : start_of b.client b.op t ≡ Some b.start) (key : List ℕ) (e : Timestamp) (v : List ℕ) (action : b.start.action ≡ asked.Swap key e v) where
  abbrev plan : PutPlan
  plan = write_plan p.f p.k b.client b.op key (Some v)

  abbrev inputs : List Cue
  inputs = inputs_of b.client b.op t

  pub swap-next : (x : Timestamp) → own_stamp plan inputs ≡ Some x → IsMet (Some e) inputs → next_stamp e b.client ≡ Some x
  swap-next x own met =
      let has = own-has plan inputs x own in
      let held : stamp_of_record has.0 ≡ e = ap stamp_of_record (same_Some has.0 met.0 (sym has.1 ∙ met.1)) ∙ met.2 in
      ap (λ (s : Timestamp). next_stamp s b.client) (sym held) ∙ has.2

  pub swap-judged : (u : Update) → first_update (is_own b.client b.op) t ≡ Some u → SwapJudged p t b key e v u
  swap-judged u first =
      let j = first-judged b.client b.op t u first in
      let a = j.attempt in
      let meant : IsUpdating p b.client b.op u.key a.expected a.rec t = by-means p t a b.client b.op u.key trace (trace-holds p t trace) j.tried (j.client, j.op, j.key_is) in
      let start : meant.start ≡ b.start = start-same b.client b.op t meant.start b.start meant.began began in
      let is = swap-change u.key key v e meant.change (sym meant.action_is ∙ (ap (λ (s : Start). s.action) start ∙ action)) in
      let met : IsMet (Some e) inputs = subst (λ (c : Change). IsMet (change_expected c) inputs) is.1 meant.met in
      let own_ : own_stamp (write_plan p.f p.k b.client b.op u.key (change_value meant.change)) inputs ≡ Some a.rec.stamp = update-own (write_plan p.f p.k b.client b.op u.key (change_value meant.change)) inputs a.rec meant.update in
      let own : own_stamp plan inputs ≡ Some u.stamp =
      subst (λ (k : List ℕ). own_stamp (write_plan p.f p.k b.client b.op k (Some v)) inputs ≡ Some a.rec.stamp) is.0 (subst (λ (c : Change). own_stamp (write_plan p.f p.k b.client b.op u.key (change_value c)) inputs ≡ Some a.rec.stamp) is.1 own_) ∙ ap Some j.stamp_is in
      let expects : a.expected ≡ Some e = sym meant.expects ∙ ap change_expected is.1 in
      let next = swap-next u.stamp own met in
      record {
        key_is = is.0;
        own = own;
        met = met;
        next = next;
        applied = j.applies ∙ (ap (λ (x : Option Timestamp). is_expected x (stamp_before t u.key u.step) && stamp_lt (stamp_before t u.key u.step) u.stamp) expects ∙ by_test u (stamp_before t u.key u.step) (next-above e b.client u.stamp next).0 (stamp_eq (stamp_before t u.key u.step) e) refl);
      }
    where
      by_test : (u : Update) (found : Timestamp) → stamp_lt e u.stamp ≡ true → (x : Bool) → stamp_eq found e ≡ x → (x && stamp_lt found u.stamp) ≡ stamp_eq e found
      by_test u found above false other = sym (stamp_eq-flip found e false other)
      by_test u found above true same = (let is = stamp_eq-true found e same in ap (λ (s : Timestamp). stamp_lt s u.stamp) is ∙ (above ∙ sym (stamp_eq-flip found e true same)))

  -- how a swap that returned replied
  pub swap-replies : (r : Return) → return_of p b.client b.op t ≡ Some r → (swap_reply plan e inputs ≡ Some r.reply) × SwapReplies plan e inputs r.reply
  swap-replies r returned =
      let h = return-reply p b.client b.op t r trace returned in
      let same : h.start ≡ b.start = start-same b.client b.op t h.start b.start h.began began in
      let replies : swap_reply plan e inputs ≡ Some r.reply = sym (replied-write p b.client b.op key (Swaps e v) inputs) ∙ (ap (λ (a : Action). replied p.f p.k b.client b.op a inputs) (sym (ap (λ (s : Start). s.action) same ∙ action)) ∙ h.replies) in
      (replies, swap-replied plan e inputs r.reply replies)

  -- a swap that was answered was judged
  pub answered-judged : (reply : Reply) → SwapReplies plan e inputs reply → IsMet (Some e) inputs → (x : Timestamp) → own_stamp plan inputs ≡ Some x → (u : Update) × (first_update (is_own b.client b.op) t ≡ Some u)
  answered-judged reply (inr (inl changed)) met x own =
      absurd (both_ways (stamp_eq (stamp_of_record changed.held) e) changed.other (ap (λ (s : Timestamp). stamp_eq s e) (ap stamp_of_record (same_Some changed.held met.0 (sym changed.has ∙ met.1)) ∙ met.2) ∙ stamp_eq-same e))
  answered-judged reply (inr (inr ended)) met x own =
      let has = own-has plan inputs x own in
      absurd (none-some x (sym ended.none ∙ (ap (stamp_upon b.client) (same_Some ended.held has.0 (sym ended.has ∙ has.1)) ∙ has.2)))
  answered-judged reply (inl a) met x own =
      let h = inputs-heard p b.client b.op a.cue t trace a.input in
      let key_is : key_of h.start.action ≡ key = ap key_of (ap (λ (s : Start). s.action) (start-same b.client b.op t h.start b.start h.began began) ∙ action) in
      let own_key : addresses b.client b.op key a.cue ≡ true = subst (λ (k : List ℕ). addresses b.client b.op k a.cue ≡ true) key_is h.own in
      let heard = said-verdict p t b.client b.op key a.cue a.rec reply a.answer own_key h.delivered in
      elim heard.1 [
        | inl swapped ↦ (let s : IsSwapped t b.client b.op key = (trace-holds p t trace).said (Say (says.Swapped b.client b.op key heard.0)) swapped.0 in of_attempt s.0 (applied-tried (served t) s.0 s.1) s.2.0 s.2.1)
        | inr refused ↦ (let s : IsRefused t b.client b.op key heard.0 = (trace-holds p t trace).said (Say (says.Changed b.client b.op key heard.0)) refused.0 in of_attempt s.0 s.1 s.2.0 s.2.1)
      ]
    where
      of_attempt : (a : Attempt) → IsTried (served t) a → a.client ≡ b.client → a.op ≡ b.op → (u : Update) × (first_update (is_own b.client b.op) t ≡ Some u)
      of_attempt a tried client op =
          (let u = tried-first a t tried in
          (u.0, subst (λ (n : ℕ). first_update (is_own b.client n) t ≡ Some u.0) op (subst (λ (c : ℕ). first_update (is_own c a.op) t ≡ Some u.0) client u.1)))

-- a swap that met what it expects, has a timestamp and returned was judged before
pub judged-before : (p : Params) (t : List Deed) → IsTrace p t → (b : Begun) → start_of b.client b.op t ≡ Some b.start → (key : List ℕ) (e : Timestamp) (v : List ℕ) → b.start.action ≡ asked.Swap key e v → IsMet (Some e) (inputs_of b.client b.op t)
    → (x : Timestamp) → own_stamp (write_plan p.f p.k b.client b.op key (Some v)) (inputs_of b.client b.op t) ≡ Some x → (r : Return) → return_of p b.client b.op t ≡ Some r → (u : Update) × (first_update (is_own b.client b.op) t ≡ Some u) × (u.step ≤ r.at)
unfolding IsTrace return_of
judged-before p [] trace b began key e v action met x own r is = absurd (none-some r is)
judged-before p (d ∷ t) trace b began key e v action met x own r is =
    elim (or-cases (return_of p b.client b.op t) (option_map (λ reply. record { at = length t + 1; reply = reply }) (reply_of p b.client b.op (d ∷ t))) r is) [
      | inl was ↦
          let h = return-reply p b.client b.op t r trace.1 was in
          let start_is : h.start ≡ b.start = same_Some h.start b.start (sym (start-keeps b.client b.op d t h.start h.began) ∙ began) in
          elim (inputs-step p b.client b.op d t trace.0) [
            | inl same ↦
                let before = judged-before p t trace.1 b (h.began ∙ ap Some start_is) key e v action (subst (IsMet (Some e)) same met) x (ap (own_stamp (write_plan p.f p.k b.client b.op key (Some v))) (sym same) ∙ own) r was in
                (before.0, first-keeps (is_own b.client b.op) d t before.0 before.1, before.2)
            | inr one ↦
                let same = start-same b.client b.op t one.1.start h.start one.1.began h.began in
                absurd (none-some r.reply (sym one.1.unfinished ∙ (ap (λ (y : Start). replied p.f p.k b.client b.op y.action (inputs_of b.client b.op t)) same ∙ h.replies)))
          ]
      | inr now ↦ by_reply (reply_of p b.client b.op (d ∷ t)) refl now.1
    ]
  where
    by_reply : (q : Option Reply) → reply_of p b.client b.op (d ∷ t) ≡ q → option_map (λ reply. record { at = length t + 1; reply = reply }) q ≡ Some r → (u : Update) × (first_update (is_own b.client b.op) (d ∷ t) ≡ Some u) × (u.step ≤ r.at)
    by_reply None reply_is f = absurd (none-some r f)
    by_reply (Some reply) reply_is f =
        (let at = ap (λ (y : Return). y.at) (same_Some (record { at = length t + 1; reply = reply }) r f) in
        let replies = swap-replies p (d ∷ t) trace b began key e v action r is in
        let u = answered-judged p (d ∷ t) trace b began key e v action r.reply replies.1 met x own in
        let within = (first-served (is_own b.client b.op) (d ∷ t) u.0 u.1).0.within in
        (u.0, u.1, omega (arith, at, within)))

-- ---- a swap that found another record at once

first-is : (cue : Cue) (before : List Cue) (held : Option RecordValue) → first_has (cue ∷ before) ≡ Some held → option_or (first_has before) (has_of cue) ≡ Some held
unfolding first_has
first-is cue before held is = is

-- before the first answer there is no version
no-version : (inputs : List Cue) → first_has inputs ≡ None → version_of inputs ≡ None
unfolding first_has version_of
no-version [] is = refl
no-version (cue ∷ before) is =
    ap (λ (o : Option Version). newer_version o cue (has_of cue)) (no-version before (none-first (first_has before) (has_of cue) is)) ∙ ap (newer_version None cue) (none-second (first_has before) (has_of cue) is)

other-met : (held q : Option RecordValue) (e : Timestamp) → stamp_eq (stamp_of_record held) e ≡ false → q ≡ held → stamp_of_record q ≡ e → ⊥
other-met held q e other same met = both_ways (stamp_eq (stamp_of_record held) e) other (ap (λ (s : Timestamp). stamp_eq s e) (sym (ap stamp_of_record same) ∙ met) ∙ stamp_eq-same e)

none-has : (c o : ℕ) (held : Option RecordValue) → first_has (inputs_of c o []) ≡ Some held → ⊥
unfolding inputs_of first_has
none-has c o held is = none-some held is

-- the answer that told it so is its version
pub once-told : (p : Params) (c o : ℕ) (key : List ℕ) (e : Timestamp) (v : List ℕ) (t : List Deed) → IsTrace p t → ((s : Start) → start_of c o t ≡ Some s → s.action ≡ asked.Swap key e v)
    → (held : Option RecordValue) → first_has (inputs_of c o t) ≡ Some held → stamp_eq (stamp_of_record held) e ≡ false → first_made c o t ≡ version_made c o t
unfolding IsTrace inputs_of first_made version_made
once-told p c o key e v [] trace swaps held has other = absurd (none-has c o held has)
once-told p c o key e v (Joined ∷ t) trace swaps held has other = once-told p c o key e v t trace.1 (λ s began. swaps s (start-keeps c o Joined t s began)) held has other
once-told p c o key e v (Began b n a ∷ t) trace swaps held has other = once-told p c o key e v t trace.1 (λ s began. swaps s (start-keeps c o (Began b n a) t s began)) held has other
once-told p c o key e v (Served ask ∷ t) trace swaps held has other = once-told p c o key e v t trace.1 (λ s began. swaps s (start-keeps c o (Served ask) t s began)) held has other
once-told p c o key e v (Granted ask ∷ t) trace swaps held has other = once-told p c o key e v t trace.1 (λ s began. swaps s (start-keeps c o (Granted ask) t s began)) held has other
once-told p c o key e v (Stopped b ∷ t) trace swaps held has other = once-told p c o key e v t trace.1 (λ s began. swaps s (start-keeps c o (Stopped b) t s began)) held has other
once-told p c o key e v (Nothing ∷ t) trace swaps held has other = once-told p c o key e v t trace.1 (λ s began. swaps s (start-keeps c o Nothing t s began)) held has other
once-told p c o key e v (Handed b n w cue ∷ t) trace swaps held has other =
    elim (cases_bool ((b == c) && (n == o))) [
      | inr foreign ↦ rw foreign (once-told p c o key e v t trace.1 (λ s began. swaps s (start-keeps c o (Handed b n w cue) t s began)) held (rw foreign at has) other)
      | inl own ↦
          let tests = both (b == c) (n == o) own in
          let awaits : Awaits p c o cue t = subst (λ (x : ℕ). Awaits p x o cue t) (eqb-true b c tests.0) (subst (λ (y : ℕ). Awaits p b y cue t) (eqb-true n o tests.1) trace.0.0) in
          rw own (by_first awaits (first_has (inputs_of c o t)) refl (rw own at has))
    ]
  where
    by_first : Awaits p c o cue t → (h : Option (Option RecordValue)) → first_has (inputs_of c o t) ≡ h → first_has (cue ∷ inputs_of c o t) ≡ Some held
        → earlier_made (first_has (inputs_of c o t)) (has_of cue) w (first_made c o t) ≡ newer_made (version_of (inputs_of c o t)) (has_of cue) w (version_made c o t)
    by_first awaits (Some q) was now =
        (let action = swaps awaits.start (start-keeps c o (Handed b n w cue) t awaits.start awaits.began) in
        let pending : swap_reply (write_plan p.f p.k c o key (Some v)) e (inputs_of c o t) ≡ None = sym (replied-write p c o key (Swaps e v) (inputs_of c o t)) ∙ (ap (λ (a : Action). replied p.f p.k c o a (inputs_of c o t)) (sym action) ∙ awaits.unfinished) in
        absurd (other-met held q e other (same_Some q held (sym (has-keeps cue (inputs_of c o t) q was) ∙ now)) (open-met (write_plan p.f p.k c o key (Some v)) e (inputs_of c o t) q pending was)))
    by_first awaits None was now =
        (let tells : has_of cue ≡ Some held = or-second (first_has (inputs_of c o t)) (has_of cue) held was (first-is cue (inputs_of c o t) held now) in
        ap (λ (h : Option (Option RecordValue)). earlier_made h (has_of cue) w (first_made c o t)) was
        ∙ (ap (λ (h : Option (Option RecordValue)). earlier_made None h w (first_made c o t)) tells
        ∙ sym (ap (λ (x : Option Version). newer_made x (has_of cue) w (version_made c o t)) (no-version (inputs_of c o t) was)
        ∙ ap (λ (h : Option (Option RecordValue)). newer_made None h w (version_made c o t)) tells)))

-- a swap that was told first of another record than it expects replies so
pub changed-reply : (by_plan : PutPlan) (e : Timestamp) (inputs : List Cue) (held : Option RecordValue) → first_has inputs ≡ Some held → stamp_eq (stamp_of_record held) e ≡ false → (reply : Reply) → swap_reply by_plan e inputs ≡ Some reply → told.Changed (stamp_of_record held) ≡ reply
unfolding swap_reply swap_reply_at
changed-reply by_plan e [] held has other reply is = absurd (none-some reply is)
changed-reply by_plan e (cue ∷ before) held has other reply is =
    elim (or-cases (swap_reply by_plan e before) (swap_reply_at by_plan e cue before) reply is) [
      | inl was ↦ (let h = told-first (swap-replied by_plan e before reply was) in
          changed-reply by_plan e before held (h.1 ∙ ap Some (same_Some h.0 held (sym (has-keeps cue before h.0 h.1) ∙ has))) other reply was)
      | inr now ↦ same_Some (told.Changed (stamp_of_record held)) reply
          (sym (ap (λ (r : Option RecordValue). option_or (answered_by r cue) (option_or (changed_by e (first_has (cue ∷ before))) (exhausted_by by_plan (first_has (cue ∷ before))))) (none-updated now.0 (update_of by_plan before) refl)
          ∙ (ap (λ (h : Option (Option RecordValue)). option_or (changed_by e h) (exhausted_by by_plan h)) has
          ∙ ap (λ (x : Bool). option_or (cond x None (Some (told.Changed (stamp_of_record held)))) (exhausted_by by_plan (Some held))) other)) ∙ now.1)
    ]
  where
    told-first : SwapReplies by_plan e before reply → (h : Option RecordValue) × (first_has before ≡ Some h)
    told-first (inl a) = (a.met.0, a.met.1)
    told-first (inr (inl changed)) = (changed.held, changed.has)
    told-first (inr (inr ended)) = (ended.held, ended.has)

    none-updated : swap_reply by_plan e before ≡ None → (o : Option RecordValue) → update_of by_plan before ≡ o → o ≡ None
    none-updated pending None was = refl
    none-updated pending (Some r) was =
        (let h = own-has by_plan before r.stamp (update-own by_plan before r was) in
        absurd (other-met held h.0 e other (same_Some h.0 held (sym (has-keeps cue before h.0 h.1) ∙ has)) (open-met by_plan e before h.0 pending h.1)))
