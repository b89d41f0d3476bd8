-- The timestamps of two writes of a key differ.
use Rattle.std.proofs.Common.{◌≡◌, ◌≢◌, ◌<◌, ◌≤◌, ℕ, ◌+◌, true, cond, List, [], ◌∷◌, Option, Some, None, refl, sym, ap, subst, ◌∙◌, inl, inr, arith}
use Rattle.std.specs.Prelude.{◌&&◌, ◌==◌, ◌⊎◌, is_some, nat_lt}
use Rattle.std.proofs.lemmas.Option.{none-some, same_Some, cond_some}
use Rattle.std.proofs.lemmas.Bool.{eqb-true, eqb-false, both_ways}
use Rattle.std.proofs.lemmas.Bool.Decides.{nat_tests}
use Rattle.hy_record.specs.declared.action.Action.{Action}
use Rattle.hy_record.specs.declared.action.Reply.{Reply}
use Rattle.hy_record.specs.declared.action.Reply.TheVariants as told
use Rattle.hy_record.specs.declared.message.MetaSay.TheVariants as says
use Rattle.hy_record.specs.Stamp.{Timestamp, next_stamp, stamp_lt, stamp_eq}
use Rattle.hy_record.specs.Record.{RecordValue}
use Rattle.hy_record.proofs.Order.{stamp_le-lt, stamp_eq-same}
use Rattle.std.specs.Option.{option_and_then}
use Rattle.hy_meta.specs.Service.{stamp_of_record}
use Rattle.hy_meta.proofs.Rising.{cases_bool, both}
use Rattle.hy_record.specs.declared.turn.Cue.{Cue}
use Rattle.hy_protocol.specs.Inputs.{addresses, is_update_answer}
use Rattle.hy_protocol.specs.Swap.{swap_reply}
use Rattle.hy_protocol.specs.declared.plan.PutPlan.{PutPlan}
use Rattle.hy_protocol.specs.Write.{first_has, own_stamp, stamp_upon, update_of, done_by, exhausted_by, write_reply, write_reply_at}
use Rattle.hy_trace.specs.Deeds.{Params, Deed, Joined, Began, Handed, Served, Granted, Stopped, Nothing, Start, inputs_of, start_of, start_at, reply_of, reply_after}
use Rattle.hy_protocol.specs.Operations.{key_of, write_plan, replied}
use Rattle.hy_trace.specs.Trace.{IsIdle, Fits, IsTrace}
pub use Rattle.hy_theorems.specs.Writing.{IsWriting}
use Rattle.hy_trace.proofs.Growth.{some-is, Le, top, or-first, or-cases, start-now, start-same, inputs-step}
use Rattle.hy_theorems.specs.Writing.{Change, Puts, Deletes, Swaps, change_value, change_expected, change_action, IsMet}
pub use Rattle.hy_theorems.proofs.Writes.{own-has}
use Rattle.hy_theorems.proofs.Writes.{key_of-write, has-keeps, update-own, SwapReplies, swap-replied}
use Rattle.hy_theorems.proofs.Numbers.{le-number, next-number}
use Rattle.hy_trace.specs.Messages.{Say}
use Rattle.hy_trace.proofs.Heard.{has-told, inputs-heard, said-verdict}
use Rattle.hy_theorems.proofs.Meaning.{IsReading, IsUpdating, IsRefused}
use Rattle.hy_theorems.proofs.Invariant.{IsCovered, trace-holds, told-reading, by-means, update-same}

-- what was done before an operation began is a trace, in which it could begin
pub start-trace : (p : Params) (c o : ℕ) (t : List Deed) (s : Start) → IsTrace p t → start_of c o t ≡ Some s → IsTrace p s.before × IsIdle p c o s.before
unfolding IsTrace start_of
start-trace p c o [] s trace is = absurd (none-some s is)
start-trace p c o (d ∷ t) s trace is =
    elim (or-cases (start_of c o t) (start_at c o d t) s is) [
      | inl was ↦ start-trace p c o t s trace.1 was
      | inr now ↦ begins p c o d t s trace.0 trace.1 now.1
    ]
  where
    began : (p : Params) (c o b n : ℕ) (a : Action) (t : List Deed) (s : Start) → IsIdle p b n t → IsTrace p t → cond (b == c && n == o) (Some (record { action = a; before = t })) None ≡ Some s → IsTrace p s.before × IsIdle p c o s.before
    began p c o b n a t s idle trace is =
        let parts = cond_some (b == c && n == o) (record { action = a; before = t }) s is in
        let tests = both (b == c) (n == o) parts.0 in
        let idle_ : IsIdle p c o t = subst (λ (x : ℕ). IsIdle p x o t) (eqb-true b c tests.0) (subst (λ (y : ℕ). IsIdle p b y t) (eqb-true n o tests.1) idle) in
        subst (λ (x : Start). IsTrace p x.before × IsIdle p c o x.before) parts.1 (trace, idle_)

    begins : (p : Params) (c o : ℕ) (d : Deed) (t : List Deed) (s : Start) → Fits p t d → IsTrace p t → start_at c o d t ≡ Some s → IsTrace p s.before × IsIdle p c o s.before
    begins p c o (Began b n a) t s fits trace is = began p c o b n a t s fits.0 trace is
    begins p c o Joined t s fits trace is = absurd (none-some s is)
    begins p c o (Handed b n w cue) t s fits trace is = absurd (none-some s is)
    begins p c o (Served ask) t s fits trace is = absurd (none-some s is)
    begins p c o (Granted ask) t s fits trace is = absurd (none-some s is)
    begins p c o (Stopped b) t s fits trace is = absurd (none-some s is)
    begins p c o Nothing t s fits trace is = absurd (none-some s is)

-- what the inputs of an operation had before another began, they have for good
pub inputs-later : (p : Params) (P : List Cue → Type 0) (b n c o : ℕ) (t : List Deed) (s : Start) → ((cue : Cue) (before : List Cue) → P before → P (cue ∷ before)) → IsTrace p t → start_of b n t ≡ Some s → P (inputs_of c o s.before) → P (inputs_of c o t)
unfolding IsTrace start_of
inputs-later p P b n c o [] s more trace is holds = absurd (none-some s is)
inputs-later p P b n c o (d ∷ t) s more trace is holds =
    let before : P (inputs_of c o t) =
    elim (or-cases (start_of b n t) (start_at b n d t) s is) [
      | inl was ↦ inputs-later p P b n c o t s more trace.1 was holds
      | inr now ↦ subst (λ (x : List Deed). P (inputs_of c o x)) (start-now b n d t s now.1) holds
    ] in
    elim (inputs-step p c o d t trace.0) [
      | inl same ↦ subst P (sym same) before
      | inr one ↦ subst P (sym one.2) (more one.0 (inputs_of c o t) before)
    ]

-- an operation that began before another stays as it began
pub start-lasts : (b n c o : ℕ) (t : List Deed) (u s : Start) → start_of b n t ≡ Some u → start_of c o u.before ≡ Some s → start_of c o t ≡ Some s
unfolding start_of
start-lasts b n c o [] u s is was = absurd (none-some u is)
start-lasts b n c o (d ∷ t) u s is was =
    elim (or-cases (start_of b n t) (start_at b n d t) u is) [
      | inl earlier ↦ or-first (start_of c o t) (start_at c o d t) s (start-lasts b n c o t u s earlier was)
      | inr now ↦ or-first (start_of c o t) (start_at c o d t) s (ap (start_of c o) (sym (start-now b n d t u now.1)) ∙ was)
    ]

-- which operation a deed begins
start-number : (c o n : ℕ) (d : Deed) (t : List Deed) (s u : Start) → start_at c o d t ≡ Some s → start_at c n d t ≡ Some u → o ≡ n
start-number c o n (Began b m a) t s u first second =
    let one = both (b == c) (m == o) (cond_some (b == c && m == o) (record { action = a; before = t }) s first).0 in
    let two = both (b == c) (m == n) (cond_some (b == c && m == n) (record { action = a; before = t }) u second).0 in
    sym (eqb-true m o one.1) ∙ eqb-true m n two.1
start-number c o n Joined t s u first second = absurd (none-some s first)
start-number c o n (Handed b m w cue) t s u first second = absurd (none-some s first)
start-number c o n (Served ask) t s u first second = absurd (none-some s first)
start-number c o n (Granted ask) t s u first second = absurd (none-some s first)
start-number c o n (Stopped b) t s u first second = absurd (none-some s first)
start-number c o n Nothing t s u first second = absurd (none-some s first)

-- of two operations of a client one began before the other
pub start-order : (c o n : ℕ) (t : List Deed) (s u : Start) → o ≢ n → start_of c o t ≡ Some s → start_of c n t ≡ Some u → (is_some (start_of c o u.before) ≡ true) ⊎ (is_some (start_of c n s.before) ≡ true)
unfolding start_of
start-order c o n [] s u apart first second = absurd (none-some s first)
start-order c o n (d ∷ t) s u apart first second =
    elim (or-cases (start_of c o t) (start_at c o d t) s first) [
      | inl was ↦ elim (or-cases (start_of c n t) (start_at c n d t) u second) [
        | inl too ↦ start-order c o n t s u apart was too
        | inr now ↦ inl (ap (λ (x : List Deed). is_some (start_of c o x)) (start-now c n d t u now.1) ∙ ap is_some was)
      ]
      | inr now ↦ elim (or-cases (start_of c n t) (start_at c n d t) u second) [
        | inl was ↦ inr (ap (λ (x : List Deed). is_some (start_of c n x)) (start-now c o d t s now.1) ∙ ap is_some was)
        | inr too ↦ absurd (apart (start-number c o n d t s u now.1 too.1))
      ]
    ]

next-above : (h x : Timestamp) (c : ℕ) → next_stamp h c ≡ Some x → (stamp_lt h x ≡ true) × (x.cid ≡ c)
unfolding stamp_lt
next-above h x c is =
    let parts = cond_some (nat_lt (h.sn + 1) 4294967295) (record { sn = h.sn + 1; cid = c }) x is in
    subst (λ (y : Timestamp). (stamp_lt h y ≡ true) × (y.cid ≡ c)) parts.1 (grind (arith, nat_tests), refl)

-- the timestamp of a write is its client's, and above what the record was when it began
pub own-above : (p : Params) (t : List Deed) (c o : ℕ) (key : List ℕ) (x : Timestamp) → IsTrace p t → (w : IsWriting p c o key x t) → (stamp_lt (top w.start.before key) x ≡ true) × (x.cid ≡ c)
own-above p t c o key x trace w =
    let has = own-has (write_plan p.f p.k c o key (change_value w.change)) (inputs_of c o t) x w.own in
    let b = has-told (inputs_of c o t) has.0 has.1 in
    let h = inputs-heard p c o b.cue t trace b.input in
    let key_is : key_of h.start.action ≡ key = ap (λ (s : Start). key_of s.action) (start-same c o t h.start w.start h.began w.began) ∙ (ap key_of w.action_is ∙ key_of-write key w.change) in
    let reading : IsReading c o key has.0 t = subst (λ (k : List ℕ). IsReading c o k has.0 t) key_is (told-reading p t c o (key_of h.start.action) b.cue has.0 (trace-holds p t trace) b.tells h.own h.delivered) in
    let above : Le (top w.start.before key) (stamp_of_record has.0) = subst (λ (s : Start). Le (top s.before key) (stamp_of_record has.0)) (start-same c o t reading.start w.start reading.began w.began) reading.above in
    let next = next-above (stamp_of_record has.0) x c has.2 in
    (stamp_le-lt (top w.start.before key) (stamp_of_record has.0) x above next.0, next.1)

-- a write that replied had read the record, and replied Done with the timestamp upon it, if there is one
pub record RepliesBy (plan : PutPlan) (inputs : List Cue) (reply : Reply) : Type 0 where
  pub held : Option RecordValue
  pub has : first_has inputs ≡ Some held
  pub done : (x : Timestamp) → stamp_upon plan.client held ≡ Some x → told.Done x ≡ reply

by-update : (plan : PutPlan) (cue : Cue) (before : List Cue) (reply : Reply) (r : Option RecordValue) → update_of plan before ≡ r → done_by r cue ≡ Some reply → RepliesBy plan (cue ∷ before) reply
by-update plan cue before reply None was is = absurd (none-some reply is)
by-update plan cue before reply (Some r) was is =
    let has = own-has plan before r.stamp (update-own plan before r was) in
    let told_ = (cond_some (is_update_answer cue) (told.Done r.stamp) reply is).1 in
    record { held = has.0; has = has-keeps cue before has.0 has.1; done = λ x next. ap told.Done (same_Some x r.stamp (sym next ∙ has.2)) ∙ told_ }

by-limit : (plan : PutPlan) (inputs : List Cue) (reply : Reply) (h : Option (Option RecordValue)) → first_has inputs ≡ h → exhausted_by plan h ≡ Some reply → RepliesBy plan inputs reply
by-limit plan inputs reply None has is = absurd (none-some reply is)
by-limit plan inputs reply (Some held) has is = record { held = held; has = has; done = λ x next. absurd (none-some reply (ap (λ (n : Option Timestamp). cond (is_some n) None (Some (told.Exhausted (stamp_of_record held)))) (sym next) ∙ is)) }

pub replies-by : (plan : PutPlan) (inputs : List Cue) (reply : Reply) → write_reply plan inputs ≡ Some reply → RepliesBy plan inputs reply
unfolding write_reply write_reply_at
replies-by plan [] reply is = absurd (none-some reply is)
replies-by plan (cue ∷ before) reply is =
    elim (or-cases (write_reply plan before) (write_reply_at plan cue before) reply is) [
      | inl was ↦ let r = replies-by plan before reply was in record { held = r.held; has = has-keeps cue before r.held r.has; done = r.done }
      | inr now ↦ elim (or-cases (done_by (update_of plan before) cue) (exhausted_by plan (first_has (cue ∷ before))) reply now.1) [
        | inl done ↦ by-update plan cue before reply (update_of plan before) refl done
        | inr limit ↦ by-limit plan (cue ∷ before) reply (first_has (cue ∷ before)) refl limit.1
      ]
    ]

-- the reply to a change
abbrev pub change_reply : PutPlan → Change → List Cue → Option Reply
change_reply plan (Puts v) inputs = write_reply plan inputs
change_reply plan Deletes inputs = write_reply plan inputs
change_reply plan (Swaps e v) inputs = swap_reply plan e inputs

pub replied-write : (p : Params) (c o : ℕ) (key : List ℕ) (change : Change) (inputs : List Cue) → replied p.f p.k c o (change_action key change) inputs ≡ change_reply (write_plan p.f p.k c o key (change_value change)) change inputs
unfolding replied
replied-write p c o key (Puts v) inputs = refl
replied-write p c o key Deletes inputs = refl
replied-write p c o key (Swaps e v) inputs = refl

-- a write that replied had read the record
swap-has : (plan : PutPlan) (e : Timestamp) (inputs : List Cue) (reply : Reply) → SwapReplies plan e inputs reply → (held : Option RecordValue) × (first_has inputs ≡ Some held)
swap-has plan e inputs reply (inl a) = (a.met.0, a.met.1)
swap-has plan e inputs reply (inr (inl c)) = (c.held, c.has)
swap-has plan e inputs reply (inr (inr e_)) = (e_.held, e_.has)

pub change-has : (plan : PutPlan) (change : Change) (inputs : List Cue) (reply : Reply) → change_reply plan change inputs ≡ Some reply → (held : Option RecordValue) × (first_has inputs ≡ Some held)
change-has plan (Puts v) inputs reply is = (let r = replies-by plan inputs reply is in (r.held, r.has))
change-has plan Deletes inputs reply is = (let r = replies-by plan inputs reply is in (r.held, r.has))
change-has plan (Swaps e v) inputs reply is = swap-has plan e inputs reply (swap-replied plan e inputs reply is)

-- the number of a write is above that of the record when it began
pub own-number : (p : Params) (t : List Deed) (c o : ℕ) (key : List ℕ) (x : Timestamp) → IsTrace p t → (w : IsWriting p c o key x t) → (top w.start.before key).sn < x.sn
own-number p t c o key x trace w =
    let has = own-has (write_plan p.f p.k c o key (change_value w.change)) (inputs_of c o t) x w.own in
    let b = has-told (inputs_of c o t) has.0 has.1 in
    let h = inputs-heard p c o b.cue t trace b.input in
    let key_is : key_of h.start.action ≡ key = ap (λ (s : Start). key_of s.action) (start-same c o t h.start w.start h.began w.began) ∙ (ap key_of w.action_is ∙ key_of-write key w.change) in
    let reading : IsReading c o key has.0 t = subst (λ (k : List ℕ). IsReading c o k has.0 t) key_is (told-reading p t c o (key_of h.start.action) b.cue has.0 (trace-holds p t trace) b.tells h.own h.delivered) in
    let above : Le (top w.start.before key) (stamp_of_record has.0) = subst (λ (s : Start). Le (top s.before key) (stamp_of_record has.0)) (start-same c o t reading.start w.start reading.began w.began) reading.above in
    let low = le-number (top w.start.before key) (stamp_of_record has.0) above in
    let next = next-number (stamp_of_record has.0) x c has.2 in
    omega (arith, low, next)

-- the number of a write that replied is not above that of the record
module _ (p : Params) (t : List Deed) (c o : ℕ) (key : List ℕ) (x : Timestamp) (trace : IsTrace p t) (w : IsWriting p c o key x t) (reply : Reply) where
  abbrev plan : Change → PutPlan
  plan change = write_plan p.f p.k c o key (change_value change)

  covered : replied p.f p.k c o w.start.action (inputs_of c o t) ≡ Some reply → IsCovered reply (top t key)
  covered is = subst (λ (k : List ℕ). IsCovered reply (top t k)) (ap key_of w.action_is ∙ key_of-write key w.change) ((trace-holds p t trace).done c o w.start reply w.began is)

  by-put : (change : Change) → own_stamp (plan change) (inputs_of c o t) ≡ Some x → write_reply (plan change) (inputs_of c o t) ≡ Some reply → IsCovered reply (top t key) → x.sn ≤ (top t key).sn
  by-put change own is cover =
      let r = replies-by (plan change) (inputs_of c o t) reply is in
      let has = own-has (plan change) (inputs_of c o t) x own in
      let done : told.Done x ≡ reply = r.done x (ap (stamp_upon c) (same_Some r.held has.0 (sym r.has ∙ has.1)) ∙ has.2) in
      le-number x (top t key) (subst (λ (y : Reply). IsCovered y (top t key)) (sym done) cover)

  by-swap : (e : Timestamp) (v : List ℕ) → w.start.action ≡ change_action key (Swaps e v) → IsMet (Some e) (inputs_of c o t) → own_stamp (plan (Swaps e v)) (inputs_of c o t) ≡ Some x → SwapReplies (plan (Swaps e v)) e (inputs_of c o t) reply → IsCovered reply (top t key) → x.sn ≤ (top t key).sn
  by-swap e v action met own (inr (inl changed)) cover =
      absurd (both_ways (stamp_eq (stamp_of_record changed.held) e) changed.other (ap (λ (y : Timestamp). stamp_eq y e) (ap stamp_of_record (same_Some changed.held met.0 (sym changed.has ∙ met.1)) ∙ met.2) ∙ stamp_eq-same e))
  by-swap e v action met own (inr (inr ended)) cover =
      let has = own-has (plan (Swaps e v)) (inputs_of c o t) x own in
      absurd (none-some x (sym ended.none ∙ (ap (stamp_upon c) (same_Some ended.held has.0 (sym ended.has ∙ has.1)) ∙ has.2)))
  by-swap e v action met own (inl a) cover =
      let h = inputs-heard p c o a.cue t trace a.input in
      let key_is : key_of h.start.action ≡ key = ap (λ (s : Start). key_of s.action) (start-same c o t h.start w.start h.began w.began) ∙ ap key_of action in
      let own_key : addresses c o key a.cue ≡ true = subst (λ (k : List ℕ). addresses c o k a.cue ≡ true) key_is h.own in
      let heard = said-verdict p t c o key a.cue a.rec reply a.answer own_key h.delivered in
      let stamp : a.rec.stamp ≡ x = same_Some a.rec.stamp x (sym (update-own (plan (Swaps e v)) (inputs_of c o t) a.rec a.update) ∙ own) in
      elim heard.1 [
        | inl swapped ↦ le-number x (top t key) (subst (λ (y : Timestamp). Le y (top t key)) stamp (subst (λ (y : Reply). IsCovered y (top t key)) (sym swapped.1) cover))
        | inr changed ↦
            let refused : IsRefused t c o key heard.0 = (trace-holds p t trace).said (Say (says.Changed c o key heard.0)) changed.0 in
            let meant : IsUpdating p c o key refused.0.expected refused.0.rec t = by-means p t refused.0 c o key trace (trace-holds p t trace) refused.1 refused.2 in
            let same : refused.0.rec ≡ a.rec = update-same p t c o key (Swaps e v) w.start a.rec refused.0.rec refused.0.expected w.began action a.update meant in
            let number = ap (λ (y : RecordValue). y.stamp.sn) same in
            let own_number = ap (λ (y : Timestamp). y.sn) stamp in
            let high = refused.4 in
            let le = le-number heard.0 (top t key) refused.3 in
            omega (arith, number, own_number, high, le)
      ]

  pub settled-number : replied p.f p.k c o w.start.action (inputs_of c o t) ≡ Some reply → x.sn ≤ (top t key).sn
  settled-number is = by_change w.change refl
    where
      by_reply : (change : Change) → w.change ≡ change → change_reply (plan change) change (inputs_of c o t) ≡ Some reply
      by_reply change same = sym (replied-write p c o key change (inputs_of c o t)) ∙ (ap (λ (a : Action). replied p.f p.k c o a (inputs_of c o t)) (sym (w.action_is ∙ ap (change_action key) same)) ∙ is)

      by_own : (change : Change) → w.change ≡ change → own_stamp (plan change) (inputs_of c o t) ≡ Some x
      by_own change same = subst (λ (y : Change). own_stamp (plan y) (inputs_of c o t) ≡ Some x) same w.own

      by_change : (change : Change) → w.change ≡ change → x.sn ≤ (top t key).sn
      by_change (Puts v) same = by-put (Puts v) (by_own (Puts v) same) (by_reply (Puts v) same) (covered is)
      by_change Deletes same = by-put Deletes (by_own Deletes same) (by_reply Deletes same) (covered is)
      by_change (Swaps e v) same =
          by-swap e v (w.action_is ∙ ap (change_action key) same) (subst (λ (y : Change). IsMet (change_expected y) (inputs_of c o t)) same w.met) (by_own (Swaps e v) same)
          (swap-replied (plan (Swaps e v)) e (inputs_of c o t) reply (by_reply (Swaps e v) same)) (covered is)

-- what the first answer told when an operation replied, it told for good
met-earlier : (expected : Option Timestamp) (now later : List Cue) (held : Option RecordValue) → first_has now ≡ Some held → first_has later ≡ Some held → IsMet expected later → IsMet expected now
met-earlier None now later held first last met = tt
met-earlier (Some e) now later held first last met = (held, first, ap stamp_of_record (same_Some held met.0 (sym last ∙ met.1)) ∙ met.2)

own-earlier : (plan : PutPlan) (now later : List Cue) (held : Option RecordValue) (x : Timestamp) → first_has now ≡ Some held → first_has later ≡ Some held → own_stamp plan later ≡ Some x → own_stamp plan now ≡ Some x
unfolding own_stamp
own-earlier plan now later held x first last own = ap (option_and_then (stamp_upon plan.client)) (first ∙ sym last) ∙ own

-- the number of a write whose client began another operation after it is not above that of the record then
earlier-number : (p : Params) (t : List Deed) (c o n : ℕ) (key : List ℕ) (x : Timestamp) (u : Start) → IsTrace p t → (w : IsWriting p c o key x t) → n ≢ o → start_of c n t ≡ Some u → is_some (start_of c o u.before) ≡ true → x.sn ≤ (top u.before key).sn
unfolding reply_of
earlier-number p t c o n key x u trace w apart began earlier =
    let before = start-trace p c n t u trace began in
    let some_start = some-is (start_of c o u.before) earlier in
    let start_is : some_start.0 ≡ w.start = same_Some some_start.0 w.start (sym (start-lasts c n c o t u some_start.0 began some_start.1) ∙ w.began) in
    let began_ : start_of c o u.before ≡ Some w.start = some_start.1 ∙ ap Some start_is in
    let reply = some-is (reply_of p c o u.before) (before.1.settled o apart earlier) in
    let plan = write_plan p.f p.k c o key (change_value w.change) in
    let replies : replied p.f p.k c o w.start.action (inputs_of c o u.before) ≡ Some reply.0 = ap (reply_after p c o (inputs_of c o u.before)) (sym began_) ∙ reply.1 in
    let by_change : change_reply plan w.change (inputs_of c o u.before) ≡ Some reply.0 = sym (replied-write p c o key w.change (inputs_of c o u.before)) ∙ (ap (λ (a : Action). replied p.f p.k c o a (inputs_of c o u.before)) (sym w.action_is) ∙ replies) in
    let held = change-has plan w.change (inputs_of c o u.before) reply.0 by_change in
    let lasts : first_has (inputs_of c o t) ≡ Some held.0 = inputs-later p (λ inputs. first_has inputs ≡ Some held.0) c n c o t u (λ cue before_ is. has-keeps cue before_ held.0 is) trace began held.1 in
    let v : IsWriting p c o key x u.before = record {
      start = w.start;
      began = began_;
      change = w.change;
      action_is = w.action_is;
      met = met-earlier (change_expected w.change) (inputs_of c o u.before) (inputs_of c o t) held.0 held.1 lasts w.met;
      own = own-earlier plan (inputs_of c o u.before) (inputs_of c o t) held.0 x held.1 lasts w.own;
    } in
    settled-number p u.before c o key x before.0 v reply.0 replies

-- two writes of a key with one timestamp are one
pub stamps-differ : (p : Params) (t : List Deed) (c o b n : ℕ) (key : List ℕ) (x : Timestamp) → IsTrace p t → IsWriting p c o key x t → IsWriting p b n key x t → (c ≡ b) × (o ≡ n)
stamps-differ p t c o b n key x trace w v =
    let client : c ≡ b = sym (own-above p t c o key x trace w).1 ∙ (own-above p t b n key x trace v).1 in
    (client, number (subst (λ (y : ℕ). IsWriting p y n key x t) (sym client) v))
  where
    number : IsWriting p c n key x t → o ≡ n
    number v =
        elim (cases_bool (o == n)) [
          | inl same ↦ eqb-true o n same
          | inr other ↦
              let apart : o ≢ n = eqb-false o n other in
              elim (start-order c o n t w.start v.start apart w.began v.began) [
                | inl earlier ↦ absurd (let low = earlier-number p t c o n key x v.start trace w (λ e. apart (sym e)) v.began earlier in let high = own-number p t c n key x trace v in omega (arith, low, high))
                | inr earlier ↦ absurd (let low = earlier-number p t c n o key x w.start trace v apart w.began earlier in let high = own-number p t c o key x trace w in omega (arith, low, high))
              ]
        ]
