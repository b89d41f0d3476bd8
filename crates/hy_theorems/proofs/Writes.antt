-- What a write sends and replies, by its inputs.
use Rattle.std.proofs.Common.{◌≡◌, ℕ, Bool, true, false, cond, List, [], ◌∷◌, map, Option, Some, None, refl, sym, ap, ◌∙◌, inl, inr}
use Rattle.std.specs.Prelude.{◌⊎◌, is_some}
use Rattle.std.specs.Option.{option_or, option_and_then}
use Rattle.std.specs.List.{AllByRecursion}
use Rattle.std.proofs.lemmas.Option.{none-some, same_Some, cond_some, option_and_then_some}
use Rattle.hy_record.specs.declared.message.MetaAsk.TheVariants as asks
use Rattle.hy_record.specs.declared.action.Reply.{Reply}
use Rattle.hy_record.specs.declared.action.Reply.TheVariants as told
use Rattle.hy_record.specs.Stamp.{Timestamp, stamp_eq}
use Rattle.hy_record.proofs.Order.{stamp_eq-true}
use Rattle.hy_meta.proofs.Rising.{cases_bool}
use Rattle.hy_record.specs.Record.{RecordValue}
use Rattle.hy_meta.specs.Service.{stamp_of_record}
use Rattle.hy_code.specs.Fragments.{fragment_of}
use Rattle.hy_record.specs.declared.turn.Cue.{Cue}
use Rattle.hy_record.specs.declared.turn.Out.{Out}
use Rattle.hy_record.specs.declared.turn.Out.TheVariants as outs
use Rattle.hy_record.specs.declared.cloud.CloudAct.TheVariants as acts
use Rattle.hy_protocol.specs.Inputs.{has_of, is_update_answer, is_tick}
use Rattle.hy_protocol.specs.declared.plan.PutPlan.{PutPlan}
use Rattle.hy_protocol.specs.Write.{sends_by, first_has, own_stamp, stamp_upon, value_record, record_with, record_at, acknowledging_clouds, update_of, done_by, exhausted_by, write_reply_at, write_reply, puts_to, earlier_sends, write_sends}
use Rattle.hy_record.specs.Record.{tombstone}
use Rattle.hy_protocol.specs.Swap.{changed_by, answered_by, swap_reply_at, swap_reply, expecting, swap_sends}
use Rattle.hy_protocol.specs.Operations.{key_of, value_of}
use Rattle.hy_trace.specs.Hashed.{IsInput}
use Rattle.hy_theorems.specs.Writing.{Change, Puts, Deletes, Swaps, change_value, change_action, IsMet}
use Rattle.hy_trace.proofs.Growth.{or-first, or-cases}

pub key_of-write : (key : List ℕ) (change : Change) → key_of (change_action key change) ≡ key
key_of-write key (Puts v) = refl
key_of-write key Deletes = refl
key_of-write key (Swaps e v) = refl

pub value_of-write : (key : List ℕ) (change : Change) → value_of (change_action key change) ≡ change_value change
value_of-write key (Puts v) = refl
value_of-write key Deletes = refl
value_of-write key (Swaps e v) = refl

-- the change that an action asks for is one
pub change-same : (k key : List ℕ) (v w : Change) → change_action k v ≡ change_action key w → v ≡ w
change-same k key (Puts x) (Puts y) is = cc
change-same k key (Puts x) Deletes is = absurd cc
change-same k key (Puts x) (Swaps e y) is = absurd cc
change-same k key Deletes (Puts y) is = absurd cc
change-same k key Deletes Deletes is = refl
change-same k key Deletes (Swaps e y) is = absurd cc
change-same k key (Swaps d x) (Puts y) is = absurd cc
change-same k key (Swaps d x) Deletes is = absurd cc
change-same k key (Swaps d x) (Swaps e y) is = cc

pub has-keeps : (cue : Cue) (before : List Cue) (h : Option RecordValue) → first_has before ≡ Some h → first_has (cue ∷ before) ≡ Some h
unfolding first_has
has-keeps cue before h is = or-first (first_has before) (has_of cue) h is

pub met-keeps : (expected : Option Timestamp) (cue : Cue) (before : List Cue) → IsMet expected before → IsMet expected (cue ∷ before)
met-keeps None cue before met = tt
met-keeps (Some e) cue before met = (met.0, has-keeps cue before met.0 met.1, met.2)

pub own-keeps : (plan : PutPlan) (cue : Cue) (before : List Cue) (s : Timestamp) → own_stamp plan before ≡ Some s → own_stamp plan (cue ∷ before) ≡ Some s
unfolding own_stamp first_has
own-keeps plan cue before s is = keeps (first_has before) is
  where
    keeps : (h : Option (Option RecordValue)) → option_and_then (stamp_upon plan.client) h ≡ Some s → option_and_then (stamp_upon plan.client) (option_or h (has_of cue)) ≡ Some s
    keeps None e = absurd (none-some s e)
    keeps (Some r) e = e

pub update-keeps : (plan : PutPlan) (cue : Cue) (before : List Cue) (r : RecordValue) → update_of plan before ≡ Some r → update_of plan (cue ∷ before) ≡ Some r
unfolding update_of
update-keeps plan cue before r is = or-first (update_of plan before) (record_at plan (cue ∷ before)) r is

-- the record that a write can send has its timestamp
with-stamp : (plan : PutPlan) (inputs : List Cue) (value : Option (List ℕ)) (s : Timestamp) (r : RecordValue) → record_with plan inputs value s ≡ Some r → r.stamp ≡ s
unfolding record_with value_record
with-stamp plan inputs None s r is = ap (λ (x : RecordValue). x.stamp) (sym (same_Some (tombstone s) r is))
with-stamp plan inputs (Some v) s r is =
    let made = value_record s v plan.f plan.k (acknowledging_clouds plan s inputs) in
    ap (λ (x : RecordValue). x.stamp) (sym (cond_some _ made r is).1)

at-stamp : (plan : PutPlan) (inputs : List Cue) (r : RecordValue) → record_at plan inputs ≡ Some r → own_stamp plan inputs ≡ Some r.stamp
unfolding record_at
at-stamp plan inputs r is = by_stamp (own_stamp plan inputs) is
  where
    by_stamp : (o : Option Timestamp) → option_and_then (record_with plan inputs plan.value) o ≡ Some r → o ≡ Some r.stamp
    by_stamp None e = absurd (none-some r e)
    by_stamp (Some s) e = ap Some (sym (with-stamp plan inputs plan.value s r e))

-- the record that a write sent has its timestamp
pub update-own : (plan : PutPlan) (inputs : List Cue) (r : RecordValue) → update_of plan inputs ≡ Some r → own_stamp plan inputs ≡ Some r.stamp
unfolding update_of
update-own plan [] r is = absurd (none-some r is)
update-own plan (cue ∷ before) r is =
    elim (or-cases (update_of plan before) (record_at plan (cue ∷ before)) r is) [
      | inl was ↦ own-keeps plan cue before r.stamp (update-own plan before r was)
      | inr now ↦ at-stamp plan (cue ∷ before) r now.1
    ]

pub all-mapped : {A B : Type 0} (P : B → Type 0) (f : A → B) (xs : List A) → ((x : A) → P (f x)) → AllByRecursion P (map f xs)
all-mapped P f [] each = tt
all-mapped P f (x ∷ xs) each = (each x, all-mapped P f xs each)

pub all-cond : {A : Type 0} (P : A → Type 0) (b : Bool) (xs ys : List A) → AllByRecursion P xs → AllByRecursion P ys → AllByRecursion P (cond b xs ys)
all-cond P true xs ys first second = first
all-cond P false xs ys first second = second

pub all-map : {A B : Type 0} (P : B → Type 0) (f : A → B) (xs : List A) → AllByRecursion (λ x. P (f x)) xs → AllByRecursion P (map f xs)
all-map P f [] all = tt
all-map P f (x ∷ xs) all = (all.0, all-map P f xs all.1)

-- each message that a write sends is a read, an update with its record, or a put of a fragment under its timestamp
module _ (plan : PutPlan) (P : Out → Type 0) (reads : P (outs.Meta (asks.Read plan.client plan.op plan.key))) where
  abbrev pub Updates : List Cue → Type 0
  Updates inputs = (r : RecordValue) → update_of plan inputs ≡ Some r → P (outs.Meta (asks.Update plan.client plan.op plan.key r))

  abbrev pub Stores : List Cue → Type 0
  Stores inputs = (s : Timestamp) (v : List ℕ) (cloud : ℕ) → own_stamp plan inputs ≡ Some s → plan.value ≡ Some v →
      P (outs.Cloud (record { client = plan.client; op = plan.op; cloud = cloud; wish = record { key = plan.key; stamp = s; act = acts.Put (fragment_of v plan.k cloud) } }))

  puts-all : (value : Option (List ℕ)) (o : Option Timestamp) (clouds : List ℕ) (inputs : List Cue) → plan.value ≡ value → ((s : Timestamp) → o ≡ Some s → own_stamp plan inputs ≡ Some s) → Stores inputs → AllByRecursion P (puts_to plan value o clouds)
  puts-all None o clouds inputs is own puts = tt
  puts-all (Some v) None clouds inputs is own puts = tt
  puts-all (Some v) (Some s) clouds inputs is own puts = all-mapped P _ clouds (λ cloud. puts s v cloud (own s refl) is)

  earlier-all : (cue : Cue) (before : List Cue) (h : Option (Option RecordValue)) → Stores (cue ∷ before) → AllByRecursion P (earlier_sends plan cue before h)
  earlier-all cue before None puts =
      all-cond P (is_some (has_of cue)) _ _ (puts-all plan.value (own_stamp plan (cue ∷ before)) _ (cue ∷ before) refl (λ s e. e) puts) (all-cond P (is_tick cue) _ _ (reads, tt) tt)
  earlier-all cue before (Some held) puts =
      all-cond P (is_tick cue) _ _ (puts-all plan.value (own_stamp plan before) _ (cue ∷ before) refl (λ s e. own-keeps plan cue before s e) puts) tt

  sends-all : (cue : Cue) (before : List Cue) (old now : Option RecordValue) → update_of plan before ≡ old → record_at plan (cue ∷ before) ≡ now → Updates (cue ∷ before) → Stores (cue ∷ before) → AllByRecursion P (sends_by plan cue before old now)
  unfolding update_of
  sends-all cue before (Some r) now was is updates puts =
      all-cond P (is_tick cue) _ _ (updates r (update-keeps plan cue before r was), tt) tt
  sends-all cue before None (Some r) was is updates puts = (updates r (ap (λ o. option_or o (record_at plan (cue ∷ before))) was ∙ is), tt)
  sends-all cue before None None was is updates puts = earlier-all cue before (first_has before) puts

  pub write-sends-all : (inputs : List Cue) → Updates inputs → Stores inputs → AllByRecursion P (write_sends plan inputs)
  unfolding write_sends
  write-sends-all [] updates puts = (reads, tt)
  write-sends-all (cue ∷ before) updates puts =
      all-cond P (is_some (write_reply plan before)) _ _ tt (sends-all cue before (update_of plan before) (record_at plan (cue ∷ before)) refl refl updates puts)

-- a write is done where its update was answered, and else no timestamp was left
pub reply-cases : (plan : PutPlan) (cue : Cue) (before : List Cue) (reply : Reply) → write_reply_at plan cue before ≡ Some reply →
    ((r : RecordValue) × (update_of plan before ≡ Some r) × (is_update_answer cue ≡ true) × (told.Done r.stamp ≡ reply)) ⊎ ((held : Option RecordValue) × (told.Exhausted (stamp_of_record held) ≡ reply))
unfolding write_reply_at
reply-cases plan cue before reply is =
    elim (or-cases (done_by (update_of plan before) cue) (exhausted_by plan (first_has (cue ∷ before))) reply is) [
      | inl done ↦ inl (by_update (update_of plan before) refl done)
      | inr exhausted ↦ inr (by_has (first_has (cue ∷ before)) exhausted.1)
    ]
  where
    by_update : (o : Option RecordValue) → update_of plan before ≡ o → done_by o cue ≡ Some reply → (r : RecordValue) × (update_of plan before ≡ Some r) × (is_update_answer cue ≡ true) × (told.Done r.stamp ≡ reply)
    by_update None was e = absurd (none-some reply e)
    by_update (Some r) was e = let both = cond_some (is_update_answer cue) (told.Done r.stamp) reply e in (r, was, both.0, both.1)

    by_next : (n : Option Timestamp) (held : Option RecordValue) → cond (is_some n) None (Some (told.Exhausted (stamp_of_record held))) ≡ Some reply → told.Exhausted (stamp_of_record held) ≡ reply
    by_next None held e = same_Some (told.Exhausted (stamp_of_record held)) reply e
    by_next (Some s) held e = absurd (none-some reply e)

    by_has : (h : Option (Option RecordValue)) → exhausted_by plan h ≡ Some reply → (held : Option RecordValue) × (told.Exhausted (stamp_of_record held) ≡ reply)
    by_has None e = absurd (none-some reply e)
    by_has (Some held) e = (held, by_next (stamp_upon plan.client held) held e)

-- a swap without a reply found what it expects, once it has an answer
pub none-first : {A : Type 0} (a b : Option A) → option_or a b ≡ None → a ≡ None
none-first None b is = refl
none-first (Some x) b is = absurd (none-some x (sym is))

pub none-second : {A : Type 0} (a b : Option A) → option_or a b ≡ None → b ≡ None
none-second None b is = is
none-second (Some x) b is = absurd (none-some x (sym is))

unchanged-met : (expected : Timestamp) (held : Option RecordValue) → changed_by expected (Some held) ≡ None → stamp_of_record held ≡ expected
unchanged-met expected held is =
    elim (cases_bool (stamp_eq (stamp_of_record held) expected)) [
      | inl same ↦ stamp_eq-true (stamp_of_record held) expected same
      | inr other ↦ absurd (none-some (told.Changed (stamp_of_record held)) (sym (rw other at is)))
    ]

none-told : (h : Option RecordValue) → first_has [] ≡ Some h → ⊥
unfolding first_has
none-told h e = none-some h e

pub open-met : (plan : PutPlan) (expected : Timestamp) (inputs : List Cue) (held : Option RecordValue) → swap_reply plan expected inputs ≡ None → first_has inputs ≡ Some held → stamp_of_record held ≡ expected
unfolding swap_reply swap_reply_at
open-met plan expected [] held pending is = absurd (none-told held is)
open-met plan expected (cue ∷ before) held pending is =
    let now = none-second (swap_reply plan expected before) _ pending in
    let rest = none-second (answered_by (update_of plan before) cue) _ now in
    let unchanged : changed_by expected (first_has (cue ∷ before)) ≡ None = none-first (changed_by expected (first_has (cue ∷ before))) _ rest in
    unchanged-met expected held (ap (changed_by expected) (sym is) ∙ unchanged)

pub own-has : (plan : PutPlan) (inputs : List Cue) (x : Timestamp) → own_stamp plan inputs ≡ Some x → (h : Option RecordValue) × (first_has inputs ≡ Some h) × (stamp_upon plan.client h ≡ Some x)
unfolding own_stamp
own-has plan inputs x is = option_and_then_some (stamp_upon plan.client) (first_has inputs) x is (λ h has next. (h, has, next))

pub own-met : (plan : PutPlan) (expected : Timestamp) (inputs : List Cue) (x : Timestamp) → swap_reply plan expected inputs ≡ None → own_stamp plan inputs ≡ Some x → IsMet (Some expected) inputs
own-met plan expected inputs x pending own =
    let has = own-has plan inputs x own in
    (has.0, has.1, open-met plan expected inputs has.0 pending has.1)

-- each message that a swap sends is a read, a swap with its record, or a put of a fragment under its timestamp, where it found what it expects
module _ (plan : PutPlan) (expected : Timestamp) (P : Out → Type 0) (reads : P (outs.Meta (asks.Read plan.client plan.op plan.key))) where
  abbrev pub SwapUpdates : List Cue → Type 0
  SwapUpdates inputs = (r : RecordValue) → IsMet (Some expected) inputs → update_of plan inputs ≡ Some r → P (outs.Meta (asks.Swap plan.client plan.op plan.key expected r))

  abbrev pub SwapPuts : List Cue → Type 0
  SwapPuts inputs = (s : Timestamp) (v : List ℕ) (cloud : ℕ) → IsMet (Some expected) inputs → own_stamp plan inputs ≡ Some s → plan.value ≡ Some v →
      P (outs.Cloud (record { client = plan.client; op = plan.op; cloud = cloud; wish = record { key = plan.key; stamp = s; act = acts.Put (fragment_of v plan.k cloud) } }))

  pub swap-sends-all : (inputs : List Cue) → SwapUpdates inputs → SwapPuts inputs → AllByRecursion P (swap_sends plan expected inputs)
  unfolding swap_sends
  swap-sends-all [] updates puts = (reads, tt)
  swap-sends-all (cue ∷ before) updates puts = by_reply (swap_reply plan expected (cue ∷ before)) refl
    where
      by_reply : (o : Option Reply) → swap_reply plan expected (cue ∷ before) ≡ o → AllByRecursion P (cond (is_some o) [] (map (expecting expected) (sends_by plan cue before (update_of plan before) (record_at plan (cue ∷ before)))))
      by_reply (Some reply) is = tt
      by_reply None pending =
          all-map P (expecting expected) _
          (sends-all plan (λ out. P (expecting expected out)) reads cue before (update_of plan before) (record_at plan (cue ∷ before)) refl refl
          (λ r sent. updates r (own-met plan expected (cue ∷ before) r.stamp pending (update-own plan (cue ∷ before) r sent)) sent)
          (λ s v cloud own put. puts s v cloud (own-met plan expected (cue ∷ before) s pending own) own put))

-- how a swap replied: its swap was answered; or the record that it was told was not the expected one; or no timestamp was left
pub record IsAnsweredSwap (plan : PutPlan) (expected : Timestamp) (inputs : List Cue) (reply : Reply) : Type 0 where
  pub rec : RecordValue
  pub update : update_of plan inputs ≡ Some rec
  pub cue : Cue
  pub input : IsInput inputs cue
  pub answer : answered_by (Some rec) cue ≡ Some reply
  pub met : IsMet (Some expected) inputs

pub record IsChangedSwap (expected : Timestamp) (inputs : List Cue) (reply : Reply) : Type 0 where
  pub held : Option RecordValue
  pub has : first_has inputs ≡ Some held
  pub other : stamp_eq (stamp_of_record held) expected ≡ false
  pub reply_is : told.Changed (stamp_of_record held) ≡ reply

pub record IsEndedSwap (plan : PutPlan) (inputs : List Cue) (reply : Reply) : Type 0 where
  pub held : Option RecordValue
  pub has : first_has inputs ≡ Some held
  pub none : stamp_upon plan.client held ≡ None
  pub reply_is : told.Exhausted (stamp_of_record held) ≡ reply

abbrev pub SwapReplies : PutPlan → Timestamp → List Cue → Reply → Type 0
SwapReplies plan expected inputs reply = IsAnsweredSwap plan expected inputs reply ⊎ (IsChangedSwap expected inputs reply ⊎ IsEndedSwap plan inputs reply)

swap-keeps : (plan : PutPlan) (expected : Timestamp) (cue : Cue) (before : List Cue) (reply : Reply) → SwapReplies plan expected before reply → SwapReplies plan expected (cue ∷ before) reply
swap-keeps plan expected cue before reply (inl a) = inl (record { rec = a.rec; update = update-keeps plan cue before a.rec a.update; cue = a.cue; input = inr a.input; answer = a.answer; met = met-keeps (Some expected) cue before a.met })
swap-keeps plan expected cue before reply (inr (inl c)) = inr (inl (record { held = c.held; has = has-keeps cue before c.held c.has; other = c.other; reply_is = c.reply_is }))
swap-keeps plan expected cue before reply (inr (inr e)) = inr (inr (record { held = e.held; has = has-keeps cue before e.held e.has; none = e.none; reply_is = e.reply_is }))

swap-now : (plan : PutPlan) (expected : Timestamp) (cue : Cue) (before : List Cue) (reply : Reply) → swap_reply plan expected before ≡ None → swap_reply_at plan expected cue before ≡ Some reply → SwapReplies plan expected (cue ∷ before) reply
unfolding swap_reply_at
swap-now plan expected cue before reply pending is =
    elim (or-cases (answered_by (update_of plan before) cue) _ reply is) [
      | inl answered ↦ inl (by_update (update_of plan before) refl answered)
      | inr rest ↦ elim (or-cases (changed_by expected (first_has (cue ∷ before))) (exhausted_by plan (first_has (cue ∷ before))) reply rest.1) [
        | inl changed ↦ inr (inl (by_has (first_has (cue ∷ before)) refl changed))
        | inr ended ↦ inr (inr (by_end (first_has (cue ∷ before)) refl ended.1))
      ]
    ]
  where
    by_update : (o : Option RecordValue) → update_of plan before ≡ o → answered_by o cue ≡ Some reply → IsAnsweredSwap plan expected (cue ∷ before) reply
    by_update None was e = absurd (none-some reply e)
    by_update (Some r) was e =
        record {
          rec = r;
          update = update-keeps plan cue before r was;
          cue = cue;
          input = inl refl;
          answer = e;
          met = met-keeps (Some expected) cue before (own-met plan expected before r.stamp pending (update-own plan before r was));
        }

    by_has : (h : Option (Option RecordValue)) → first_has (cue ∷ before) ≡ h → changed_by expected h ≡ Some reply → IsChangedSwap expected (cue ∷ before) reply
    by_has None has e = absurd (none-some reply e)
    by_has (Some held) has e = by_test (stamp_eq (stamp_of_record held) expected) refl e
      where
        by_test : (b : Bool) → stamp_eq (stamp_of_record held) expected ≡ b → cond b None (Some (told.Changed (stamp_of_record held))) ≡ Some reply → IsChangedSwap expected (cue ∷ before) reply
        by_test true same e = absurd (none-some reply e)
        by_test false other e = record { held = held; has = has; other = other; reply_is = same_Some (told.Changed (stamp_of_record held)) reply e }

    by_end : (h : Option (Option RecordValue)) → first_has (cue ∷ before) ≡ h → exhausted_by plan h ≡ Some reply → IsEndedSwap plan (cue ∷ before) reply
    by_end None has e = absurd (none-some reply e)
    by_end (Some held) has e = by_next (stamp_upon plan.client held) refl e
      where
        by_next : (n : Option Timestamp) → stamp_upon plan.client held ≡ n → cond (is_some n) None (Some (told.Exhausted (stamp_of_record held))) ≡ Some reply → IsEndedSwap plan (cue ∷ before) reply
        by_next None none e = record { held = held; has = has; none = none; reply_is = same_Some (told.Exhausted (stamp_of_record held)) reply e }
        by_next (Some x) none e = absurd (none-some reply e)

pub swap-replied : (plan : PutPlan) (expected : Timestamp) (inputs : List Cue) (reply : Reply) → swap_reply plan expected inputs ≡ Some reply → SwapReplies plan expected inputs reply
unfolding swap_reply
swap-replied plan expected [] reply is = absurd (none-some reply is)
swap-replied plan expected (cue ∷ before) reply is =
    elim (or-cases (swap_reply plan expected before) (swap_reply_at plan expected cue before) reply is) [
      | inl was ↦ swap-keeps plan expected cue before reply (swap-replied plan expected before reply was)
      | inr now ↦ swap-now plan expected cue before reply now.0 now.1
    ]
