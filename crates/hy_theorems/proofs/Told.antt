-- What a finished read answers: the value of the write whose timestamp it has, or the absence that it left.
use Rattle.std.proofs.Common.{◌≡◌, ℕ, true, false, List, [], ◌∷◌, length, Option, Some, None, refl, sym, ap, subst, ◌∙◌, inl, inr}
use Rattle.std.specs.Prelude.{◌⊎◌, ◌==◌, nat_le, take}
use Rattle.std.specs.Option.{option_and_then}
use Rattle.std.proofs.lemmas.Option.{none-some, same_Some, cond_some}
use Rattle.std.proofs.lemmas.Bool.{leb-true}
use Rattle.hy_record.specs.declared.action.Reply.{Reply}
use Rattle.hy_record.specs.declared.action.Reply.TheVariants as told
use Rattle.hy_record.specs.Stamp.{Timestamp}
use Rattle.hy_base.specs.Shape.{IsShape}
use Rattle.hy_record.specs.Record.{RecordValue}
use Rattle.hy_meta.proofs.Rising.{cases_bool}
use Rattle.hy_gf.specs.Gf.{IsElement}
use Rattle.hy_code.specs.Fragments.{rebuilt_value}
use Rattle.hy_code.specs.Polynomial.{AreElements}
use Rattle.hy_record.specs.declared.turn.Cue.{Cue}
use Rattle.hy_protocol.specs.Write.{value_record, record_with, record_at, update_of, own_stamp, acknowledging_clouds}
use Rattle.hy_record.specs.Record.{tombstone, is_tombstone}
use Rattle.hy_protocol.specs.Read.{Version, version_of, valid_picks, answer_for, answer_of, read_reply}
use Rattle.hy_meta.specs.Service.{Attempt}
use Rattle.hy_meta.specs.Run.{IsApplied}
use Rattle.hy_meta.proofs.Lasting.{applied-tried}
use Rattle.hy_trace.specs.Deeds.{Params, Deed, Start, served, inputs_of, start_of}
use Rattle.hy_protocol.specs.Operations.{key_of, value_of, write_plan}
use Rattle.hy_trace.specs.Trace.{IsTrace}
pub use Rattle.hy_trace.specs.Hashed.{ArePutBytes}
use Rattle.hy_trace.proofs.Growth.{or-cases, start-same}
use Rattle.hy_trace.proofs.Heard.{IsInput, version-told, inputs-heard}
use Rattle.hy_theorems.specs.Writing.{change_value}
use Rattle.hy_theorems.proofs.Writes.{value_of-write}
use Rattle.hy_theorems.proofs.Meaning.{IsBy, IsUpdating, IsReading}
use Rattle.hy_theorems.proofs.Invariant.{trace-holds, told-reading, by-means}
use Rattle.hy_theorems.proofs.Values.{IsCollisionFree, rebuilt-value}

-- the record is that of the value, or of a delete
abbrev pub IsRecordOf : Params → Option (List ℕ) → RecordValue → Type 0
IsRecordOf p None r = r ≡ tombstone r.stamp
IsRecordOf p (Some v) r = (list : List ℕ) × (r ≡ value_record r.stamp v p.f p.k list)

with-is : (p : Params) (c o : ℕ) (key : List ℕ) (value : Option (List ℕ)) (v : Option (List ℕ)) (inputs : List Cue) (x : Timestamp) (r : RecordValue) → record_with (write_plan p.f p.k c o key v) inputs value x ≡ Some r → IsRecordOf p value r
unfolding record_with value_record
with-is p c o key None v inputs x r is =
    let e = same_Some (tombstone x) r is in
    sym e ∙ ap (λ (y : RecordValue). tombstone y.stamp) e
with-is p c o key (Some w) v inputs x r is =
    let made = value_record x w p.f p.k (acknowledging_clouds (write_plan p.f p.k c o key v) x inputs) in
    let e = (cond_some _ made r is).1 in
    (acknowledging_clouds (write_plan p.f p.k c o key v) x inputs, sym e ∙ ap (λ (y : RecordValue). value_record y.stamp w p.f p.k (acknowledging_clouds (write_plan p.f p.k c o key v) x inputs)) e)

at-is : (p : Params) (c o : ℕ) (key : List ℕ) (value : Option (List ℕ)) (inputs : List Cue) (stamp : Option Timestamp) (r : RecordValue) → option_and_then (record_with (write_plan p.f p.k c o key value) inputs value) stamp ≡ Some r → IsRecordOf p value r
at-is p c o key value inputs None r is = absurd (none-some r is)
at-is p c o key value inputs (Some x) r is = with-is p c o key value value inputs x r is

-- the record that a write sent is that of its value
pub update-is : (p : Params) (c o : ℕ) (key : List ℕ) (value : Option (List ℕ)) (inputs : List Cue) (r : RecordValue) → update_of (write_plan p.f p.k c o key value) inputs ≡ Some r → IsRecordOf p value r
unfolding update_of record_at
update-is p c o key value [] r is = absurd (none-some r is)
update-is p c o key value (cue ∷ before) r is =
    elim (or-cases (update_of (write_plan p.f p.k c o key value) before) (record_at (write_plan p.f p.k c o key value) (cue ∷ before)) r is) [
      | inl was ↦ update-is p c o key value before r was
      | inr now ↦ at-is p c o key value (cue ∷ before) (own_stamp (write_plan p.f p.k c o key value) (cue ∷ before)) r now.1
    ]

-- the inputs that a read had when it replied
pub record IsAnswered (inputs : List Cue) (reply : Reply) : Type 0 where
  pub front : List Cue
  pub within : (cue : Cue) → IsInput front cue → IsInput inputs cue
  pub answer : answer_of (version_of front) ≡ Some reply

pub read-answered : (inputs : List Cue) (reply : Reply) → read_reply inputs ≡ Some reply → IsAnswered inputs reply
unfolding read_reply
read-answered [] reply is = absurd (none-some reply is)
read-answered (cue ∷ before) reply is =
    elim (or-cases (read_reply before) (answer_of (version_of (cue ∷ before))) reply is) [
      | inl was ↦ let a = read-answered before reply was in record { front = a.front; within = λ x i. inr (a.within x i); answer = a.answer }
      | inr now ↦ record { front = cue ∷ before; within = λ x i. i; answer = now.1 }
    ]

-- a write of the key, whose update was applied
pub record IsServedWrite (p : Params) (client op : ℕ) (key : List ℕ) (value : Option (List ℕ)) (stamp : Timestamp) (t : List Deed) : Type 0 where
  pub attempt : Attempt
  pub applied : IsApplied (served t) attempt
  pub by : IsBy client op key attempt
  pub updating : IsUpdating p client op key attempt.expected attempt.rec t
  pub value_is : change_value updating.change ≡ value
  pub stamp_is : attempt.rec.stamp ≡ stamp

-- there was such a write; or none, for the first timestamp
abbrev pub IsFound : Params → List ℕ → Option (List ℕ) → Timestamp → List Deed → Type 0
IsFound p key held stamp t = ((held ≡ None) × (stamp ≡ record { sn = 0; cid = 0 })) ⊎ ((client op : ℕ) × IsServedWrite p client op key held stamp t)

-- what the reply of a read says of the key
abbrev pub TellsFound : Params → List ℕ → Reply → List Deed → Type 0
TellsFound p key (told.Value bytes stamp) t = IsFound p key (Some bytes) stamp t
TellsFound p key (told.Absent stamp) t = IsFound p key None stamp t
TellsFound p key (told.Done stamp) t = Unit {0}
TellsFound p key (told.Exhausted stamp) t = Unit {0}
TellsFound p key (told.Collected count) t = Unit {0}
TellsFound p key (told.Swapped stamp) t = Unit {0}
TellsFound p key (told.Changed stamp) t = Unit {0}

pub tomb-is : (r : RecordValue) → r ≡ tombstone r.stamp → is_tombstone r.kind ≡ true
tomb-is r is = ap (λ (y : RecordValue). is_tombstone y.kind) is

pub value-not : (x : Timestamp) (v : List ℕ) (f k : ℕ) (list : List ℕ) → is_tombstone (value_record x v f k list).kind ≡ false
unfolding value_record
value-not x v f k list = elim (cases_bool (k == 1)) [ inl one ↦ rw one refl | inr more ↦ rw more refl ]

module _ (p : Params) (t : List Deed) (trace : IsTrace p t) (shape : IsShape p.f p.k) (free : IsCollisionFree p t) (bytes_only : ArePutBytes t) (c o : ℕ) (key : List ℕ) where
  -- by the record that a read followed, and whose it is
  by-write : (front : List Cue) (handed : (cue : Cue) → IsInput front cue → IsInput (inputs_of c o t) cue) (w : Version) (a : Attempt) (reply : Reply) → version_of front ≡ Some w → w.rec ≡ Some a.rec → answer_for (Some a.rec) w.since ≡ Some reply → IsApplied (served t) a → a.key ≡ key → (u : IsUpdating p a.client a.op key a.expected a.rec t) → (value : Option (List ℕ)) → change_value u.change ≡ value → TellsFound p key reply t
  unfolding answer_for value_record
  by-write front handed w a reply is rec_is answer applied key_is u None value_is =
      let r = a.rec in
      let tomb : is_tombstone r.kind ≡ true = tomb-is r (subst (λ (v : Option (List ℕ)). IsRecordOf p v r) value_is (update-is p a.client a.op key (change_value u.change) (inputs_of a.client a.op t) r u.update)) in
      subst (λ (x : Reply). TellsFound p key x t) (same_Some (told.Absent r.stamp) reply (rw tomb at answer))
      (inr (a.client, a.op, record { attempt = a; applied = applied; by = (refl, refl, key_is); updating = u; value_is = value_is; stamp_is = refl }))
  by-write front handed w a reply is rec_is answer applied key_is u (Some v) value_is =
      let r = a.rec in
      let b = a.client in
      let n = a.op in
      let of : (list : List ℕ) × (r ≡ value_record r.stamp v p.f p.k list) = subst (λ (y : Option (List ℕ)). IsRecordOf p y r) value_is (update-is p b n key (change_value u.change) (inputs_of b n t) r u.update) in
      let stores : value_of u.start.action ≡ Some v = ap value_of u.action_is ∙ (value_of-write key u.change ∙ value_is) in
      let elements = bytes_only b n u.start v u.began stores in
      let not_tomb : is_tombstone r.kind ≡ false = ap (λ (y : RecordValue). is_tombstone y.kind) of.1 ∙ value-not r.stamp v p.f p.k of.0 in
      let parts = cond_some (nat_le r.k (length (valid_picks r w.since))) (told.Value (rebuilt_value r.size r.k (take r.k (valid_picks r w.since))) r.stamp) reply (rw not_tomb at answer) in
      let Rebuilds : RecordValue → Type 0 = λ y. (nat_le y.k (length (valid_picks y w.since)) ≡ true) → rebuilt_value y.size y.k (take y.k (valid_picks y w.since)) ≡ v in
      let made : Rebuilds (value_record r.stamp v p.f p.k of.0) = rebuilds r.stamp v of.0 b n u.start u.began stores elements front handed w is in
      let rebuilt : rebuilt_value r.size r.k (take r.k (valid_picks r w.since)) ≡ v = subst Rebuilds (sym of.1) made parts.0 in
      subst (λ (x : Reply). TellsFound p key x t) parts.1
      (inr (b, n, record { attempt = a; applied = applied; by = (refl, refl, key_is); updating = u; value_is = value_is ∙ ap Some (sym rebuilt); stamp_is = refl }))
    where
      rebuilds : (x : Timestamp) (v list : List ℕ) (b n : ℕ) (s : Start) → start_of b n t ≡ Some s → value_of s.action ≡ Some v → AreElements IsElement v → (front : List Cue) (handed : (cue : Cue) → IsInput front cue → IsInput (inputs_of c o t) cue) (w : Version) → version_of front ≡ Some w →
          nat_le (value_record x v p.f p.k list).k (length (valid_picks (value_record x v p.f p.k list) w.since)) ≡ true → rebuilt_value (value_record x v p.f p.k list).size (value_record x v p.f p.k list).k (take (value_record x v p.f p.k list).k (valid_picks (value_record x v p.f p.k list) w.since)) ≡ v
      rebuilds x v list b n s began stores elements front handed w is enough = rebuilt-value p t shape free b n s began v stores elements x list c o front handed w is (leb-true p.k (length (valid_picks (value_record x v p.f p.k list) w.since)) enough)

  by-version : (front : List Cue) (handed : (cue : Cue) → IsInput front cue → IsInput (inputs_of c o t) cue) (w : Version) (reply : Reply) → version_of front ≡ Some w → (r : Option RecordValue) → w.rec ≡ r → IsReading c o key r t → answer_for r w.since ≡ Some reply → TellsFound p key reply t
  unfolding answer_for
  by-version front handed w reply is None rec_is reading answer = subst (λ (x : Reply). TellsFound p key x t) (same_Some (told.Absent (record { sn = 0; cid = 0 })) reply answer) (inl (refl, refl))
  by-version front handed w reply is (Some r) rec_is reading answer =
      let of = reading.written in
      let a = of.0 in
      let u : IsUpdating p a.client a.op key a.expected a.rec t = by-means p t a a.client a.op key trace (trace-holds p t trace) (applied-tried (served t) a of.1) (refl, refl, of.2) in
      let same : Some r ≡ Some a.rec = ap Some (sym of.3) in
      by-write front handed w a reply is (rec_is ∙ same) (subst (λ (x : Option RecordValue). answer_for x w.since ≡ Some reply) same answer) of.1 of.2 u (change_value u.change) refl

  by-answer : (front : List Cue) (handed : (cue : Cue) → IsInput front cue → IsInput (inputs_of c o t) cue) (s : Start) (reply : Reply) → start_of c o t ≡ Some s → key_of s.action ≡ key → (v : Option Version) → version_of front ≡ v → answer_of v ≡ Some reply → TellsFound p key reply t
  by-answer front handed s reply began key_is None is answer = absurd (none-some reply answer)
  by-answer front handed s reply began key_is (Some w) is answer =
      let b = version-told front w is in
      let h = inputs-heard p c o b.cue t trace (handed b.cue b.input) in
      let same : key_of h.start.action ≡ key = ap (λ (x : Start). key_of x.action) (start-same c o t h.start s h.began began) ∙ key_is in
      let reading : IsReading c o key w.rec t = subst (λ (k : List ℕ). IsReading c o k w.rec t) same (told-reading p t c o (key_of h.start.action) b.cue w.rec (trace-holds p t trace) b.tells h.own h.delivered) in
      by-version front handed w reply is w.rec refl reading answer

  -- a read of the key tells what a write of the key left
  pub read-tells : (s : Start) (reply : Reply) → start_of c o t ≡ Some s → key_of s.action ≡ key → read_reply (inputs_of c o t) ≡ Some reply → TellsFound p key reply t
  read-tells s reply began key_is is =
      let a = read-answered (inputs_of c o t) reply is in
      by-answer a.front a.within s reply began key_is (version_of a.front) refl a.answer
