-- What each message of a trace means.
use Rattle.std.proofs.Common.{◌≡◌, ◌≤◌, ℕ, Bool, true, false, List, [], ◌∷◌, ◌++◌, Option, Some, None, refl, sym, ap, subst, inl, inr}
use Rattle.std.specs.Prelude.{◌⊎◌, ◌||◌}
use Rattle.std.specs.List.{AllByRecursion}
use Rattle.hy_record.specs.declared.message.MetaAsk.{MetaAsk}
use Rattle.hy_record.specs.declared.message.MetaAsk.TheVariants as asks
use Rattle.hy_record.specs.declared.message.MetaSay.{MetaSay}
use Rattle.hy_record.specs.declared.message.MetaSay.TheVariants as says
use Rattle.std.proofs.lemmas.Option.{same_Some, cond_some}
use Rattle.hy_record.specs.Stamp.{Timestamp, stamp_lt}
use Rattle.hy_record.specs.Record.{RecordValue}
use Rattle.hy_record.proofs.Order.{stamp_lt-le}
use Rattle.hy_record.specs.Clouds.{clouds_of}
use Rattle.hy_theorems.proofs.Listing.{IsIn}
use Rattle.hy_meta.specs.Service.{Attempt, is_judged, attempt_of, stamp_of_record, record_stamp, is_old}
use Rattle.hy_meta.specs.Run.{IsTried, IsApplied}
use Rattle.hy_meta.proofs.Lasting.{olds-below}
use Rattle.hy_code.specs.Fragments.{fragment_of}
use Rattle.hy_record.specs.declared.turn.Cue.{Cue}
use Rattle.hy_record.specs.declared.cloud.CloudAct.{CloudAct}
use Rattle.hy_record.specs.declared.cloud.CloudAct.TheVariants as acts
use Rattle.hy_protocol.specs.Write.{own_stamp, update_of}
use Rattle.hy_trace.specs.Deeds.{Params, Deed, Joined, Began, Handed, Served, Granted, Stopped, Nothing, Start, served, inputs_of, start_of}
use Rattle.hy_trace.specs.Messages.{Message, Ask, Say, Request, Answer, IsSent}
use Rattle.hy_protocol.specs.Operations.{key_of, write_plan}
use Rattle.hy_trace.specs.Trace.{Fits, IsTrace}
use Rattle.hy_theorems.specs.Writing.{Change, change_value, change_expected, change_action, IsMet}
use Rattle.hy_trace.proofs.Growth.{Le, le-trans, top, top-rises, served-step, start-keeps, inputs-step}
use Rattle.hy_theorems.proofs.Writes.{own-keeps, update-keeps, met-keeps}
use Rattle.hy_trace.proofs.Heard.{sent-keeps}

-- the request is one of these
abbrev pub IsAsked : List MetaAsk → MetaAsk → Type 0
IsAsked [] ask = ⊥
IsAsked (first ∷ others) ask = (first ≡ ask) ⊎ IsAsked others ask

pub asked-keeps : (d : Deed) (t : List Deed) (ask : MetaAsk) → IsAsked (served t) ask → IsAsked (served (d ∷ t)) ask
asked-keeps d t ask is =
    elim (served-step d t) [
      | inl same ↦ subst (λ (x : List MetaAsk). IsAsked x ask) (sym same) is
      | inr more ↦ subst (λ (x : List MetaAsk). IsAsked x ask) (sym more.1) (inr is)
    ]

-- what was served had been sent
pub asked-sent : (p : Params) (t : List Deed) (ask : MetaAsk) → IsTrace p t → IsAsked (served t) ask → IsSent p t (Ask ask)
unfolding served IsTrace
asked-sent p [] ask trace is = absurd is
asked-sent p (Joined ∷ t) ask trace is = sent-keeps p Joined t (Ask ask) (asked-sent p t ask trace.1 is)
asked-sent p (Began c o a ∷ t) ask trace is = sent-keeps p (Began c o a) t (Ask ask) (asked-sent p t ask trace.1 is)
asked-sent p (Handed c o w cue ∷ t) ask trace is = sent-keeps p (Handed c o w cue) t (Ask ask) (asked-sent p t ask trace.1 is)
asked-sent p (Granted wish ∷ t) ask trace is = sent-keeps p (Granted wish) t (Ask ask) (asked-sent p t ask trace.1 is)
asked-sent p (Stopped c ∷ t) ask trace is = sent-keeps p (Stopped c) t (Ask ask) (asked-sent p t ask trace.1 is)
asked-sent p (Nothing ∷ t) ask trace is = sent-keeps p Nothing t (Ask ask) (asked-sent p t ask trace.1 is)
asked-sent p (Served first ∷ t) ask trace (inl is) = sent-keeps p (Served first) t (Ask ask) (subst (λ (x : MetaAsk). IsSent p t (Ask x)) is trace.0)
asked-sent p (Served first ∷ t) ask trace (inr later) = sent-keeps p (Served first) t (Ask ask) (asked-sent p t ask trace.1 later)

-- the request that an attempt is
abbrev pub ask_with : Attempt → Option Timestamp → MetaAsk
ask_with a None = asks.Update a.client a.op a.key a.rec
ask_with a (Some expected) = asks.Swap a.client a.op a.key expected a.rec

pub attempt-ask : (before : List MetaAsk) (ask : MetaAsk) (a : Attempt) → attempt_of before ask ≡ Some a → ask ≡ ask_with a a.expected
attempt-ask before (asks.Read c o k) a is = absurd cc
attempt-ask before (asks.Watch c o k s) a is = absurd cc
attempt-ask before (asks.Olds c o k) a is = absurd cc
attempt-ask before (asks.Forget c o k ss) a is = absurd cc
attempt-ask before (asks.Update c o k r) a is = ap (λ (x : Attempt). ask_with x x.expected) (same_Some (record { client = c; op = o; key = k; rec = r; expected = None }) a is)
attempt-ask before (asks.Swap c o k e r) a is =
    ap (λ (x : Attempt). ask_with x x.expected) (cond_some (is_judged before c o) (record { client = c; op = o; key = k; rec = r; expected = Some e }) a is).1

pub tried-asked : (requests : List MetaAsk) (a : Attempt) → IsTried requests a → IsAsked requests (ask_with a a.expected)
tried-asked [] a is = absurd is
tried-asked (ask ∷ before) a (inl is) = inl (attempt-ask before ask a is)
tried-asked (ask ∷ before) a (inr was) = inr (tried-asked before a was)

pub tried-keeps : (d : Deed) (t : List Deed) (a : Attempt) → IsTried (served t) a → IsTried (served (d ∷ t)) a
tried-keeps d t a is =
    elim (served-step d t) [
      | inl same ↦ subst (λ (x : List MetaAsk). IsTried x a) (sym same) is
      | inr more ↦ subst (λ (x : List MetaAsk). IsTried x a) (sym more.1) (inr is)
    ]

pub applied-keeps : (d : Deed) (t : List Deed) (a : Attempt) → IsApplied (served t) a → IsApplied (served (d ∷ t)) a
applied-keeps d t a is =
    elim (served-step d t) [
      | inl same ↦ subst (λ (x : List MetaAsk). IsApplied x a) (sym same) is
      | inr more ↦ subst (λ (x : List MetaAsk). IsApplied x a) (sym more.1) (inr is)
    ]

-- the timestamp was superseded at some time
pub record WasOld (requests : List MetaAsk) (key : List ℕ) (stamp : Timestamp) : Type 0 where
  pub later : List MetaAsk
  pub before : List MetaAsk
  pub all : later ++ before ≡ requests
  pub old : is_old before key stamp ≡ true

pub was-keeps : (ask : MetaAsk) (requests : List MetaAsk) (key : List ℕ) (s : Timestamp) → WasOld requests key s → WasOld (ask ∷ requests) key s
was-keeps ask requests key s was = record { later = ask ∷ was.later; before = was.before; all = ap (λ (x : List MetaAsk). ask ∷ x) was.all; old = was.old }

pub was-below : (requests : List MetaAsk) (key : List ℕ) (s : Timestamp) → WasOld requests key s → stamp_lt s (record_stamp requests key) ≡ true
was-below requests key s was = subst (λ (x : List MetaAsk). stamp_lt s (record_stamp x key) ≡ true) was.all (olds-below was.later was.before key s was.old)

pub old-keeps : (d : Deed) (t : List Deed) (key : List ℕ) (s : Timestamp) → WasOld (served t) key s → WasOld (served (d ∷ t)) key s
old-keeps d t key s was =
    elim (served-step d t) [
      | inl same ↦ subst (λ (x : List MetaAsk). WasOld x key s) (sym same) was
      | inr more ↦ subst (λ (x : List MetaAsk). WasOld x key s) (sym more.1) (was-keeps more.0 (served t) key s was)
    ]

-- this was the record's timestamp at some time
pub record WasStamp (requests : List MetaAsk) (key : List ℕ) (stamp : Timestamp) : Type 0 where
  pub later : List MetaAsk
  pub before : List MetaAsk
  pub all : later ++ before ≡ requests
  pub is : record_stamp before key ≡ stamp

pub stamp-keeps : (d : Deed) (t : List Deed) (key : List ℕ) (s : Timestamp) → WasStamp (served t) key s → WasStamp (served (d ∷ t)) key s
stamp-keeps d t key s was =
    elim (served-step d t) [
      | inl same ↦ subst (λ (x : List MetaAsk). WasStamp x key s) (sym same) was
      | inr more ↦ subst (λ (x : List MetaAsk). WasStamp x key s) (sym more.1) (record { later = more.0 ∷ was.later; before = was.before; all = ap (λ (x : List MetaAsk). more.0 ∷ x) was.all; is = was.is })
    ]

-- the operation began on this key
pub record IsBegun (client op : ℕ) (key : List ℕ) (t : List Deed) : Type 0 where
  pub start : Start
  pub began : start_of client op t ≡ Some start
  pub key_is : key_of start.action ≡ key

-- the operation is a write, which found what it expects, and sent this record
pub record IsUpdating (p : Params) (client op : ℕ) (key : List ℕ) (expected : Option Timestamp) (r : RecordValue) (t : List Deed) : Type 0 where
  pub start : Start
  pub began : start_of client op t ≡ Some start
  pub change : Change
  pub action_is : start.action ≡ change_action key change
  pub expects : change_expected change ≡ expected
  pub met : IsMet (change_expected change) (inputs_of client op t)
  pub update : update_of (write_plan p.f p.k client op key (change_value change)) (inputs_of client op t) ≡ Some r

-- the operation stores a value, found what it expects, and these bytes are its value's fragment
pub record IsPutting (p : Params) (client op cloud : ℕ) (key : List ℕ) (stamp : Timestamp) (bytes : List ℕ) (t : List Deed) : Type 0 where
  pub start : Start
  pub began : start_of client op t ≡ Some start
  pub change : Change
  pub action_is : start.action ≡ change_action key change
  pub met : IsMet (change_expected change) (inputs_of client op t)
  pub value : List ℕ
  pub stores : change_value change ≡ Some value
  pub own : own_stamp (write_plan p.f p.k client op key (change_value change)) (inputs_of client op t) ≡ Some stamp
  pub bytes_are : bytes ≡ fragment_of value p.k cloud

-- the record is that of an attempt on the key that was applied
abbrev pub IsOfUpdate : List Deed → List ℕ → Option RecordValue → Type 0
IsOfUpdate t key None = Unit {0}
IsOfUpdate t key (Some r) = (a : Attempt) × IsApplied (served t) a × (a.key ≡ key) × (a.rec ≡ r)

-- the operation began, when the record was not above this one; nor is this one above the record now
pub record IsReading (client op : ℕ) (key : List ℕ) (r : Option RecordValue) (t : List Deed) : Type 0 where
  pub start : Start
  pub began : start_of client op t ≡ Some start
  pub key_is : key_of start.action ≡ key
  pub above : Le (top start.before key) (stamp_of_record r)
  pub below : Le (stamp_of_record r) (top t key)
  pub written : IsOfUpdate t key r
  pub seen : WasStamp (served t) key (stamp_of_record r)

-- the attempt is of the operation, on the key
abbrev pub IsBy : ℕ → ℕ → List ℕ → Attempt → Type 0
IsBy client op key a = (a.client ≡ client) × (a.op ≡ op) × (a.key ≡ key)

-- an update of the operation was served
abbrev pub IsUpdated : List Deed → ℕ → ℕ → List ℕ → Type 0
IsUpdated t client op key = (a : Attempt) × IsTried (served t) a × IsBy client op key a × (a.expected ≡ None)

-- a swap of the operation was applied
abbrev pub IsSwapped : List Deed → ℕ → ℕ → List ℕ → Type 0
IsSwapped t client op key = (a : Attempt) × IsApplied (served t) a × IsBy client op key a

-- a swap of the operation was judged, and found this timestamp: the record is not below it, nor is its number below the swap's
abbrev pub IsRefused : List Deed → ℕ → ℕ → List ℕ → Timestamp → Type 0
IsRefused t client op key s = (a : Attempt) × IsTried (served t) a × IsBy client op key a × Le s (top t key) × (a.rec.stamp.sn ≤ s.sn)

-- each of the timestamps was superseded at some time
abbrev pub AreOld : List Deed → List ℕ → List Timestamp → Type 0
AreOld t key stamps = AllByRecursion (λ s. WasOld (served t) key s) stamps

-- an attempt of this timestamp was served, whose record lists the cloud
pub record IsFetched (t : List Deed) (cloud : ℕ) (key : List ℕ) (stamp : Timestamp) : Type 0 where
  pub attempt : Attempt
  pub tried : IsTried (served t) attempt
  pub key_is : attempt.key ≡ key
  pub stamp_is : attempt.rec.stamp ≡ stamp
  pub listed : IsIn (clouds_of attempt.rec.clouds) cloud

abbrev pub MeansAsk : Params → List Deed → MetaAsk → Type 0
MeansAsk p t (asks.Read c o k) = IsBegun c o k t
MeansAsk p t (asks.Update c o k r) = IsUpdating p c o k None r t
MeansAsk p t (asks.Swap c o k e r) = IsUpdating p c o k (Some e) r t
MeansAsk p t (asks.Watch c o k s) = Unit {0}
MeansAsk p t (asks.Olds c o k) = Unit {0}
MeansAsk p t (asks.Forget c o k ss) = Unit {0}

abbrev pub MeansSay : Params → List Deed → MetaSay → Type 0
MeansSay p t (says.Has c o k r) = IsReading c o k r t
MeansSay p t (says.Applied c o k s) = IsUpdated t c o k
MeansSay p t (says.Kept c o k s) = IsUpdated t c o k
MeansSay p t (says.Fired c o k s) = stamp_lt s (top t k) ≡ true
MeansSay p t (says.OldList c o k ss) = AreOld t k ss
MeansSay p t (says.Forgot c o k) = Unit {0}
MeansSay p t (says.Swapped c o k s) = IsSwapped t c o k
MeansSay p t (says.Changed c o k s) = IsRefused t c o k s

abbrev pub MeansWish : Params → List Deed → ℕ → ℕ → ℕ → List ℕ → Timestamp → CloudAct → Type 0
MeansWish p t c o cloud k s (acts.Put bytes) = IsPutting p c o cloud k s bytes t
MeansWish p t c o cloud k s acts.Get = IsFetched t cloud k s
MeansWish p t c o cloud k s acts.Delete = WasOld (served t) k s

-- what it means that the message was sent
abbrev pub Meaning : Params → List Deed → Message → Type 0
Meaning p t (Ask ask) = MeansAsk p t ask
Meaning p t (Say say) = MeansSay p t say
Meaning p t (Request ask) = MeansWish p t ask.client ask.op ask.cloud ask.wish.key ask.wish.stamp ask.wish.act
Meaning p t (Answer reply) = Unit {0}

-- each part lasts

pub or-true : (a b : Bool) → b ≡ true → (a || b) ≡ true
or-true true b is = refl
or-true false b is = is

pub all-weaken : {A : Type 0} (P Q : A → Type 0) (xs : List A) → ((x : A) → P x → Q x) → AllByRecursion P xs → AllByRecursion Q xs
all-weaken P Q [] each all = tt
all-weaken P Q (x ∷ xs) each all = (each x all.0, all-weaken P Q xs each all.1)

-- what holds of the inputs, and of one input more, holds after a deed
inputs-keep : (p : Params) (c o : ℕ) (d : Deed) (t : List Deed) (P : List Cue → Type 0) → Fits p t d → ((cue : Cue) (before : List Cue) → P before → P (cue ∷ before)) → P (inputs_of c o t) → P (inputs_of c o (d ∷ t))
inputs-keep p c o d t P fits more holds =
    elim (inputs-step p c o d t fits) [
      | inl same ↦ subst P (sym same) holds
      | inr one ↦ subst P (sym one.2) (more one.0 (inputs_of c o t) holds)
    ]

begun-keeps : (c o : ℕ) (k : List ℕ) (d : Deed) (t : List Deed) → IsBegun c o k t → IsBegun c o k (d ∷ t)
begun-keeps c o k d t b = record { start = b.start; began = start-keeps c o d t b.start b.began; key_is = b.key_is }

pub updating-keeps : (p : Params) (c o : ℕ) (k : List ℕ) (expected : Option Timestamp) (r : RecordValue) (d : Deed) (t : List Deed) → Fits p t d → IsUpdating p c o k expected r t → IsUpdating p c o k expected r (d ∷ t)
updating-keeps p c o k expected r d t fits u = record {
  start = u.start;
  began = start-keeps c o d t u.start u.began;
  change = u.change;
  action_is = u.action_is;
  expects = u.expects;
  met = inputs-keep p c o d t (λ inputs. IsMet (change_expected u.change) inputs) fits (λ cue before met. met-keeps (change_expected u.change) cue before met) u.met;
  update = inputs-keep p c o d t (λ inputs. update_of (write_plan p.f p.k c o k (change_value u.change)) inputs ≡ Some r) fits (λ cue before holds. update-keeps (write_plan p.f p.k c o k (change_value u.change)) cue before r holds) u.update;
}

pub putting-keeps : (p : Params) (c o cloud : ℕ) (k : List ℕ) (s : Timestamp) (bytes : List ℕ) (d : Deed) (t : List Deed) → Fits p t d → IsPutting p c o cloud k s bytes t → IsPutting p c o cloud k s bytes (d ∷ t)
putting-keeps p c o cloud k s bytes d t fits u = record {
  start = u.start;
  began = start-keeps c o d t u.start u.began;
  change = u.change;
  action_is = u.action_is;
  met = inputs-keep p c o d t (λ inputs. IsMet (change_expected u.change) inputs) fits (λ cue before met. met-keeps (change_expected u.change) cue before met) u.met;
  value = u.value;
  stores = u.stores;
  own = inputs-keep p c o d t (λ inputs. own_stamp (write_plan p.f p.k c o k (change_value u.change)) inputs ≡ Some s) fits (λ cue before holds. own-keeps (write_plan p.f p.k c o k (change_value u.change)) cue before s holds) u.own;
  bytes_are = u.bytes_are;
}

pub of_update-keeps : (d : Deed) (t : List Deed) (k : List ℕ) (r : Option RecordValue) → IsOfUpdate t k r → IsOfUpdate (d ∷ t) k r
of_update-keeps d t k None is = tt
of_update-keeps d t k (Some r) is = (is.0, applied-keeps d t is.0 is.1, is.2, is.3)

reading-keeps : (c o : ℕ) (k : List ℕ) (r : Option RecordValue) (d : Deed) (t : List Deed) → IsReading c o k r t → IsReading c o k r (d ∷ t)
reading-keeps c o k r d t b = record {
  start = b.start;
  began = start-keeps c o d t b.start b.began;
  key_is = b.key_is;
  above = b.above;
  below = le-trans (stamp_of_record r) (top t k) (top (d ∷ t) k) b.below (top-rises d t k);
  written = of_update-keeps d t k r b.written;
  seen = stamp-keeps d t k (stamp_of_record r) b.seen;
}

updated-keeps : (d : Deed) (t : List Deed) (c o : ℕ) (k : List ℕ) → IsUpdated t c o k → IsUpdated (d ∷ t) c o k
updated-keeps d t c o k u = (u.0, tried-keeps d t u.0 u.1, u.2, u.3)

swapped-keeps : (d : Deed) (t : List Deed) (c o : ℕ) (k : List ℕ) → IsSwapped t c o k → IsSwapped (d ∷ t) c o k
swapped-keeps d t c o k u = (u.0, applied-keeps d t u.0 u.1, u.2)

refused-keeps : (d : Deed) (t : List Deed) (c o : ℕ) (k : List ℕ) (s : Timestamp) → IsRefused t c o k s → IsRefused (d ∷ t) c o k s
refused-keeps d t c o k s u = (u.0, tried-keeps d t u.0 u.1, u.2, le-trans s (top t k) (top (d ∷ t) k) u.3 (top-rises d t k), u.4)

wish-keeps : (p : Params) (d : Deed) (t : List Deed) (c o cloud : ℕ) (k : List ℕ) (s : Timestamp) (act : CloudAct) → Fits p t d → MeansWish p t c o cloud k s act → MeansWish p (d ∷ t) c o cloud k s act
wish-keeps p d t c o cloud k s (acts.Put bytes) fits means = putting-keeps p c o cloud k s bytes d t fits means
wish-keeps p d t c o cloud k s acts.Get fits means = record {
  attempt = means.attempt;
  tried = tried-keeps d t means.attempt means.tried;
  key_is = means.key_is;
  stamp_is = means.stamp_is;
  listed = means.listed;
}
wish-keeps p d t c o cloud k s acts.Delete fits means = old-keeps d t k s means

pub meaning-keeps : (p : Params) (d : Deed) (t : List Deed) (m : Message) → Fits p t d → Meaning p t m → Meaning p (d ∷ t) m
meaning-keeps p d t (Ask (asks.Read c o k)) fits means = begun-keeps c o k d t means
meaning-keeps p d t (Ask (asks.Update c o k r)) fits means = updating-keeps p c o k None r d t fits means
meaning-keeps p d t (Ask (asks.Swap c o k e r)) fits means = updating-keeps p c o k (Some e) r d t fits means
meaning-keeps p d t (Ask (asks.Watch c o k s)) fits means = tt
meaning-keeps p d t (Ask (asks.Olds c o k)) fits means = tt
meaning-keeps p d t (Ask (asks.Forget c o k ss)) fits means = tt
meaning-keeps p d t (Say (says.Has c o k r)) fits means = reading-keeps c o k r d t means
meaning-keeps p d t (Say (says.Applied c o k s)) fits means = updated-keeps d t c o k means
meaning-keeps p d t (Say (says.Kept c o k s)) fits means = updated-keeps d t c o k means
meaning-keeps p d t (Say (says.Fired c o k s)) fits means = stamp_lt-le s (top t k) (top (d ∷ t) k) means (top-rises d t k)
meaning-keeps p d t (Say (says.OldList c o k ss)) fits means = all-weaken (λ s. WasOld (served t) k s) (λ s. WasOld (served (d ∷ t)) k s) ss (λ s was. old-keeps d t k s was) means
meaning-keeps p d t (Say (says.Forgot c o k)) fits means = tt
meaning-keeps p d t (Say (says.Swapped c o k s)) fits means = swapped-keeps d t c o k means
meaning-keeps p d t (Say (says.Changed c o k s)) fits means = refused-keeps d t c o k s means
meaning-keeps p d t (Request ask) fits means = wish-keeps p d t ask.client ask.op ask.cloud ask.wish.key ask.wish.stamp ask.wish.act fits means
meaning-keeps p d t (Answer reply) fits means = tt
