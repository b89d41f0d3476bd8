-- What one deed more leaves of a trace.
use Rattle.std.proofs.Common.{◌≡◌, ℕ, Bool, true, false, cond, List, [], ◌∷◌, Option, Some, None, refl, sym, ap, subst, ◌∙◌, inl, inr, arith}
use Rattle.std.specs.Prelude.{◌&&◌, ◌==◌, ◌⊎◌, is_some}
use Rattle.std.specs.Option.{option_or}
use Rattle.std.specs.List.{AllByRecursion}
use Rattle.std.proofs.lemmas.Option.{none-some, same_Some}
use Rattle.std.proofs.lemmas.Bool.Decides.{nat_tests}
use Rattle.std.proofs.lemmas.Bool.{eqb-true, false≢true}
use Rattle.hy_record.specs.declared.message.MetaAsk.{MetaAsk}
use Rattle.hy_record.specs.declared.action.Action.{Action}
use Rattle.hy_record.specs.Stamp.{Timestamp, stamp_lt}
use Rattle.hy_record.proofs.Order.{stamp_lt-same, stamp_ge-trans}
use Rattle.hy_meta.specs.Service.{record_stamp}
use Rattle.hy_meta.proofs.Lasting.{never-falls}
use Rattle.hy_meta.proofs.Rising.{cases_bool, both}
use Rattle.hy_record.specs.declared.turn.Cue.{Cue}
use Rattle.hy_trace.specs.Deeds.{Params, Deed, Joined, Began, Handed, Served, Granted, Stopped, Nothing, Start, served, inputs_of, start_of, start_at}
use Rattle.hy_trace.specs.Messages.{Message, IsAmong}
use Rattle.hy_trace.specs.Trace.{Awaits, Fits}

-- the first is not above the second
abbrev pub Le : Timestamp → Timestamp → Type 0
Le a b = stamp_lt b a ≡ false

pub le-same : (a : Timestamp) → Le a a
le-same a = stamp_lt-same a

pub le-trans : (a b c : Timestamp) → Le a b → Le b c → Le a c
le-trans a b c below above = stamp_ge-trans c b a above below

-- the timestamp of no record
abbrev pub zero_stamp : Timestamp
zero_stamp = record { sn = 0; cid = 0 }

pub zero-least : (s : Timestamp) → Le zero_stamp s
unfolding stamp_lt
zero-least s = grind (arith, nat_tests)

pub or-none : {A : Type 0} (a : Option A) → option_or a None ≡ a
or-none None = refl
or-none (Some x) = refl

-- the first of two stays
pub or-first : {A : Type 0} (a b : Option A) (x : A) → a ≡ Some x → option_or a b ≡ Some x
or-first a b x is = ap (λ o. option_or o b) is

-- either the first of two, or the second where there is no first
pub or-cases : {A : Type 0} (a b : Option A) (x : A) → option_or a b ≡ Some x → (a ≡ Some x) ⊎ ((a ≡ None) × (b ≡ Some x))
or-cases None b x is = inr (refl, is)
or-cases (Some y) b x is = inl is

-- the second of two, where there is no first
pub or-second : {A : Type 0} (a b : Option A) (x : A) → a ≡ None → option_or a b ≡ Some x → b ≡ Some x
or-second a b x absent is = sym (ap (λ o. option_or o b) absent) ∙ is

-- what is there is some
pub some-is : {A : Type 0} (o : Option A) → is_some o ≡ true → (x : A) × (o ≡ Some x)
some-is None is = absurd (false≢true is)
some-is (Some x) is = (x, refl)

-- the service serves one request more, or none
pub served-step : (d : Deed) (t : List Deed) → (served (d ∷ t) ≡ served t) ⊎ ((ask : MetaAsk) × (served (d ∷ t) ≡ ask ∷ served t))
unfolding served
served-step Joined t = inl refl
served-step (Began c o a) t = inl refl
served-step (Handed c o w cue) t = inl refl
served-step (Served ask) t = inr (ask, refl)
served-step (Granted ask) t = inl refl
served-step (Stopped c) t = inl refl
served-step Nothing t = inl refl

-- the record's timestamp
abbrev pub top : List Deed → List ℕ → Timestamp
top t key = record_stamp (served t) key

pub top-rises : (d : Deed) (t : List Deed) (key : List ℕ) → Le (top t key) (top (d ∷ t) key)
top-rises d t key =
    elim (served-step d t) [
      | inl same ↦ rw same (le-same (top t key))
      | inr more ↦ rw more.1 (never-falls (more.0 ∷ []) (served t) key)
    ]

-- an operation that began stays as it began
pub start-keeps : (c o : ℕ) (d : Deed) (t : List Deed) (s : Start) → start_of c o t ≡ Some s → start_of c o (d ∷ t) ≡ Some s
unfolding start_of
start-keeps c o d t s is = or-first (start_of c o t) (start_at c o d t) s is

pub start-same : (c o : ℕ) (t : List Deed) (s u : Start) → start_of c o t ≡ Some s → start_of c o t ≡ Some u → s ≡ u
start-same c o t s u first second = cc

begun-now : (test : Bool) (a : Action) (t : List Deed) (s : Start) → cond test (Some (record { action = a; before = t })) None ≡ Some s → s.before ≡ t
begun-now true a t s is = ap (λ (x : Start). x.before) (sym (same_Some (record { action = a; before = t }) s is))
begun-now false a t s is = absurd (none-some s is)

-- an operation that begins at a deed was begun after all that was done before
pub start-now : (c o : ℕ) (d : Deed) (t : List Deed) (s : Start) → start_at c o d t ≡ Some s → s.before ≡ t
start-now c o (Began b n a) t s is = begun-now (b == c && n == o) a t s is
start-now c o Joined t s is = absurd (none-some s is)
start-now c o (Handed b n w cue) t s is = absurd (none-some s is)
start-now c o (Served ask) t s is = absurd (none-some s is)
start-now c o (Granted ask) t s is = absurd (none-some s is)
start-now c o (Stopped b) t s is = absurd (none-some s is)
start-now c o Nothing t s is = absurd (none-some s is)

-- the record was not above what it is now when an operation began
pub floor-below : (c o : ℕ) (t : List Deed) (s : Start) (key : List ℕ) → start_of c o t ≡ Some s → Le (top s.before key) (top t key)
unfolding start_of
floor-below c o [] s key is = absurd (none-some s is)
floor-below c o (d ∷ t) s key is =
    elim (or-cases (start_of c o t) (start_at c o d t) s is) [
      | inl was ↦ le-trans (top s.before key) (top t key) (top (d ∷ t) key) (floor-below c o t s key was) (top-rises d t key)
      | inr now ↦ subst (λ (x : List Deed). Le (top x key) (top (d ∷ t) key)) (sym (start-now c o d t s now.1)) (top-rises d t key)
    ]

-- an operation has one input more, or none
pub inputs-step : (p : Params) (c o : ℕ) (d : Deed) (t : List Deed) → Fits p t d → (inputs_of c o (d ∷ t) ≡ inputs_of c o t) ⊎ ((cue : Cue) × Awaits p c o cue t × (inputs_of c o (d ∷ t) ≡ cue ∷ inputs_of c o t))
unfolding inputs_of
inputs-step p c o Joined t fits = inl refl
inputs-step p c o (Began b n a) t fits = inl refl
inputs-step p c o (Served ask) t fits = inl refl
inputs-step p c o (Granted ask) t fits = inl refl
inputs-step p c o (Stopped b) t fits = inl refl
inputs-step p c o Nothing t fits = inl refl
inputs-step p c o (Handed b n w cue) t fits =
    elim (cases_bool ((b == c) && (n == o))) [
      | inl own ↦
          let tests = both (b == c) (n == o) own in
          let client : b ≡ c = eqb-true b c tests.0 in
          let number : n ≡ o = eqb-true n o tests.1 in
          inr (cue, subst (λ (x : ℕ). Awaits p x o cue t) client (subst (λ (y : ℕ). Awaits p b y cue t) number fits.0), rw own refl)
      | inr other ↦ inl (rw other refl)
    ]

-- what holds of each of the messages holds of one of them
pub all-among : (P : Message → Type 0) (messages : List Message) (m : Message) → AllByRecursion P messages → IsAmong messages m → P m
all-among P [] m all among = absurd among
all-among P (first ∷ others) m all (inl is) = subst P is all.0
all-among P (first ∷ others) m all (inr later) = all-among P others m all.1 later
