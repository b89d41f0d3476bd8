-- What is hashed in a trace, by what its puts were asked and what its operations took.
use Rattle.std.proofs.Common.{◌≡◌, ℕ, Bool, true, false, cond, List, [], ◌∷◌, Option, Some, None, refl, sym, ap, subst, ◌∙◌, inl, inr, arith}
use Rattle.std.specs.Prelude.{◌&&◌, ◌==◌}
use Rattle.std.specs.List.{cons_option}
use Rattle.std.proofs.lemmas.Option.{none-some, cond_some}
use Rattle.hy_protocol.specs.Operations.{value_of}
use Rattle.hy_record.specs.declared.turn.Cue.{Cue}
use Rattle.hy_record.specs.declared.turn.Cue.TheVariants as cues
use Rattle.hy_record.specs.declared.cloud.CloudReply.{CloudReply}
use Rattle.hy_record.specs.declared.cloud.CloudSay.{CloudSay}
use Rattle.hy_record.specs.declared.cloud.CloudSay.TheVariants.{Stored, Conflict, Body, Missing, Gone, Bad}
use Rattle.hy_code.specs.Fragments.{fragment_of}
use Rattle.hy_code.proofs.FragmentLaws.{fragment_of-one}
use Rattle.hy_trace.specs.Deeds.{Params, Deed, Joined, Began, Handed, Served, Granted, Stopped, Nothing, Start, start_of, start_at, inputs_of}
use Rattle.hy_trace.specs.Hashed.{IsInput, IsHashed, IsCollisionFree}
use Rattle.hy_trace.proofs.Growth.{or-cases}
use Rattle.hy_theorems.proofs.Listing.{IsIn}

-- the values that puts were asked to store
unfoldable pub put_values : List Deed → List (List ℕ)
put_values [] = []
put_values (Began c o a ∷ before) = cons_option (value_of a) (put_values before)
put_values (Joined ∷ before) = put_values before
put_values (Handed c o made cue ∷ before) = put_values before
put_values (Served ask ∷ before) = put_values before
put_values (Granted ask ∷ before) = put_values before
put_values (Stopped c ∷ before) = put_values before
put_values (Nothing ∷ before) = put_values before

abbrev pub body_in : CloudSay → Option (List ℕ)
body_in (Body bytes) = Some bytes
body_in (Stored fresh) = None
body_in Conflict = None
body_in Missing = None
body_in Gone = None
body_in (Bad code) = None

abbrev pub body_of : Cue → Option (List ℕ)
body_of (cues.Cloud reply) = body_in reply.say
body_of (cues.Meta say) = None
body_of cues.Tick = None

-- the bytes that operations were handed
unfoldable pub bodies_of : List Deed → List (List ℕ)
bodies_of [] = []
bodies_of (Handed c o made cue ∷ before) = cons_option (body_of cue) (bodies_of before)
bodies_of (Began c o a ∷ before) = bodies_of before
bodies_of (Joined ∷ before) = bodies_of before
bodies_of (Served ask ∷ before) = bodies_of before
bodies_of (Granted ask ∷ before) = bodies_of before
bodies_of (Stopped c ∷ before) = bodies_of before
bodies_of (Nothing ∷ before) = bodies_of before

in-more : {A : Type 0} (o : Option A) (xs : List A) (x : A) → IsIn xs x → IsIn (cons_option o xs) x
in-more None xs x is = is
in-more (Some y) xs x is = inr is

more-values : (d : Deed) (t : List Deed) (v : List ℕ) → IsIn (put_values t) v → IsIn (put_values (d ∷ t)) v
unfolding put_values
more-values (Began c o a) t v is = in-more (value_of a) (put_values t) v is
more-values Joined t v is = is
more-values (Handed c o made cue) t v is = is
more-values (Served ask) t v is = is
more-values (Granted ask) t v is = is
more-values (Stopped c) t v is = is
more-values Nothing t v is = is

value-now : (c o : ℕ) (d : Deed) (t : List Deed) (s : Start) (v : List ℕ) → start_at c o d t ≡ Some s → value_of s.action ≡ Some v → IsIn (put_values (d ∷ t)) v
unfolding put_values
value-now c o (Began b n a) t s v is action =
    (let same = (cond_some (b == c && n == o) (record { action = a; before = t }) s is).1 in
    subst (λ (x : Option (List ℕ)). IsIn (cons_option x (put_values t)) v) (sym (ap (λ (x : Start). value_of x.action) same ∙ action)) (inl refl))
value-now c o Joined t s v is action = absurd (none-some s is)
value-now c o (Handed b n made cue) t s v is action = absurd (none-some s is)
value-now c o (Served ask) t s v is action = absurd (none-some s is)
value-now c o (Granted ask) t s v is action = absurd (none-some s is)
value-now c o (Stopped b) t s v is action = absurd (none-some s is)
value-now c o Nothing t s v is action = absurd (none-some s is)

-- the value of a put is among them
pub value-in : (c o : ℕ) (t : List Deed) (s : Start) (v : List ℕ) → start_of c o t ≡ Some s → value_of s.action ≡ Some v → IsIn (put_values t) v
unfolding start_of
value-in c o [] s v is action = absurd (none-some s is)
value-in c o (d ∷ t) s v is action =
    elim (or-cases (start_of c o t) (start_at c o d t) s is) [
      | inl was ↦ more-values d t v (value-in c o t s v was action)
      | inr now ↦ value-now c o d t s v now.1 action
    ]

-- the bytes that an operation was handed are among those
pub body-in : (c o : ℕ) (t : List Deed) (reply : CloudReply) (bytes : List ℕ) → IsInput (inputs_of c o t) (cues.Cloud reply) → reply.say ≡ Body bytes → IsIn (bodies_of t) bytes
unfolding inputs_of bodies_of
body-in c o [] reply bytes is say = is
body-in c o (Began b n a ∷ t) reply bytes is say = body-in c o t reply bytes is say
body-in c o (Joined ∷ t) reply bytes is say = body-in c o t reply bytes is say
body-in c o (Served ask ∷ t) reply bytes is say = body-in c o t reply bytes is say
body-in c o (Granted ask ∷ t) reply bytes is say = body-in c o t reply bytes is say
body-in c o (Stopped b ∷ t) reply bytes is say = body-in c o t reply bytes is say
body-in c o (Nothing ∷ t) reply bytes is say = body-in c o t reply bytes is say
body-in c o (Handed b n made cue ∷ t) reply bytes is say = by_own (b == c && n == o) is (λ (older : IsInput (inputs_of c o t) (cues.Cloud reply)). body-in c o t reply bytes older say)
  where
    by_own : (own : Bool) → IsInput (cond own (cue ∷ inputs_of c o t) (inputs_of c o t)) (cues.Cloud reply) → (IsInput (inputs_of c o t) (cues.Cloud reply) → IsIn (bodies_of t) bytes) → IsIn (cons_option (body_of cue) (bodies_of t)) bytes
    by_own false older before = in-more (body_of cue) (bodies_of t) bytes (before older)
    by_own true (inr older) before = in-more (body_of cue) (bodies_of t) bytes (before older)
    by_own true (inl is) before = subst (λ (x : Option (List ℕ)). IsIn (cons_option x (bodies_of t)) bytes) (sym (ap body_of is ∙ ap body_in say)) (inl refl)

-- where one value was put whole, and no bytes were handed over, one string was hashed
pub one-string : (p : Params) (t : List Deed) (v : List ℕ) → p.k ≡ 1 → p.f ≡ 0 → put_values t ≡ v ∷ [] → bodies_of t ≡ [] → IsCollisionFree p t
one-string p t v k f values bodies x y first second same = sym (is x first) ∙ is y second
  where
    only : (w : List ℕ) → IsIn (v ∷ []) w → v ≡ w
    only w (inl e) = e
    only w (inr none) = absurd none

    is : (x : List ℕ) → IsHashed p t x → v ≡ x
    is x (inl put) =
        let value : v ≡ put.value = only put.value (subst (λ (vs : List (List ℕ)). IsIn vs put.value) values (value-in put.client put.op t put.start put.value put.began put.stores)) in
        let within = put.within in
        let whole = fragment_of-one put.value put.cloud (omega (arith, within, k, f)) in
        value ∙ (sym whole ∙ (ap (λ (n : ℕ). fragment_of put.value n put.cloud) (sym k) ∙ put.is))
    is x (inr body) = absurd (subst (λ (xs : List (List ℕ)). IsIn xs x) bodies (body-in body.client body.op t body.reply x body.input body.body))
