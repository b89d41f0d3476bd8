-- What a change of the objects under one name does to the others.
use Rattle.std.proofs.Common.{◌≡◌, ℕ, Bool, true, false, cond, List, ◌∷◌, Option, Some, None, refl, ap, sym, ◌∙◌, subst}
use Rattle.std.specs.Prelude.{◌&&◌, if◌then◌else◌, Result, Ok, Err, IfOk, OnOk}
use Rattle.hy_base.specs.declared.failure.NoMemory.{NoMemory}
use Rattle.std.specs.BTreeMap.{is_at}
use Rattle.std.specs.Cmp.Lexicographic.{slice_cmp}
use Rattle.std.specs.declared.cmp.Ordering.{Ordering}
use Rattle.std.specs.declared.cmp.Ordering.TheVariants.{Less, Equal, Greater}
use Rattle.std.specs.Map.{lookup}
use Rattle.std.specs.Ordering.{nat_cmp, ordering_then, is_eq}
use Rattle.std.proofs.lemmas.Bool.{false≢true}
use Rattle.std.proofs.lemmas.Cmp.{tied_itself, nat_list_cmp_total, nat_cmp_total}
use Rattle.std.proofs.lemmas.Map.Lookups.{exact_bytes, exact_unsigned}
use Rattle.hy_record.specs.Key.{key_eq}
use Rattle.hy_record.specs.Stamp.{Timestamp, stamp_cmp, stamp_eq}
use Rattle.hy_record.proofs.Order.{key_eq-true, key_eq-same, stamp_eq-true, stamp_eq-same}
use Rattle.hy_record.specs.declared.cloud.CloudAct.{CloudAct}
use Rattle.hy_record.specs.declared.cloud.CloudAct.TheVariants.{Put, Delete}
use Rattle.hy_record.specs.declared.cloud.CloudSay.{CloudSay}
use Rattle.hy_record.specs.declared.cloud.Wish.{Wish}
use Rattle.hy_protocol.specs.Cloud.{is_named, held_after, answer_by, bytes_held, cloud_answer}
use Rattle.hy_cloud.specs.Objects.{name_cmp, held_in, Becomes}

abbrev Name : Type 0
Name = List ℕ × Timestamp

abbrev Objects : Type 0
Objects = List (Name × List ℕ)

then-equal : (a b : Ordering) → is_eq (ordering_then a b) ≡ true → (a ≡ Equal) × (b ≡ Equal)
then-equal Equal Equal e = (refl, refl)
then-equal Equal Less e = absurd (false≢true e)
then-equal Equal Greater e = absurd (false≢true e)
then-equal Less b e = absurd (false≢true e)
then-equal Greater b e = absurd (false≢true e)

stamp-by-numbers : (s t : Timestamp) → s.sn ≡ t.sn → s.cid ≡ t.cid → s ≡ t
stamp-by-numbers s t sn cid =
    let both : (s.sn, s.cid) ≡ (t.sn, t.cid) = cc in
    let made : ℕ × ℕ → Timestamp = λ p. record { sn = p.0; cid = p.1 } in
    ap made both

-- names that compare equal are one
same-name : (a b : Name) → is_at (name_cmp a) b ≡ true → (a.0 ≡ b.0) × (a.1 ≡ b.1)
same-name (k, s) (q, t) e =
    let parts = then-equal (slice_cmp nat_cmp k q) (stamp_cmp s t) e in
    let numbers = then-equal (nat_cmp s.sn t.sn) (nat_cmp s.cid t.cid) (ap is_eq parts.1) in
    (exact_bytes k q parts.0, stamp-by-numbers s t (exact_unsigned s.sn t.sn numbers.0) (exact_unsigned s.cid t.cid numbers.1))

name-itself : (a : Name) → is_at (name_cmp a) a ≡ true
name-itself (k, s) =
    let key : slice_cmp nat_cmp k k ≡ Equal = tied_itself nat_list_cmp_total k in
    let sn : nat_cmp s.sn s.sn ≡ Equal = tied_itself nat_cmp_total s.sn in
    let cid : nat_cmp s.cid s.cid ≡ Equal = tied_itself nat_cmp_total s.cid in
    rw (key, sn, cid) refl

tested : (b c : Bool) → (b ≡ true → c ≡ true) → (c ≡ true → b ≡ true) → b ≡ c
tested true c forth back = sym (forth refl)
tested false true forth back = back refl
tested false false forth back = refl

both-true : (a b : Bool) → (a && b) ≡ true → (a ≡ true) × (b ≡ true)
both-true true true e = (refl, refl)
both-true true false e = absurd (false≢true e)
both-true false b e = absurd (false≢true e)

-- the test of the map is that of the request
pub at-is-named : (wish : Wish) (key : List ℕ) (stamp : Timestamp) → is_at (name_cmp (wish.key, wish.stamp)) (key, stamp) ≡ is_named key stamp wish
unfolding is_named
at-is-named wish key stamp = tested (is_at (name_cmp (wish.key, wish.stamp)) (key, stamp)) (key_eq wish.key key && stamp_eq wish.stamp stamp) forth back
  where
    forth : is_at (name_cmp (wish.key, wish.stamp)) (key, stamp) ≡ true → (key_eq wish.key key && stamp_eq wish.stamp stamp) ≡ true
    forth e =
        let same = same-name (wish.key, wish.stamp) (key, stamp) e in
        let keys : key_eq wish.key key ≡ true = subst (λ (k : List ℕ). key_eq wish.key k ≡ true) same.0 (key_eq-same wish.key) in
        let stamps : stamp_eq wish.stamp stamp ≡ true = subst (λ (s : Timestamp). stamp_eq wish.stamp s ≡ true) same.1 (stamp_eq-same wish.stamp) in
        rw (keys, stamps) refl

    back : (key_eq wish.key key && stamp_eq wish.stamp stamp) ≡ true → is_at (name_cmp (wish.key, wish.stamp)) (key, stamp) ≡ true
    back e =
        let parts = both-true (key_eq wish.key key) (stamp_eq wish.stamp stamp) e in
        let keys : wish.key ≡ key = key_eq-true wish.key key parts.0 in
        let stamps : wish.stamp ≡ stamp = stamp_eq-true wish.stamp stamp parts.1 in
        subst (λ (k : List ℕ). is_at (name_cmp (wish.key, wish.stamp)) (k, stamp) ≡ true) keys
        (subst (λ (s : Timestamp). is_at (name_cmp (wish.key, wish.stamp)) (wish.key, s) ≡ true) stamps (name-itself (wish.key, wish.stamp)))

-- where one name's object becomes this, the request has done what it does
pub becomes-at : (old new : Objects) (wish : Wish) (now : Option (List ℕ))
    → ((q : Name) → lookup (is_at (name_cmp q)) new ≡ cond (is_at (name_cmp (wish.key, wish.stamp)) q) now (lookup (is_at (name_cmp q)) old))
    → now ≡ held_after wish.act (held_in old wish.key wish.stamp) → Becomes old new wish
unfolding held_in
becomes-at old new wish now updates is key stamp =
    updates (key, stamp) ∙ by_name (is_named key stamp wish) refl
  where
    by_name : (b : Bool) → is_named key stamp wish ≡ b
        → cond (is_at (name_cmp (wish.key, wish.stamp)) (key, stamp)) now (lookup (is_at (name_cmp (key, stamp))) old)
        ≡ (if b then held_after wish.act (lookup (is_at (name_cmp (key, stamp))) old) else lookup (is_at (name_cmp (key, stamp))) old)
    by_name true e =
        let at : is_at (name_cmp (wish.key, wish.stamp)) (key, stamp) ≡ true = at-is-named wish key stamp ∙ e in
        let same = same-name (wish.key, wish.stamp) (key, stamp) at in
        let there : held_in old wish.key wish.stamp ≡ held_in old key stamp =
        subst (λ (k : List ℕ). held_in old wish.key wish.stamp ≡ held_in old k stamp) same.0 (subst (λ (s : Timestamp). held_in old wish.key wish.stamp ≡ held_in old wish.key s) same.1 refl) in
        ap (λ (b : Bool). cond b now (lookup (is_at (name_cmp (key, stamp))) old)) at ∙ is ∙ ap (λ (held : Option (List ℕ)). held_after wish.act held) there
    by_name false e =
        let at : is_at (name_cmp (wish.key, wish.stamp)) (key, stamp) ≡ false = at-is-named wish key stamp ∙ e in
        ap (λ (b : Bool). cond b now (lookup (is_at (name_cmp (key, stamp))) old)) at

-- where the request changes nothing under its name, it leaves the objects as they are
pub becomes-same : (old : Objects) (wish : Wish) → held_in old wish.key wish.stamp ≡ held_after wish.act (held_in old wish.key wish.stamp) → Becomes old old wish
becomes-same old wish is key stamp = by_name (is_named key stamp wish) refl
  where
    by_name : (b : Bool) → is_named key stamp wish ≡ b → held_in old key stamp ≡ (if b then held_after wish.act (held_in old key stamp) else held_in old key stamp)
    by_name true e =
        let same = same-name (wish.key, wish.stamp) (key, stamp) (at-is-named wish key stamp ∙ e) in
        let there : held_in old wish.key wish.stamp ≡ held_in old key stamp =
        subst (λ (k : List ℕ). held_in old wish.key wish.stamp ≡ held_in old k stamp) same.0 (subst (λ (s : Timestamp). held_in old wish.key wish.stamp ≡ held_in old wish.key s) same.1 refl) in
        sym there ∙ is ∙ ap (λ (held : Option (List ℕ)). held_after wish.act held) there
    by_name false e = refl

-- the objects after one more request
pub stands-on : (old new : Objects) (wish : Wish) (wishes : List Wish) → Becomes old new wish
    → ((key : List ℕ) (stamp : Timestamp) → held_in old key stamp ≡ bytes_held wishes key stamp)
    → (key : List ℕ) (stamp : Timestamp) → held_in new key stamp ≡ bytes_held (wish ∷ wishes) key stamp
unfolding bytes_held
stands-on old new wish wishes becomes stands key stamp =
    becomes key stamp ∙ ap (λ (held : Option (List ℕ)). if is_named key stamp wish then held_after wish.act held else held) (stands key stamp)

-- the answer by what is held is that of the definition
pub answers-by : (old : Objects) (wish : Wish) (wishes : List Wish) (say : CloudSay) → say ≡ answer_by wish.act (held_in old wish.key wish.stamp)
    → ((key : List ℕ) (stamp : Timestamp) → held_in old key stamp ≡ bytes_held wishes key stamp) → say ≡ cloud_answer wishes wish
unfolding cloud_answer
answers-by old wish wishes say is stands = is ∙ ap (λ (held : Option (List ℕ)). answer_by wish.act held) (stands wish.key wish.stamp)

-- the same, whatever the call came to
pub all-answers : (old : Objects) (wish : Wish) (result : Result CloudSay NoMemory) → IfOk result (λ say. say ≡ answer_by wish.act (held_in old wish.key wish.stamp))
    → IfOk result (λ say. (wishes : List Wish) → ((key : List ℕ) (stamp : Timestamp) → held_in old key stamp ≡ bytes_held wishes key stamp) → say ≡ cloud_answer wishes wish)
all-answers old wish (Ok say) is = λ wishes stands. answers-by old wish wishes say is stands
all-answers old wish (Err e) is = tt

pub all-stand : (old new : Objects) (wish : Wish) (result : Result CloudSay NoMemory) → OnOk result (Becomes old new wish)
    → OnOk result ((wishes : List Wish) → ((key : List ℕ) (stamp : Timestamp) → held_in old key stamp ≡ bytes_held wishes key stamp) → (key : List ℕ) (stamp : Timestamp) → held_in new key stamp ≡ bytes_held (wish ∷ wishes) key stamp)
all-stand old new wish (Ok say) becomes = λ wishes stands. stands-on old new wish wishes becomes stands
all-stand old new wish (Err e) becomes = tt

-- bytes under a name stay at a put of the name
pub put-stays : (old : Objects) (wish : Wish) (bytes held : List ℕ) → wish.act ≡ Put bytes → held_in old wish.key wish.stamp ≡ Some held → Becomes old old wish
put-stays old wish bytes held act is =
    becomes-same old wish (is ∙ sym (ap (λ (o : Option (List ℕ)). held_after wish.act o) is ∙ ap (λ (a : CloudAct). held_after a (Some held)) act))

-- bytes are held where nothing was
pub put-begins : (old new : Objects) (wish : Wish) (bytes : List ℕ) → wish.act ≡ Put bytes → held_in old wish.key wish.stamp ≡ None
    → ((q : Name) → lookup (is_at (name_cmp q)) new ≡ cond (is_at (name_cmp (wish.key, wish.stamp)) q) (Some bytes) (lookup (is_at (name_cmp q)) old)) → Becomes old new wish
put-begins old new wish bytes act is updates =
    becomes-at old new wish (Some bytes) updates (sym (ap (λ (o : Option (List ℕ)). held_after wish.act o) is ∙ ap (λ (a : CloudAct). held_after a None) act))

-- nothing is held any more
pub delete-ends : (old new : Objects) (wish : Wish) → wish.act ≡ Delete
    → ((q : Name) → lookup (is_at (name_cmp q)) new ≡ cond (is_at (name_cmp (wish.key, wish.stamp)) q) None (lookup (is_at (name_cmp q)) old)) → Becomes old new wish
delete-ends old new wish act updates = becomes-at old new wish None updates (sym (ap (λ (a : CloudAct). held_after a (held_in old wish.key wish.stamp)) act))
