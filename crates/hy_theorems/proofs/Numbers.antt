-- The numbers of a cell key's record: each attempt that is applied raises it by one.
use Rattle.std.proofs.Common.{◌≡◌, ℕ, ◌+◌, ◌<◌, ◌≤◌, true, List, [], ◌∷◌, ◌++◌, Option, Some, refl, sym, ap, subst, ◌∙◌, inl, inr, arith}
use Rattle.std.specs.Prelude.{◌⊎◌, nat_lt}
use Rattle.std.proofs.lemmas.Option.{cond_some}
use Rattle.std.proofs.lemmas.Bool.Decides.{nat_tests}
use Rattle.hy_record.specs.declared.message.MetaAsk.{MetaAsk}
use Rattle.hy_record.specs.Stamp.{Timestamp, next_stamp, stamp_lt}
use Rattle.hy_record.proofs.Order.{stamp_eq-true}
use Rattle.hy_meta.specs.Service.{Attempt, is_expected, record_after, record_stamp}
use Rattle.hy_meta.specs.Run.{IsTried}
use Rattle.hy_meta.proofs.Lasting.{stamp-is, step-cases}
use Rattle.hy_trace.proofs.Growth.{Le}
use Rattle.hy_theorems.proofs.Meaning.{WasStamp}

-- a number is not above another where its timestamp is not
pub le-number : (a b : Timestamp) → Le a b → a.sn ≤ b.sn
unfolding stamp_lt
le-number a b le = grind (arith, nat_tests)

pub lt-number : (a b : Timestamp) → a.sn < b.sn → stamp_lt a b ≡ true
unfolding stamp_lt
lt-number a b less = grind (arith, nat_tests)

pub next-number : (h x : Timestamp) (c : ℕ) → next_stamp h c ≡ Some x → x.sn ≡ h.sn + 1
next-number h x c is =
    let parts = cond_some (nat_lt (h.sn + 1) 4294967295) (record { sn = h.sn + 1; cid = c }) x is in
    ap (λ (y : Timestamp). y.sn) (sym parts.1)

-- the attempt expects a timestamp, and has the next number
abbrev pub IsNext : Attempt → Type 0
IsNext a = (e : Timestamp) × (a.expected ≡ Some e) × (a.rec.stamp.sn ≡ e.sn + 1)

-- each attempt on the key does
abbrev pub AreNext : List MetaAsk → List ℕ → Type 0
AreNext requests key = (a : Attempt) → IsTried requests a → a.key ≡ key → IsNext a

-- the timestamp of the record stayed, or has a greater number now
pub numbers-rise : (later before : List MetaAsk) (key : List ℕ) → AreNext (later ++ before) key → (record_stamp before key ≡ record_stamp (later ++ before) key) ⊎ ((record_stamp before key).sn < (record_stamp (later ++ before) key).sn)
numbers-rise [] before key next = inl refl
numbers-rise (ask ∷ later) before key next =
    let was = numbers-rise later before key (λ a tried own. next a (inr tried) own) in
    elim (step-cases ask (later ++ before) key) [
      | inl same ↦
          let stays : record_stamp (ask ∷ (later ++ before)) key ≡ record_stamp (later ++ before) key = stamp-is (ask ∷ (later ++ before)) key (record_after (later ++ before) key) same ∙ sym (stamp-is (later ++ before) key (record_after (later ++ before) key) refl) in
          elim was [
            | inl one ↦ inl (one ∙ sym stays)
            | inr less ↦ inr (let e = ap (λ (x : Timestamp). x.sn) stays in omega (arith, less, e))
          ]
      | inr raises ↦
          let a = raises.attempt in
          let n = next a (inl raises.is) raises.key_is in
          let found : record_stamp (later ++ before) key ≡ n.0 = stamp_eq-true (record_stamp (later ++ before) key) n.0 (subst (λ (x : Option Timestamp). is_expected x (record_stamp (later ++ before) key) ≡ true) n.1 raises.expected) in
          let now = ap (λ (x : Timestamp). x.sn) raises.stamp_is in
          let held = ap (λ (x : Timestamp). x.sn) found in
          let raised = n.2 in
          elim was [
            | inl one ↦ inr (let same = ap (λ (x : Timestamp). x.sn) one in omega (arith, same, now, held, raised))
            | inr less ↦ inr (omega (arith, less, now, held, raised))
          ]
    ]

-- a timestamp that the record had is the record's, or has a smaller number
pub number-was : (requests : List MetaAsk) (key : List ℕ) (s : Timestamp) → AreNext requests key → WasStamp requests key s → (s ≡ record_stamp requests key) ⊎ (s.sn < (record_stamp requests key).sn)
number-was requests key s next was =
    let all : AreNext (was.later ++ was.before) key = subst (λ (x : List MetaAsk). AreNext x key) (sym was.all) next in
    let cases = numbers-rise was.later was.before key all in
    subst (λ (y : Timestamp). (y ≡ record_stamp requests key) ⊎ (y.sn < (record_stamp requests key).sn)) was.is
    (subst (λ (x : List MetaAsk). (record_stamp was.before key ≡ record_stamp x key) ⊎ ((record_stamp was.before key).sn < (record_stamp x key).sn)) was.all cases)

-- of two timestamps that the record had one has a smaller number, where they are not one
pub numbers-differ : (requests : List MetaAsk) (key : List ℕ) (x y : Timestamp) → AreNext requests key → WasStamp requests key x → WasStamp requests key y → x.sn ≡ y.sn → x ≡ y
numbers-differ requests key x y next first second same = ordered first second
  where
    tails : (later before : List MetaAsk) → later ++ before ≡ requests → AreNext before key
    tails later before all a tried own = next a (subst (λ (z : List MetaAsk). IsTried z a) all (deeper later before a tried)) own
      where
        deeper : (later before : List MetaAsk) (a : Attempt) → IsTried before a → IsTried (later ++ before) a
        deeper [] before a tried = tried
        deeper (ask ∷ later) before a tried = inr (deeper later before a tried)

    -- the two moments stand one behind the other
    compare : (l1 b1 l2 b2 : List MetaAsk) → l1 ++ b1 ≡ l2 ++ b2 → ((l : List MetaAsk) × (l ++ b1 ≡ b2)) ⊎ ((l : List MetaAsk) × (l ++ b2 ≡ b1))
    compare [] b1 l2 b2 is = inr (l2, sym is)
    compare (a ∷ l1) b1 [] b2 is = inl (a ∷ l1, is)
    compare (a ∷ l1) b1 (c ∷ l2) b2 is = compare l1 b1 l2 b2 cc

    ordered : WasStamp requests key x → WasStamp requests key y → x ≡ y
    ordered f g =
        elim (compare f.later f.before g.later g.before (f.all ∙ sym g.all)) [
          | inl up ↦
              let c = number-was g.before key x (tails g.later g.before g.all) (record { later = up.0; before = f.before; all = up.1; is = f.is }) in
              elim c [
                | inl one ↦ one ∙ g.is
                | inr less ↦ absurd (let e = ap (λ (z : Timestamp). z.sn) g.is in omega (arith, less, e, same))
              ]
          | inr up ↦
              let c = number-was f.before key y (tails f.later f.before f.all) (record { later = up.0; before = g.before; all = up.1; is = g.is }) in
              elim c [
                | inl one ↦ sym (one ∙ f.is)
                | inr less ↦ absurd (let e = ap (λ (z : Timestamp). z.sn) f.is in omega (arith, less, e, same))
              ]
        ]
