-- The last swap of each client that was judged, before and after one is noted.
use Rattle.std.proofs.Common.{◌≡◌, ℕ, Bool, true, false, cond, List, [], ◌∷◌, Option, Some, None, refl, sym, ap, ◌∙◌, inl, inr}
use Rattle.std.specs.Prelude.{◌==◌, is_some}
use Rattle.std.specs.BTreeMap.{is_at}
use Rattle.std.specs.declared.cmp.Ordering.{Ordering}
use Rattle.std.specs.declared.cmp.Ordering.TheVariants.{Less, Equal, Greater}
use Rattle.std.specs.Cmp.{nat_cmp_is}
use Rattle.std.specs.Ordering.{nat_cmp, is_eq}
use Rattle.std.proofs.lemmas.Bool.{false≢true, eqb-true, eq-eqb}
use Rattle.std.proofs.lemmas.Map.Lookups.{exact_unsigned}
use Rattle.hy_record.specs.declared.message.MetaAsk.{MetaAsk}
use Rattle.hy_record.specs.declared.message.MetaAsk.TheVariants as asks
use Rattle.hy_record.specs.Stamp.{Timestamp}
use Rattle.hy_record.specs.Record.{RecordValue}
use Rattle.hy_meta.specs.declared.verdicts.Verdict.{Verdict}
use Rattle.hy_meta.specs.Service.{is_judged}
use Rattle.hy_meta.specs.Meta.{Judged, judged_answer, last_swap}
use Rattle.std.specs.Option.{option_map}
use Rattle.hy_meta.specs.Entry.{EntryValue, no_entry, SameEntries}
use Rattle.hy_meta.specs.Stands.{Stands}
use Rattle.hy_meta.specs.Verdicts.{judged, judged_there, nothing_judged, NotesLast, SameLasts}
use Rattle.hy_meta.proofs.Standing.{stands-new}
use Rattle.hy_meta.proofs.Rising.{cases_bool}

is-equal : (o : Ordering) → is_eq o ≡ true → o ≡ Equal
is-equal Equal e = refl
is-equal Less e = absurd (false≢true e)
is-equal Greater e = absurd (false≢true e)

same-order : (a : ℕ) → is_at (nat_cmp a) a ≡ true
same-order a = ap is_eq (sym (nat_cmp_is a a Equal refl))

-- the look-up's test is whether the numbers are one
at-eq : (a b : ℕ) → is_at (nat_cmp a) b ≡ (a == b)
at-eq a b =
    elim (cases_bool (a == b)) [
      | inl same ↦ ap (λ (x : ℕ). is_at (nat_cmp a) x) (sym (eqb-true a b same)) ∙ same-order a ∙ sym same
      | inr apart ↦ elim (cases_bool (is_at (nat_cmp a) b)) [
        | inl tie ↦ absurd (false≢true (sym apart ∙ eq-eqb a b (exact_unsigned a b (is-equal (nat_cmp a b) tie))))
        | inr other ↦ other ∙ sym apart
      ]
    ]

-- a verdict is the client's last swap now
pub noted : (old new : ℕ → Option (Option Verdict)) (client : ℕ) (v : Verdict) → ((c : ℕ) → new c ≡ cond (is_at (nat_cmp client) c) (Some (Some v)) (old c))
    → NotesLast (λ c. judged_there (old c)) (λ c. judged_there (new c)) client (judged v)
noted old new client v puts c =
    ap judged_there (puts c) ∙ ap (λ (b : Bool). judged_there (cond b (Some (Some v)) (old c))) (at-eq client c)
    ∙ elim (cases_bool (client == c)) [
      | inl own ↦ rw own refl
      | inr other ↦ rw other refl
    ]

-- room alone tells of no swap
pub made-room : (old new : ℕ → Option (Option Verdict)) (client : ℕ) → is_some (old client) ≡ false → ((c : ℕ) → new c ≡ cond (is_at (nat_cmp client) c) (Some None) (old c))
    → SameLasts (λ c. judged_there (old c)) (λ c. judged_there (new c))
made-room old new client none puts c =
    ap judged_there (puts c) ∙ ap (λ (b : Bool). judged_there (cond b (Some None) (old c))) (at-eq client c)
    ∙ elim (cases_bool (client == c)) [
      | inl own ↦
          let nothing : old c ≡ None = ap old (sym (eqb-true client c own)) ∙ is-none (old client) none in
          rw own (sym (ap judged_there nothing))
      | inr other ↦ rw other refl
    ]
  where
    is-none : (o : Option (Option Verdict)) → is_some o ≡ false → o ≡ None
    is-none None e = refl
    is-none (Some p) e = absurd (false≢true (sym e))

pub room-there : (old new : ℕ → Option (Option Verdict)) (client : ℕ) → ((c : ℕ) → new c ≡ cond (is_at (nat_cmp client) c) (Some None) (old c)) → is_some (new client) ≡ true
room-there old new client puts = ap is_some (puts client) ∙ ap (λ (b : Bool). is_some (cond b (Some None) (old client))) (same-order client)

-- ---- one request more

module _ (old : ℕ → Option Judged) (before : List MetaAsk) (is : (c : ℕ) → old c ≡ last_swap before c) where
  module _ (client op : ℕ) (k : List ℕ) (expected : Timestamp) (r : RecordValue) where
    -- a swap that is not judged is no client's last one
    pub lasts-repeated : is_judged before client op ≡ false → (c : ℕ) → old c ≡ last_swap (asks.Swap client op k expected r ∷ before) c
    unfolding last_swap
    lasts-repeated repeated c =
        elim (cases_bool (client == c)) [
          | inl own ↦ rw (own, repeated) (is c)
          | inr other ↦ rw other (is c)
        ]

    pub lasts-judged : (new : ℕ → Option Judged) → is_judged before client op ≡ true
        → NotesLast old new client (record { op = op; say = judged_answer before (record { client = client; op = op; key = k; rec = r; expected = Some expected }) })
        → (c : ℕ) → new c ≡ last_swap (asks.Swap client op k expected r ∷ before) c
    unfolding last_swap
    lasts-judged new judged_so notes c =
        notes c ∙ elim (cases_bool (client == c)) [
          | inl own ↦ rw (own, judged_so) refl
          | inr other ↦ rw other (is c)
        ]

-- ---- the beginning

pub stands-started : (entries : List ℕ → EntryValue) (last : ℕ → Option Judged) → SameEntries (λ _. no_entry) entries → SameLasts nothing_judged last → Stands entries last []
unfolding last_swap
stands-started entries last none nothing = record { entries = stands-new entries none; swaps = λ c. nothing c }

pub got : (v : Option Verdict) → option_map judged v ≡ judged_there (Some v)
got None = refl
got (Some v) = refl
