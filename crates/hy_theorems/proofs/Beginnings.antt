-- The operations that began, each once.
use Rattle.std.proofs.Common.{◌≡◌, ℕ, List, [], ◌∷◌, Some, None, refl, sym, ap, ◌∙◌, inl, inr}
use Rattle.std.specs.Prelude.{◌&&◌, ◌==◌, ◌⊎◌}
use Rattle.std.specs.List.{AllByRecursion}
use Rattle.std.proofs.lemmas.Option.{none-some, cond_some}
use Rattle.std.proofs.lemmas.Bool.{eqb-true, eq-eqb}
use Rattle.hy_record.specs.declared.action.Action.{Action}
use Rattle.hy_meta.proofs.Rising.{both}
use Rattle.hy_trace.specs.Deeds.{Params, Deed, Joined, Began, Handed, Served, Granted, Stopped, Nothing, Start, start_of, start_at}
use Rattle.hy_trace.specs.Trace.{IsTrace}
use Rattle.hy_trace.specs.History.{Begun, begun_of}
use Rattle.hy_trace.proofs.Growth.{or-cases, start-keeps}

abbrev pub AreOthers : List Begun → Type 0
AreOthers [] = Unit {0}
AreOthers (b ∷ ops) = AllByRecursion (λ a. (b.client ≡ a.client) × (b.op ≡ a.op) → ⊥) ops × AreOthers ops

begun-keep : (d : Deed) (t : List Deed) (ops : List Begun) → AllByRecursion (λ b. start_of b.client b.op t ≡ Some b.start) ops → AllByRecursion (λ b. start_of b.client b.op (d ∷ t) ≡ Some b.start) ops
begun-keep d t [] all = tt
begun-keep d t (b ∷ ops) all = (start-keeps b.client b.op d t b.start all.0, begun-keep d t ops all.1)

began-here : (c o : ℕ) (a : Action) (t : List Deed) → start_of c o t ≡ None → start_of c o (Began c o a ∷ t) ≡ Some (record { action = a; before = t })
unfolding start_of
began-here c o a t fresh = (let one = eq-eqb c c refl in let two = eq-eqb o o refl in rw (fresh, one, two) refl)

others-fresh : (c o : ℕ) (t : List Deed) (ops : List Begun) → start_of c o t ≡ None → AllByRecursion (λ b. start_of b.client b.op t ≡ Some b.start) ops → AllByRecursion (λ a. (c ≡ a.client) × (o ≡ a.op) → ⊥) ops
others-fresh c o t [] fresh all = tt
others-fresh c o t (b ∷ ops) fresh all =
    ((λ same. none-some b.start (sym fresh ∙ (ap (λ (x : ℕ). start_of x o t) same.0 ∙ (ap (λ (x : ℕ). start_of b.client x t) same.1 ∙ all.0)))), others-fresh c o t ops fresh all.1)

-- the operations that began are there, each once
pub begun-are : (p : Params) (t : List Deed) → IsTrace p t → AllByRecursion (λ b. start_of b.client b.op t ≡ Some b.start) (begun_of t) × AreOthers (begun_of t)
unfolding IsTrace begun_of
begun-are p [] trace = (tt, tt)
begun-are p (Began c o a ∷ t) trace =
    let was = begun-are p t trace.1 in
    ((began-here c o a t trace.0.0.fresh, begun-keep (Began c o a) t (begun_of t) was.0), (others-fresh c o t (begun_of t) trace.0.0.fresh was.0, was.1))
begun-are p (Joined ∷ t) trace = let was = begun-are p t trace.1 in (begun-keep Joined t (begun_of t) was.0, was.1)
begun-are p (Handed c o w cue ∷ t) trace = let was = begun-are p t trace.1 in (begun-keep (Handed c o w cue) t (begun_of t) was.0, was.1)
begun-are p (Served ask ∷ t) trace = let was = begun-are p t trace.1 in (begun-keep (Served ask) t (begun_of t) was.0, was.1)
begun-are p (Granted ask ∷ t) trace = let was = begun-are p t trace.1 in (begun-keep (Granted ask) t (begun_of t) was.0, was.1)
begun-are p (Stopped c ∷ t) trace = let was = begun-are p t trace.1 in (begun-keep (Stopped c) t (begun_of t) was.0, was.1)
begun-are p (Nothing ∷ t) trace = let was = begun-are p t trace.1 in (begun-keep Nothing t (begun_of t) was.0, was.1)

abbrev pub IsAmongBegun : List Begun → Begun → Type 0
IsAmongBegun [] b = ⊥
IsAmongBegun (first ∷ others) b = (first ≡ b) ⊎ IsAmongBegun others b

abbrev pub begun : ℕ → ℕ → Start → Begun
begun c o s = record { client = c; op = o; start = s }

more-begun : (d : Deed) (t : List Deed) (b : Begun) → IsAmongBegun (begun_of t) b → IsAmongBegun (begun_of (d ∷ t)) b
unfolding begun_of
more-begun (Began c o a) t b is = inr is
more-begun Joined t b is = is
more-begun (Handed c o w cue) t b is = is
more-begun (Served ask) t b is = is
more-begun (Granted ask) t b is = is
more-begun (Stopped c) t b is = is
more-begun Nothing t b is = is

new-begun : (c o : ℕ) (d : Deed) (t : List Deed) (s : Start) → start_at c o d t ≡ Some s → IsAmongBegun (begun_of (d ∷ t)) (begun c o s)
unfolding begun_of
new-begun c o (Began b n a) t s is =
    let parts = cond_some (b == c && n == o) (record { action = a; before = t }) s is in
    let tests = both (b == c) (n == o) parts.0 in
    let client = eqb-true b c tests.0 in
    let number = eqb-true n o tests.1 in
    inl (ap (λ (x : ℕ). begun x n (record { action = a; before = t })) client ∙ (ap (λ (x : ℕ). begun c x (record { action = a; before = t })) number ∙ ap (begun c o) parts.1))
new-begun c o Joined t s is = absurd (none-some s is)
new-begun c o (Handed b n w cue) t s is = absurd (none-some s is)
new-begun c o (Served ask) t s is = absurd (none-some s is)
new-begun c o (Granted ask) t s is = absurd (none-some s is)
new-begun c o (Stopped b) t s is = absurd (none-some s is)
new-begun c o Nothing t s is = absurd (none-some s is)

-- an operation that began is in the list
pub begun-in : (c o : ℕ) (t : List Deed) (s : Start) → start_of c o t ≡ Some s → IsAmongBegun (begun_of t) (begun c o s)
unfolding start_of
begun-in c o [] s is = absurd (none-some s is)
begun-in c o (d ∷ t) s is =
    elim (or-cases (start_of c o t) (start_at c o d t) s is) [
      | inl was ↦ more-begun d t (begun c o s) (begun-in c o t s was)
      | inr now ↦ new-begun c o d t s now.1
    ]
