-- Ids over all openings.
use Rattle.std.proofs.Common.{◌≡◌, inl, inr, ℕ, ◌+◌, ◌<◌, ◌≤◌, List, [], ◌∷◌, ◌++◌, All, sym, ◌∙◌, ap, arith}
use Rattle.std.proofs.lemmas.Bool.Decides.{nat_tests}
use Rattle.std.proofs.lemmas.List.Elements.{All-nil, All-cons, All-weaker}
use Rattle.hy_meta.specs.Sessions.{sessions_after}
use Rattle.hy_journal.specs.declared.entry.Entry.{Entry}
use Rattle.hy_journal.specs.declared.entry.Entry.TheVariants.{Join, Ask}
use Rattle.hy_journal.specs.File.{IsWithOrWithout}
use Rattle.hy_journal.specs.Fold.{sessions_with, sessions_of, sessions_after_all}
use Rattle.hy_journal.specs.History.{Event, opened, answered, cut_off, known, doubtful, IsHistory, ids_of, IsFalling}
use Rattle.hy_journal.proofs.Folding.{sessions-push}
use Rattle.hy_journal.proofs.Adding.{session_more}

grows_one : (given : ℕ) → given ≤ sessions_after given
grows_one given = grind (arith, nat_tests)

grows : (given : ℕ) (entries : List Entry) → given ≤ sessions_after_all given entries
unfolding sessions_after_all
grows given [] = omega arith
grows given (Join ∷ entries) = omega (arith, grows_one given, grows (sessions_after given) entries)
grows given (Ask ask ∷ entries) = grows given entries

grows_append : (given : ℕ) (a b : List Entry) → sessions_after_all given a ≤ sessions_after_all given (a ++ b)
unfolding sessions_after_all
grows_append given [] b = grows given b
grows_append given (e ∷ a) b = grows_append (sessions_with given e) a b

pub grows_found : (a more found : List Entry) → IsWithOrWithout a more found → sessions_of a ≤ sessions_of found
grows_found a more found (inl same) = omega (arith, ap sessions_of same)
grows_found a more found (inr longer) = omega (arith, ap sessions_of longer, grows_append 0 a more)

-- an id that was given is at most the count of sessions that is known
bounded : (history : List Event) → IsHistory history → All (λ id. id ≤ sessions_of (known history)) (ids_of history)
unfolding known IsHistory ids_of
bounded [] is = All-nil (λ id. id ≤ sessions_of [])
bounded (opened entries ∷ before) is =
    All-weaker (λ (id : ℕ). id ≤ sessions_of (known before)) (λ (id : ℕ). id ≤ sessions_of entries)
    (λ id low. omega (arith, grows_found (known before) (doubtful before) entries is.0)) (ids_of before) (bounded before is.1)
bounded (answered Join ∷ before) is =
    let next : sessions_of (known before ++ Join ∷ []) ≡ sessions_of (known before) + 1 = sessions-push 0 (known before) Join
    ∙ sym (session_more (sessions_of (known before)) is.0) in
    All-cons (λ (id : ℕ). id ≤ sessions_of (known before ++ Join ∷ [])) (sessions_of (known before) + 1) (ids_of before) (omega (arith, next))
    (All-weaker (λ (id : ℕ). id ≤ sessions_of (known before)) (λ (id : ℕ). id ≤ sessions_of (known before ++ Join ∷ [])) (λ id low. omega (arith, next))
    (ids_of before) (bounded before is.2))
bounded (answered (Ask ask) ∷ before) is =
    All-weaker (λ (id : ℕ). id ≤ sessions_of (known before)) (λ (id : ℕ). id ≤ sessions_of (known before ++ Ask ask ∷ []))
    (λ id low. omega (arith, sessions-push 0 (known before) (Ask ask))) (ids_of before) (bounded before is.2)
bounded (cut_off entry ∷ before) is = bounded before is.1

pub falling : (history : List Event) → IsHistory history → IsFalling (ids_of history)
unfolding IsHistory ids_of IsFalling
falling [] is = tt
falling (opened entries ∷ before) is = falling before is.1
falling (answered Join ∷ before) is = (
  All-weaker (λ (id : ℕ). id ≤ sessions_of (known before)) (λ (id : ℕ). id < sessions_of (known before) + 1) (λ id low. omega arith) (ids_of before)
      (bounded before is.2),
  falling before is.2,
)
falling (answered (Ask ask) ∷ before) is = falling before is.2
falling (cut_off entry ∷ before) is = falling before is.1
