-- How a run of device calls goes on.
use Rattle.std.proofs.Common.{◌⊎◌, inl, inr, ⊎_elim, ℕ, List, Result, Ok, Err, refl, sym, subst, arith}
use Rattle.std.proofs.lemmas.List.{take_min}
use Rattle.hy_base.specs.declared.failure.Failed.{Failed}
use Rattle.hy_disk.specs.Disk.{Torn, SyncLeaves}
use Rattle.hy_disk.specs.Crash.{Elapses, LeavesOnly}

module _ {D : Type 0} (moment : D → ℕ) (left_since : D → ℕ → List ℕ → Type 0) where
  -- before the first call
  pub started : (old : D) (P : List ℕ → Type 0) → ((c : List ℕ) → left_since old (moment old) c → P c) → LeavesOnly moment left_since old old P
  started old P here = record { later = omega arith; each = here; before = λ t c le left. inl left }

  -- one call more, after which a crash leaves what has P
  pub goes_on : (old mid new : D) (P may_leave : List ℕ → Type 0) → LeavesOnly moment left_since old mid P
      → Elapses (moment mid) (moment new) (left_since mid) (left_since new) may_leave
      → ((c : List ℕ) → may_leave c → P c) → LeavesOnly moment left_since old new P
  goes_on old mid new P may_leave so_far time here = record {
    later = omega (arith, so_far.later, time.later);
    each = λ c left. ⊎_elim (so_far.each c) (here c) (time.nothing_else (moment old) c so_far.later left);
    before = λ t c le left. ⊎_elim (so_far.before t c le) (λ now. inr (here c now)) (time.nothing_else t c (omega (arith, le, so_far.later)) left);
  }

  -- calls, and then others
  pub and_then : (old mid new : D) (P Q R : List ℕ → Type 0) → LeavesOnly moment left_since old mid P → LeavesOnly moment left_since mid new Q
      → ((c : List ℕ) → P c → R c) → ((c : List ℕ) → Q c → R c) → LeavesOnly moment left_since old new R
  and_then old mid new P Q R first second p q = record {
    later = omega (arith, first.later, second.later);
    each = λ c left. ⊎_elim (λ past. p c (first.each c past)) (q c) (second.before (moment old) c first.later left);
    before = λ t c le left. ⊎_elim (λ past. earlier t c (first.before t c le past)) (λ now. inr (q c now))
        (second.before t c (omega (arith, le, first.later)) left);
  }
    where
      earlier : (t : ℕ) (c : List ℕ) → left_since old t c ⊎ P c → left_since old t c ⊎ R c
      earlier t c (inl past) = inl past
      earlier t c (inr here) = inr (p c here)

  -- the same, said more weakly
  pub weaker : (old new : D) (P Q : List ℕ → Type 0) → LeavesOnly moment left_since old new P → ((c : List ℕ) → P c → Q c)
      → LeavesOnly moment left_since old new Q
  weaker old new P Q leaves p = record {
    later = leaves.later;
    each = λ c left. p c (leaves.each c left);
    before = λ t c le left. earlier t c (leaves.before t c le left);
  }
    where
      earlier : (t : ℕ) (c : List ℕ) → left_since old t c ⊎ P c → left_since old t c ⊎ Q c
      earlier t c (inl past) = inl past
      earlier t c (inr here) = inr (p c here)

-- nothing may have been written yet
pub torn_same : (place n : ℕ) (file : List ℕ) → Torn place n file file
torn_same place n file = record { before = take_min place file; after = refl; no_shorter = omega arith; no_longer = omega arith }

-- after a sync a crash leaves nothing that it might not have left before
pub sync_leaves : (file : List ℕ) (old new : List ℕ → Type 0) (result : Result Unit Failed) → SyncLeaves file old new result → old file → (c : List ℕ)
    → new c → old c
sync_leaves file old new (Ok done) leaves held c left = subst old (sym ((leaves c).0 left)) held
sync_leaves file old new (Err failed) leaves held c left = (leaves c).0 left
