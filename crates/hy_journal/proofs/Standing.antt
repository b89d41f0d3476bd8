-- A keeper before a call and after it.
use Rattle.std.proofs.Common.{◌≡◌, inl, ℕ, ◌+◌, ◌≤◌, true, false, List, [], ◌∷◌, ◌++◌, length, sym, subst}
use Rattle.std.proofs.lemmas.Bool.{cond-true, cond-false}
use Rattle.hy_record.specs.declared.message.MetaAsk.{MetaAsk}
use Rattle.hy_meta.specs.declared.service.Service.{Service}
use Rattle.hy_disk.specs.Crash.{LeavesOnly}
use Rattle.hy_journal.specs.declared.limits.TheConstants.{MAX_JOURNAL}
use Rattle.hy_journal.specs.declared.entry.Entry.{Entry}
use Rattle.hy_journal.specs.declared.entry.Entry.TheVariants.{Join, Ask}
use Rattle.hy_journal.specs.declared.keeper.Keeper.{Keeper}
use Rattle.hy_journal.specs.Entry.{is_kept, IsEntry, entry_bytes}
use Rattle.hy_journal.specs.File.{Recovers, HasOrLacks}
use Rattle.hy_journal.specs.Fold.{entries_of}
use Rattle.hy_journal.specs.Keeper.{Stands, CanAppend, FoldsTo, disk_of}
use Rattle.hy_journal.proofs.Blocks.{recovers_journal}
use Rattle.hy_journal.proofs.Moments.{started}

pub is_join : IsEntry Join
unfolding IsEntry
is_join = tt

pub kept_entries : (ask : MetaAsk) → is_kept ask ≡ true → entries_of ask ≡ Ask ask ∷ []
kept_entries ask kept = cond-true (is_kept ask) (Ask ask ∷ []) [] kept

pub no_entries : (ask : MetaAsk) → is_kept ask ≡ false → entries_of ask ≡ []
no_entries ask not_kept = cond-false (is_kept ask) (Ask ask ∷ []) [] not_kept

pub same_fold : (entries : List Entry) (served : List MetaAsk) (s t : Service) (n m : ℕ) → FoldsTo entries served s n → t ≡ s → m ≡ n
    → FoldsTo entries served t m
same_fold entries served s t n m folds service given =
    subst (λ (x : Service). FoldsTo entries served x m) (sym service) (subst (λ (x : ℕ). FoldsTo entries served s x) (sym given) folds)

module _ {D : Type 0} (contents : D → List ℕ) (may_leave : D → List ℕ → Type 0) where
  -- the disk as it is, with no call made
  pub still : (moment : D → ℕ) (left_since : D → ℕ → List ℕ → Type 0)
      (only_now : (disk : D) (c : List ℕ) → left_since disk (moment disk) c → may_leave disk c)
      → (keeper : Keeper D) (entries more : List Entry) (served : List MetaAsk) → Stands contents may_leave keeper entries served
      → LeavesOnly moment left_since (disk_of keeper) (disk_of keeper) (HasOrLacks entries more)
  still moment left_since only_now keeper entries more served stands =
      let settled = stands.settled in
      started moment left_since (disk_of keeper) (HasOrLacks entries more) (λ c left.
      inl (subst (Recovers entries) (sym ((settled.durable c).0 (only_now (disk_of keeper) c left)))
      (recovers_journal entries (contents (disk_of keeper)) settled.journal)))

  pub can_append : (keeper : Keeper D) (entries : List Entry) (served : List MetaAsk) → Stands contents may_leave keeper entries served
      → (entry : Entry) (bytes : List ℕ) → IsEntry entry → bytes ≡ entry_bytes entry ++ 0 ∷ []
      → keeper.state.end + length bytes ≤ MAX_JOURNAL → CanAppend entries entry keeper.state.end bytes (contents keeper.disk) (may_leave keeper.disk)
  can_append keeper entries served stands entry bytes known spelled within = record { settled = stands.settled; known = known; spelled = spelled; within = within }

  pub stands_with : (keeper : Keeper D) (a b : List Entry) (served : List MetaAsk) → a ≡ b → Stands contents may_leave keeper a served
      → Stands contents may_leave keeper b served
  stands_with keeper a b served is stands = subst (λ (l : List Entry). Stands contents may_leave keeper l served) is stands
