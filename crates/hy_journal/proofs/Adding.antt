-- What a state stands for after one entry more.
use Rattle.std.proofs.Common.{◌≡◌, ℕ, ◌+◌, ◌<◌, ◌≤◌, true, false, List, [], ◌∷◌, ◌++◌, sym, ◌∙◌, ap, arith}
use Rattle.std.proofs.lemmas.Bool.{cond-true, cond-false}
use Rattle.std.proofs.lemmas.Bool.Decides.{nat_tests}
use Rattle.hy_base.specs.declared.limits.TheConstants.{MAX_SESSIONS}
use Rattle.hy_record.specs.declared.message.MetaAsk.{MetaAsk}
use Rattle.hy_meta.specs.Held.{Serves}
use Rattle.hy_meta.specs.Sessions.{sessions_after}
use Rattle.hy_journal.specs.declared.entry.Entry.{Entry}
use Rattle.hy_journal.specs.declared.entry.Entry.TheVariants.{Join, Ask}
use Rattle.hy_meta.specs.declared.service.Service.{Service}
use Rattle.hy_journal.specs.Entry.{is_kept, IsEntry}
use Rattle.hy_journal.specs.Fold.{kept_asks}
use Rattle.hy_journal.specs.Keeper.{FoldsTo}
use Rattle.hy_journal.proofs.Folding.{asks-push, sessions-push}

-- a session more
pub folded_join : (entries : List Entry) (served : List MetaAsk) (service : Service) (given next : ℕ) → FoldsTo entries served service given
    → next ≡ sessions_after given → FoldsTo (entries ++ Join ∷ []) served service next
folded_join entries served service given next is more = record {
  serves = is.serves;
  kept = is.kept ∙ sym (asks-push [] entries Join);
  sessions = more ∙ ap sessions_after is.sessions ∙ sym (sessions-push 0 entries Join);
}

pub session_more : (given : ℕ) → given < MAX_SESSIONS → given + 1 ≡ sessions_after given
session_more given below = grind (arith, nat_tests)

pub session_none : (given : ℕ) → MAX_SESSIONS ≤ given → given ≡ sessions_after given
session_none given full = grind (arith, nat_tests)

-- a kept request more
pub folded_ask : (entries : List Entry) (served : List MetaAsk) (ask : MetaAsk) (old new : Service) (given : ℕ) → FoldsTo entries served old given
    → is_kept ask ≡ true
    → (Serves old served → Serves new (ask ∷ served)) → FoldsTo (entries ++ Ask ask ∷ []) (ask ∷ served) new given
unfolding kept_asks
folded_ask entries served ask old new given is kept serves = record {
  serves = serves is.serves;
  kept = cond-true (is_kept ask) (ask ∷ kept_asks served) (kept_asks served) kept ∙ ap (λ (l : List MetaAsk). ask ∷ l) is.kept
      ∙ sym (asks-push [] entries (Ask ask));
  sessions = is.sessions ∙ sym (sessions-push 0 entries (Ask ask));
}

-- a request more that is not kept
pub folded_look : (entries : List Entry) (served : List MetaAsk) (ask : MetaAsk) (old new : Service) (given : ℕ) → FoldsTo entries served old given
    → is_kept ask ≡ false
    → (Serves old served → Serves new (ask ∷ served)) → FoldsTo entries (ask ∷ served) new given
unfolding kept_asks
folded_look entries served ask old new given is kept serves = record {
  serves = serves is.serves;
  kept = cond-false (is_kept ask) (ask ∷ kept_asks served) (kept_asks served) kept ∙ is.kept;
  sessions = is.sessions;
}

pub entry_kept : (ask : MetaAsk) → IsEntry (Ask ask) → is_kept ask ≡ true
unfolding IsEntry
entry_kept ask is = is.0
