-- A file read entry by entry.
use Rattle.std.proofs.Common.{◌≡◌, ◌≢◌, ℕ, ◌+◌, ◌-◌, ◌<◌, ◌≤◌, List, [], ◌∷◌, ◌++◌, length, get_or, drop, refl, sym, ◌∙◌, ap, subst, arith, length-drop}
use Rattle.std.proofs.lemmas.List.{drop_more, drop-drop}
use Rattle.std.proofs.lemmas.List.Elements.{All-push, All-nil}
use Rattle.hy_record.specs.declared.message.MetaAsk.{MetaAsk}
use Rattle.hy_journal.specs.declared.limits.TheConstants.{MAX_JOURNAL}
use Rattle.hy_journal.specs.declared.entry.Entry.{Entry}
use Rattle.hy_meta.specs.declared.service.Service.{Service}
use Rattle.hy_journal.specs.Entry.{IsEntry, HasEntry, LacksEntry}
use Rattle.hy_journal.specs.File.{blocks, IsBadAt}
use Rattle.hy_journal.specs.Fold.{asks_with, asks_of, asks_after}
use Rattle.hy_journal.specs.Keeper.{FoldsTo, Replays, ReplaysTo}
use Rattle.hy_journal.proofs.Blocks.{blocks-push, length-push}
use Rattle.hy_journal.proofs.Folding.{asks-push}

-- the gate that is next
module _ (bytes : List ℕ) (service : Service) (given end : ℕ) (so_far : ReplaysTo bytes service given end) where
  pub next_gate : (gate : ℕ) → get_or bytes (end - 1) 0 ≡ gate → bytes ≡ blocks so_far.entries ++ gate ∷ drop end bytes
  next_gate gate is =
      let b = blocks so_far.entries in
      let at : end - 1 ≡ length b = omega (arith, so_far.behind) in
      let behind : length b + 1 ≡ end = sym so_far.behind in
      so_far.front
      ∙ ap (λ (l : List ℕ). b ++ l) (drop_more bytes (length b) 0 (omega (arith, so_far.gate, so_far.behind)))
      ∙ ap (λ (g : ℕ). b ++ g ∷ drop (length b + 1) bytes) (ap (λ (n : ℕ). get_or bytes n 0) (sym at) ∙ is)
      ∙ ap (λ (n : ℕ). b ++ gate ∷ drop n bytes) behind

  pub bad_here : get_or bytes (end - 1) 0 ≡ 1 → 1 < length bytes → length bytes ≤ MAX_JOURNAL → LacksEntry (drop end bytes) → IsBadAt bytes end
  bad_here is not_new within lacks = record {
    entries = so_far.entries;
    rest = drop end bytes;
    shape = next_gate 1 is;
    at = so_far.behind;
    lacks = lacks;
    each = so_far.each;
    not_new = not_new;
    within = within;
  }

  pub all_read : (gate : ℕ) → get_or bytes (end - 1) 0 ≡ gate → gate ≢ 1 → length bytes ≤ MAX_JOURNAL → Replays bytes service given end
  all_read gate is shut within = record {
    entries = so_far.entries;
    journal = record { gate = gate; rest = drop end bytes; shape = next_gate gate is; closed = shut; within = within; each = so_far.each };
    behind = so_far.behind;
    folded = so_far.folded;
  }

  pub one_more : (entry : Entry) (size : ℕ) (next : Service) (sessions last : ℕ) → get_or bytes (end - 1) 0 ≡ 1 → HasEntry (drop end bytes) entry size
      → ((entries : List Entry) (served : List MetaAsk) → FoldsTo entries served service given → IsEntry entry
      → FoldsTo (entries ++ entry ∷ []) (asks_with served entry) next sessions)
      → last ≡ end + (size + 1) → ReplaysTo bytes next sessions last
  one_more entry size next sessions last is has folds ends =
      let e = so_far.entries in
      let long : length (blocks (e ++ entry ∷ [])) ≡ end + size = omega (arith, length-push e entry, so_far.behind, has.long) in
      let rest : drop size (drop end bytes) ≡ drop (length (blocks (e ++ entry ∷ []))) bytes =
      drop-drop size end bytes ∙ ap (λ (n : ℕ). drop n bytes) (sym long) in
      record {
        entries = e ++ entry ∷ [];
        front = next_gate 1 is ∙ ap (λ (l : List ℕ). blocks e ++ 1 ∷ l) has.front ∙ sym (blocks-push e entry (drop size (drop end bytes)))
            ∙ ap (λ (l : List ℕ). blocks (e ++ entry ∷ []) ++ l) rest;
        each = All-push IsEntry e entry so_far.each has.known;
        behind = omega (arith, ends, long);
        gate = omega (arith, ends, has.gate, length-drop end bytes, so_far.gate);
        folded = subst (λ (l : List MetaAsk). FoldsTo (e ++ entry ∷ []) l next sessions) (sym (asks-push [] e entry))
            (folds e (asks_of e) so_far.folded has.known);
      }

-- nothing was read
pub none_read : (bytes : List ℕ) (service : Service) (given end : ℕ) → 1 < length bytes → FoldsTo [] [] service given → end ≡ 1
    → ReplaysTo bytes service given end
unfolding blocks asks_after
none_read bytes service given end not_new folded is = record {
  entries = [];
  front = refl;
  each = All-nil IsEntry;
  behind = omega arith;
  gate = omega arith;
  folded = folded;
}
