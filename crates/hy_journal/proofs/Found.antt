-- A file that is opened.
use Rattle.std.proofs.Common.{◌≡◌, ℕ, ◌+◌, ◌-◌, ◌≤◌, List, [], ◌∷◌, ◌++◌, length, take, drop, replicate, sym, ◌∙◌, ap, subst, arith, length-append, length-take, take-append-drop}
use Rattle.std.proofs.lemmas.List.{drop_all, take-take, drop-take}
use Rattle.std.proofs.lemmas.List.Elements.{All-nil}
use Rattle.hy_disk.specs.Disk.{written, TornFrom, OnlyFile, SameFiles, ReadsAt}
use Rattle.hy_meta.specs.declared.service.Service.{Service}
use Rattle.hy_journal.specs.Entry.{IsEntry}
use Rattle.hy_journal.specs.File.{blocks, IsNew, IsJournal}
use Rattle.hy_journal.specs.Fold.{asks_after}
use Rattle.hy_journal.specs.Keeper.{FoldsTo, Opens, Replays}
use Rattle.hy_journal.proofs.Blocks.{recovers_new, recovers_journal}

-- a new file's first gate
pub first_gate : (found : List ℕ) → IsNew found → written 0 (0 ∷ []) found ≡ 0 ∷ []
first_gate found new =
    let none : 0 - length found ≡ 0 = omega arith in
    let rest : drop (0 + 1) found ≡ [] = drop_all (0 + 1) found new in
    ap (λ (n : ℕ). replicate n 0 ++ (0 ∷ drop (0 + 1) found)) none ∙ ap (λ (l : List ℕ). 0 ∷ l) rest

pub opens_new : (found now : List ℕ) (may_leave : List ℕ → Type 0) (service : Service) (given end : ℕ) → IsNew found → now ≡ written 0 (0 ∷ []) found
    → OnlyFile now may_leave
    → FoldsTo [] [] service given → end ≡ 1 → Opens found now may_leave service given end
unfolding blocks asks_after
opens_new found now may_leave service given end new is durable folded at =
    let shape : now ≡ 0 ∷ [] = is ∙ first_gate found new in
    record {
      entries = [];
      recovers = recovers_new found new;
      settled = record {
        journal = record {
          gate = 0;
          rest = [];
          shape = shape;
          closed = omega arith;
          within = omega
              (arith, ap (length {A = ℕ}) shape);
          each = All-nil IsEntry;
        };
        behind = omega arith;
        durable = durable;
      };
      folded = folded;
    }

-- a journal is opened as it is
pub opens_journal : (found now : List ℕ) (may_leave : List ℕ → Type 0) (service : Service) (given end : ℕ) → Replays found service given end → now ≡ found
    → OnlyFile found may_leave
    → Opens found now may_leave service given end
opens_journal found now may_leave service given end replays same durable = record {
  entries = replays.entries;
  recovers = recovers_journal replays.entries found replays.journal;
  settled = record {
    journal = subst (IsJournal replays.entries) (sym same) replays.journal;
    behind = replays.behind;
    durable = subst (λ (f : List ℕ). OnlyFile f may_leave) (sym same) durable;
  };
  folded = replays.folded;
}

-- a write of one byte leaves a new file new
pub stays_new : (found : List ℕ) (files : List ℕ → Type 0) → IsNew found → OnlyFile found files → (c : List ℕ) → TornFrom 0 1 files c → IsNew c
stays_new found files new durable c torn =
    let is : torn.0 ≡ found = (durable torn.0).0 torn.1 in
    omega (arith, torn.2.no_longer, ap (length {A = ℕ}) is)

pub only_new : (found : List ℕ) (files : List ℕ → Type 0) → IsNew found → OnlyFile found files → (c : List ℕ) → files c → IsNew c
only_new found files new durable c left = omega (arith, ap (length {A = ℕ}) ((durable c).0 left))

-- so many bytes, and then others
take_sum : (n m : ℕ) (xs : List ℕ) → take (n + m) xs ≡ take n xs ++ take m (drop n xs)
take_sum n m xs =
    sym (take-append-drop n (take (n + m) xs))
    ∙ ap (λ (l : List ℕ). l ++ drop n (take (n + m) xs)) (take-take n (n + m) xs (omega arith))
    ∙ ap (λ (l : List ℕ). take n xs ++ l) (drop-take n m xs)

-- a piece more of a file
pub piece_more : (file bytes room : List ℕ) (count : ℕ) → bytes ≡ take (length bytes) file → ReadsAt file (length bytes) room count
    → bytes ++ take count room ≡ take (length (bytes ++ take count room)) file
piece_more file bytes room count front reads =
    let n = length bytes in
    let long : length (bytes ++ take count room) ≡ n + count = omega (arith, length-append bytes (take count room), length-take count room, reads.fits) in
    ap (λ (l : List ℕ). l ++ take count room) front
    ∙ ap (λ (l : List ℕ). take n file ++ l) reads.bytes
    ∙ sym (take_sum n count file)
    ∙ ap (λ (k : ℕ). take k file) (sym long)

pub piece_within : (file bytes room : List ℕ) (count : ℕ) → length bytes ≤ length file → ReadsAt file (length bytes) room count
    → length (bytes ++ take count room) ≤ length file
piece_within file bytes room count within reads = omega (arith, length-append bytes (take count room), length-take count room, reads.within)

-- what is durable stays so while nothing else may be left
pub still_only : (file : List ℕ) (old new : List ℕ → Type 0) → OnlyFile file old → SameFiles old new → OnlyFile file new
still_only file old new only same c = (λ left. (only c).0 ((same c).0 left), λ is. (same c).1 ((only c).1 is))

pub same_then : (a b c : List ℕ → Type 0) → SameFiles a b → SameFiles b c → SameFiles a c
same_then a b c first second file = (λ left. (first file).0 ((second file).0 left), λ left. (second file).1 ((first file).1 left))
