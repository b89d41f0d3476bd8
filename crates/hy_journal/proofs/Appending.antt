-- What a crash leaves in each of the two steps in which an entry is added.
use Rattle.std.proofs.Common.{◌≡◌, inl, inr, ℕ, ◌+◌, ◌-◌, ◌≤◌, min, List, [], ◌∷◌, ◌++◌, length, get_or, take, drop, replicate, All, sym, ◌∙◌, ap, arith, append_assoc, length-append, take-append-drop}
use Rattle.std.proofs.lemmas.Bool.{cases_eq}
use Rattle.std.proofs.lemmas.List.{take_at, drop_at, drop_more}
use Rattle.std.proofs.lemmas.List.Elements.{All-push}
use Rattle.hy_disk.specs.Disk.{written, Torn, OnlyFile}
use Rattle.hy_disk.specs.Laws.{length-written}
use Rattle.hy_journal.specs.declared.limits.TheConstants.{MAX_JOURNAL}
use Rattle.hy_journal.specs.declared.entry.Entry.{Entry}
use Rattle.hy_journal.specs.Entry.{IsEntry, entry_bytes}
use Rattle.hy_journal.specs.File.{blocks, IsJournal, Recovers, HasOrLacks}
use Rattle.hy_journal.specs.Keeper.{IsSettled}
use Rattle.hy_journal.proofs.Blocks.{blocks-push, length-push, recovers_journal}

-- a write inside a file or at its end leaves no gap
pub written-inside : (place : ℕ) (bytes old : List ℕ) → place ≤ length old
    → written place bytes old ≡ take place old ++ (bytes ++ drop (place + length bytes) old)
written-inside place bytes old within =
    let none : place - length old ≡ 0 = omega arith in
    ap (λ (n : ℕ). take place old ++ (replicate n 0 ++ (bytes ++ drop (place + length bytes) old))) none

-- nor does a crash change what stands before it
pub torn-before : (place n : ℕ) (old new : List ℕ) → place ≤ length old → Torn place n old new → take place new ≡ take place old
torn-before place n old new within torn =
    let same : min place (length old) ≡ place = omega arith in
    ap (λ (m : ℕ). take m new) (sym same) ∙ torn.before

-- a file cut behind the gate that follows the blocks
module _ (b : List ℕ) (gate : ℕ) (rest : List ℕ) where
  split : b ++ gate ∷ rest ≡ (b ++ gate ∷ []) ++ rest
  split = sym (append_assoc b (gate ∷ []) rest)

  length-head : length (b ++ gate ∷ []) ≡ length b + 1
  length-head = length-append b (gate ∷ [])

  length-whole : length (b ++ gate ∷ rest) ≡ length b + 1 + length rest
  length-whole = omega (arith, length-append b (gate ∷ rest))

  pub take-gate : (end : ℕ) → end ≡ length b + 1 → take end (b ++ gate ∷ rest) ≡ b ++ gate ∷ []
  take-gate end is = ap (λ (l : List ℕ). take end l) split ∙ take_at (b ++ gate ∷ []) rest end (omega (arith, length-head))

  pub drop-gate : (end : ℕ) → end ≡ length b + 1 → drop end (b ++ gate ∷ rest) ≡ rest
  drop-gate end is = ap (λ (l : List ℕ). drop end l) split ∙ drop_at (b ++ gate ∷ []) rest end (omega (arith, length-head))

-- the entry's bytes are torn behind the closed gate, and so count for nothing
pub torn_behind : (entries : List Entry) (file : List ℕ) (j : IsJournal entries file) (end n : ℕ) (c : List ℕ) → end ≡ length (blocks entries) + 1
    → end + n ≤ MAX_JOURNAL → Torn end n file c → Recovers entries c
torn_behind entries file j end n c at within torn =
    let long : length file ≡ length (blocks entries) + 1 + length j.rest = ap (length {A = ℕ}) j.shape ∙ length-whole (blocks entries) j.gate j.rest in
    let front : take end c ≡ blocks entries ++ j.gate ∷ [] =
    torn-before end n file c (omega (arith, long)) torn ∙ ap (λ (l : List ℕ). take end l) j.shape ∙ take-gate (blocks entries) j.gate j.rest end at in
    let whole : c ≡ blocks entries ++ j.gate ∷ drop end c =
    sym (take-append-drop end c) ∙ ap (λ (l : List ℕ). l ++ drop end c) front ∙ append_assoc (blocks entries) (j.gate ∷ []) (drop end c) in
    recovers_journal entries c (record {
      gate = j.gate;
      rest = drop end c;
      shape = whole;
      closed = j.closed;
      within = omega (arith, torn.no_longer, j.within);
      each = j.each;
    })

-- the file with the entry behind the closed gate
abbrev pub staged : List Entry → ℕ → Entry → List ℕ → List ℕ
staged entries gate entry tail = blocks entries ++ gate ∷ (entry_bytes entry ++ 0 ∷ tail)

pub written_behind : (entries : List Entry) (entry : Entry) (file : List ℕ) (j : IsJournal entries file) (end : ℕ) (bytes : List ℕ)
    → end ≡ length (blocks entries) + 1 → bytes ≡ entry_bytes entry ++ 0 ∷ []
    → written end bytes file ≡ staged entries j.gate entry (drop (end + length bytes) file)
written_behind entries entry file j end bytes at is =
    let long : length file ≡ length (blocks entries) + 1 + length j.rest = ap (length {A = ℕ}) j.shape ∙ length-whole (blocks entries) j.gate j.rest in
    let tail = drop (end + length bytes) file in
    written-inside end bytes file (omega (arith, long))
    ∙ ap (λ (l : List ℕ). l ++ (bytes ++ tail)) (ap (λ (l : List ℕ). take end l) j.shape ∙ take-gate (blocks entries) j.gate j.rest end at)
    ∙ append_assoc (blocks entries) (j.gate ∷ []) (bytes ++ tail)
    ∙ ap (λ (l : List ℕ). blocks entries ++ j.gate ∷ (l ++ tail)) is
    ∙ ap (λ (l : List ℕ). blocks entries ++ j.gate ∷ l) (append_assoc (entry_bytes entry) (0 ∷ []) tail)

module _ (entries : List Entry) (entry : Entry) (gate : ℕ) (tail mid : List ℕ) (is : mid ≡ staged entries gate entry tail)
    (within : length mid ≤ MAX_JOURNAL) (each : All IsEntry entries) (known : IsEntry entry) where
  -- with an open gate the entry counts, with any other it does not
  pub with_gate : (g : ℕ) (c : List ℕ) → c ≡ staged entries g entry tail → length c ≤ MAX_JOURNAL → HasOrLacks entries (entry ∷ []) c
  with_gate g c shape short = elim (cases_eq g 1) [
    | inl is_open ↦
        let opened : c ≡ blocks (entries ++ entry ∷ []) ++ 0 ∷ tail =
        shape ∙ ap (λ (n : ℕ). staged entries n entry tail) is_open ∙ sym (blocks-push entries entry (0 ∷ tail)) in
        inr (recovers_journal (entries ++ entry ∷ []) c (record {
          gate = 0;
          rest = tail;
          shape = opened;
          closed = omega arith;
          within = short;
          each = All-push IsEntry entries entry each known;
        }))
    | inr shut ↦ inl (recovers_journal entries c (record {
      gate = g;
      rest = entry_bytes entry ++ 0 ∷ tail;
      shape = shape;
      closed = shut;
      within = short;
      each = each;
    }))
  ]

  -- the entry stands whole behind whatever the gate's write left
  pub torn_gate : (place : ℕ) (c : List ℕ) → place ≡ length (blocks entries) → Torn place 1 mid c → HasOrLacks entries (entry ∷ []) c
  torn_gate place c at torn =
      let long : length mid ≡ length (blocks entries) + 1 + length (entry_bytes entry ++ 0 ∷ tail) = ap (length {A = ℕ}) is
      ∙ length-whole (blocks entries) gate (entry_bytes entry ++ 0 ∷ tail) in
      let front : take place c ≡ blocks entries =
      torn-before place 1 mid c (omega (arith, long)) torn ∙ ap (λ (l : List ℕ). take place l) is
      ∙ take_at (blocks entries) (gate ∷ (entry_bytes entry ++ 0 ∷ tail)) place (sym at) in
      let behind : drop (place + 1) c ≡ entry_bytes entry ++ 0 ∷ tail =
      torn.after ∙ ap (λ (l : List ℕ). drop (place + 1) l) is ∙ drop-gate (blocks entries) gate (entry_bytes entry ++ 0 ∷ tail) (place + 1) (omega arith) in
      let g = get_or c place 0 in
      let rest : drop place c ≡ g ∷ (entry_bytes entry ++ 0 ∷ tail) =
      drop_more c place 0 (omega (arith, torn.no_shorter, long)) ∙ ap (λ (l : List ℕ). g ∷ l) behind in
      let whole : c ≡ staged entries g entry tail =
      sym (take-append-drop place c) ∙ ap (λ (l : List ℕ). l ++ drop place c) front ∙ ap (λ (l : List ℕ). blocks entries ++ l) rest in
      with_gate g c whole (omega (arith, torn.no_longer, long))

  pub written_gate : (place : ℕ) → place ≡ length (blocks entries) → written place (1 ∷ []) mid ≡ blocks (entries ++ entry ∷ []) ++ 0 ∷ tail
  written_gate place at =
      let long : length mid ≡ length (blocks entries) + 1 + length (entry_bytes entry ++ 0 ∷ tail) = ap (length {A = ℕ}) is
      ∙ length-whole (blocks entries) gate (entry_bytes entry ++ 0 ∷ tail) in
      written-inside place (1 ∷ []) mid (omega (arith, long))
      ∙ ap (λ (l : List ℕ). l ++ (1 ∷ drop (place + 1) mid))
      (ap (λ (l : List ℕ). take place l) is ∙ take_at (blocks entries) (gate ∷ (entry_bytes entry ++ 0 ∷ tail)) place (sym at))
      ∙ ap (λ (l : List ℕ). blocks entries ++ (1 ∷ l))
      (ap (λ (l : List ℕ). drop (place + 1) l) is ∙ drop-gate (blocks entries) gate (entry_bytes entry ++ 0 ∷ tail) (place + 1) (omega arith))
      ∙ sym (blocks-push entries entry (0 ∷ tail))

  -- the journal with the entry, on the disk too
  pub settled_after : (end : ℕ) (bytes : List ℕ) → end ≡ length (blocks entries) + 1 → bytes ≡ entry_bytes entry ++ 0 ∷ []
      → (now : List ℕ) (may_leave : List ℕ → Type 0)
      → now ≡ written (end - 1) (1 ∷ []) mid → OnlyFile now may_leave → IsSettled (entries ++ entry ∷ []) (end + length bytes) now may_leave
  settled_after end bytes at spelled now may_leave done durable =
      let long : length mid ≡ length (blocks entries) + 1 + length (entry_bytes entry ++ 0 ∷ tail) = ap (length {A = ℕ}) is
      ∙ length-whole (blocks entries) gate (entry_bytes entry ++ 0 ∷ tail) in
      let shape = done ∙ written_gate (end - 1) (omega arith) in
      record {
        journal = record {
          gate = 0;
          rest = tail;
          shape = shape;
          closed = omega arith;
          within = omega (arith, ap (length {A = ℕ}) done, length-written (end - 1) (1 ∷ []) mid, long);
          each = All-push IsEntry entries entry each known;
        };
        behind = omega (arith, length-push entries entry, ap (length {A = ℕ}) spelled, length-append (entry_bytes entry) (0 ∷ []));
        durable = durable;
      }
