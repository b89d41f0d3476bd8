-- A file stands for the entries of one list.
use Rattle.std.proofs.Common.{◌≡◌, ◌≢◌, ◌⊎◌, inl, inr, ℕ, ◌+◌, ◌≤◌, List, [], ◌∷◌, ◌++◌, length, All, refl, sym, ◌∙◌, ap, arith, append_assoc}
use Rattle.std.proofs.lemmas.List.Elements.{All-head, All-tail}
use Rattle.hy_record.specs.declared.message.MetaAsk.TheVariants as asks
use Rattle.hy_record.specs.Record.{RecordValue}
use Rattle.hy_record.specs.Stamp.{Timestamp}
use Rattle.hy_mwire.specs.declared.message.Message.{Message}
use Rattle.hy_mwire.specs.declared.message.Message.TheVariants as messages
use Rattle.hy_mwire.specs.declared.fault.FrameFault.TheVariants.{BadKind}
use Rattle.hy_mwire.specs.Front.{message, fault, front_at}
use Rattle.hy_mwire.specs.Message.{IsMessage}
use Rattle.hy_mwire.specs.Frames.{frame_of}
use Rattle.hy_journal.specs.declared.limits.TheConstants.{MAX_JOURNAL}
use Rattle.hy_journal.specs.declared.entry.Entry.{Entry}
use Rattle.hy_journal.specs.declared.entry.Entry.TheVariants.{Join, Ask}
use Rattle.hy_journal.specs.Entry.{IsEntry, IsSwap, entry_bytes, swap_bytes, message_of, LacksEntry}
use Rattle.hy_journal.specs.File.{blocks, Recovers, IsBadAt}
use Rattle.hy_journal.proofs.Blocks.{recovers_empty}
use Rattle.hy_journal.proofs.Swaps.{swap_front, swaps_apart}

-- the entry is a frame, that of a message
pub record IsFrame (entry : Entry) : Type 0 where
  pub bytes : entry_bytes entry ≡ frame_of (message_of entry)
  pub known : IsMessage (message_of entry)

-- the entry is that of a swap
pub record IsOfSwap (entry : Entry) : Type 0 where
  pub client : ℕ
  pub op : ℕ
  pub key : List ℕ
  pub expected : Timestamp
  pub rec : RecordValue
  pub is : entry ≡ Ask (asks.Swap client op key expected rec)
  pub bytes : entry_bytes entry ≡ swap_bytes client op key expected rec
  pub known : IsSwap client op key expected rec

pub shape : (entry : Entry) → IsEntry entry → IsFrame entry ⊎ IsOfSwap entry
unfolding IsEntry entry_bytes
shape Join is = inl (record { bytes = refl; known = tt })
shape (Ask (asks.Read client op key)) is = inl (record { bytes = refl; known = is.1 })
shape (Ask (asks.Update client op key rec)) is = inl (record { bytes = refl; known = is.1 })
shape (Ask (asks.Watch client op key stamp)) is = inl (record { bytes = refl; known = is.1 })
shape (Ask (asks.Olds client op key)) is = inl (record { bytes = refl; known = is.1 })
shape (Ask (asks.Forget client op key stamps)) is = inl (record { bytes = refl; known = is.1 })
shape (Ask (asks.Swap client op key expected rec)) is =
    inr (record { client = client; op = op; key = key; expected = expected; rec = rec; is = refl; bytes = refl; known = is.1 })

same_message : (a b : Entry) → message_of a ≡ message_of b → a ≡ b
same_message Join Join same = refl
same_message Join (Ask b) same = absurd (cc)
same_message (Ask a) Join same = absurd (cc)
same_message (Ask a) (Ask b) same = cc

same_swap : (c o : ℕ) (k : List ℕ) (e : Timestamp) (r : RecordValue) (client op : ℕ) (key : List ℕ) (expected : Timestamp) (rec : RecordValue)
    → messages.Ask (asks.Watch c o k e) ≡ messages.Ask (asks.Watch client op key expected) → r ≡ rec
    → Ask (asks.Swap c o k e r) ≡ Ask (asks.Swap client op key expected rec)
same_swap c o k e r client op key expected rec watch record_is =
    let one : c ≡ client = cc in
    let two : o ≡ op = cc in
    let three : k ≡ key = cc in
    let four : e ≡ expected = cc in
    λ i. Ask (asks.Swap (one i) (two i) (three i) (four i) (record_is i))

-- no entry begins another
module _ (again : (place : ℕ) (said : Message) (rest : List ℕ) → IsMessage said
    → front_at place (frame_of said ++ rest) ≡ message said (length (frame_of said)))
    (apart : (a b : Message) (x y : List ℕ) → IsMessage a → IsMessage b → frame_of a ++ x ≡ frame_of b ++ y → (a ≡ b) × (x ≡ y)) where
  frame_front : (a : Entry) (x : List ℕ) → IsFrame a → front_at 0 (entry_bytes a ++ x) ≡ message (message_of a) (length (frame_of (message_of a)))
  frame_front a x is = ap (λ (l : List ℕ). front_at 0 (l ++ x)) is.bytes ∙ again 0 (message_of a) x is.known

  swap_entry_front : (a : Entry) (x : List ℕ) → IsOfSwap a → front_at 0 (entry_bytes a ++ x) ≡ fault (BadKind 7 0)
  swap_entry_front a x is =
      ap (λ (l : List ℕ). front_at 0 (l ++ x)) is.bytes ∙ swap_front is.client is.op is.key is.expected is.rec x is.known

  mixed : (a b : Entry) (x y : List ℕ) → IsFrame a → IsOfSwap b → entry_bytes a ++ x ≡ entry_bytes b ++ y → ⊥
  mixed a b x y one other same =
      let no = sym (frame_front a x one) ∙ ap (front_at 0) same ∙ swap_entry_front b y other in
      cc

  both_swaps : (a b : Entry) (x y : List ℕ) → IsOfSwap a → IsOfSwap b → entry_bytes a ++ x ≡ entry_bytes b ++ y → (a ≡ b) × (x ≡ y)
  both_swaps a b x y one other same =
      let swaps : swap_bytes one.client one.op one.key one.expected one.rec ++ x ≡ swap_bytes other.client other.op other.key other.expected other.rec ++ y =
      ap (λ (l : List ℕ). l ++ x) (sym one.bytes) ∙ same ∙ ap (λ (l : List ℕ). l ++ y) other.bytes in
      let parts = swaps_apart one.client one.op one.key one.expected one.rec other.client other.op other.key other.expected other.rec x y
      one.known other.known swaps in
      let watches = apart (messages.Ask (asks.Watch one.client one.op one.key one.expected))
      (messages.Ask (asks.Watch other.client other.op other.key other.expected)) [] [] one.known.0 other.known.0
      (ap (λ (l : List ℕ). l ++ []) parts.0) in (
        one.is ∙ same_swap one.client one.op one.key one.expected one.rec other.client other.op other.key other.expected other.rec watches.0 parts.1
            ∙ sym other.is,
        parts.2,
      )

  both_frames : (a b : Entry) (x y : List ℕ) → IsFrame a → IsFrame b → entry_bytes a ++ x ≡ entry_bytes b ++ y → (a ≡ b) × (x ≡ y)
  both_frames a b x y one other same =
      let frames : frame_of (message_of a) ++ x ≡ frame_of (message_of b) ++ y =
      ap (λ (l : List ℕ). l ++ x) (sym one.bytes) ∙ same ∙ ap (λ (l : List ℕ). l ++ y) other.bytes in
      let both = apart (message_of a) (message_of b) x y one.known other.known frames in
      (same_message a b both.0, both.1)

  by_shape : (a b : Entry) (x y : List ℕ) → IsFrame a ⊎ IsOfSwap a → IsFrame b ⊎ IsOfSwap b → entry_bytes a ++ x ≡ entry_bytes b ++ y
      → (a ≡ b) × (x ≡ y)
  by_shape a b x y (inl one) (inl other) same = both_frames a b x y one other same
  by_shape a b x y (inl one) (inr other) same = absurd (mixed a b x y one other same)
  by_shape a b x y (inr one) (inl other) same = absurd (mixed b a y x other one (sym same))
  by_shape a b x y (inr one) (inr other) same = both_swaps a b x y one other same

  entries_apart : (a b : Entry) (x y : List ℕ) → IsEntry a → IsEntry b → entry_bytes a ++ x ≡ entry_bytes b ++ y → (a ≡ b) × (x ≡ y)
  entries_apart a b x y is_a is_b same = by_shape a b x y (shape a is_a) (shape b is_b) same

  tails : (e f : Entry) (a b x y : List ℕ) → 1 ∷ ((entry_bytes e ++ a) ++ x) ≡ 1 ∷ ((entry_bytes f ++ b) ++ y)
      → entry_bytes e ++ (a ++ x) ≡ entry_bytes f ++ (b ++ y)
  tails e f a b x y same =
      let inside : (entry_bytes e ++ a) ++ x ≡ (entry_bytes f ++ b) ++ y = cc in
      sym (append_assoc (entry_bytes e) a x) ∙ inside ∙ append_assoc (entry_bytes f) b y

  one_list : (a b : List Entry) (g h : ℕ) (x y : List ℕ) → blocks a ++ g ∷ x ≡ blocks b ++ h ∷ y → g ≢ 1 → h ≢ 1 → All IsEntry a → All IsEntry b → a ≡ b
  unfolding blocks
  one_list [] [] g h x y same shut shut_too each each_too = refl
  one_list [] (f ∷ b) g h x y same shut shut_too each each_too = absurd (shut (cc))
  one_list (e ∷ a) [] g h x y same shut shut_too each each_too = absurd (shut_too (cc))
  one_list (e ∷ a) (f ∷ b) g h x y same shut shut_too each each_too =
      let both = entries_apart e f (blocks a ++ g ∷ x) (blocks b ++ h ∷ y) (All-head IsEntry e a each) (All-head IsEntry f b each_too)
      (tails e f (blocks a) (blocks b) (g ∷ x) (h ∷ y) same) in
      λ i. both.0 i ∷ one_list a b g h x y both.1 shut shut_too (All-tail IsEntry e a each) (All-tail IsEntry f b each_too) i

  -- what lacks an entry does not begin with one that a byte follows
  has_gate : (f : Entry) (bs : List ℕ) (g : ℕ) (tail x : List ℕ) → x ≡ (entry_bytes f ++ bs) ++ g ∷ tail → IsEntry f → LacksEntry x → ⊥
  has_gate f [] g tail x is known lacks = lacks f g tail known (is ∙ append_assoc (entry_bytes f) [] (g ∷ tail))
  has_gate f (n ∷ bs) g tail x is known lacks = lacks f n (bs ++ g ∷ tail) known (is ∙ append_assoc (entry_bytes f) (n ∷ bs) (g ∷ tail))

  -- an entry stands behind each open gate of a journal
  no_bad : (a b : List Entry) (g : ℕ) (x y : List ℕ) → blocks a ++ g ∷ x ≡ blocks b ++ 1 ∷ y → g ≢ 1 → LacksEntry y → All IsEntry a → All IsEntry b → ⊥
  unfolding blocks
  no_bad [] [] g x y same shut lacks each each_too = shut (cc)
  no_bad [] (f ∷ b) g x y same shut lacks each each_too = shut (cc)
  no_bad (e ∷ a) [] g x y same shut lacks each each_too =
      let inside : y ≡ (entry_bytes e ++ blocks a) ++ g ∷ x = cc in
      has_gate e (blocks a) g x y inside (All-head IsEntry e a each) lacks
  no_bad (e ∷ a) (f ∷ b) g x y same shut lacks each each_too =
      let both = entries_apart e f (blocks a ++ g ∷ x) (blocks b ++ 1 ∷ y) (All-head IsEntry e a each) (All-head IsEntry f b each_too)
      (tails e f (blocks a) (blocks b) (g ∷ x) (1 ∷ y) same) in
      no_bad a b g x y both.1 shut lacks (All-tail IsEntry e a each) (All-tail IsEntry f b each_too)

  -- a file has one bad place
  one_place : (a b : List Entry) (x y : List ℕ) → blocks a ++ 1 ∷ x ≡ blocks b ++ 1 ∷ y → LacksEntry x → LacksEntry y → All IsEntry a → All IsEntry b → a ≡ b
  unfolding blocks
  one_place [] [] x y same lacks lacks_too each each_too = refl
  one_place [] (f ∷ b) x y same lacks lacks_too each each_too =
      let inside : x ≡ (entry_bytes f ++ blocks b) ++ 1 ∷ y = cc in
      absurd (has_gate f (blocks b) 1 y x inside (All-head IsEntry f b each_too) lacks)
  one_place (e ∷ a) [] x y same lacks lacks_too each each_too =
      let inside : y ≡ (entry_bytes e ++ blocks a) ++ 1 ∷ x = cc in
      absurd (has_gate e (blocks a) 1 x y inside (All-head IsEntry e a each) lacks_too)
  one_place (e ∷ a) (f ∷ b) x y same lacks lacks_too each each_too =
      let both = entries_apart e f (blocks a ++ 1 ∷ x) (blocks b ++ 1 ∷ y) (All-head IsEntry e a each) (All-head IsEntry f b each_too)
      (tails e f (blocks a) (blocks b) (1 ∷ x) (1 ∷ y) same) in
      λ i. both.0 i ∷ one_place a b x y both.1 lacks lacks_too (All-tail IsEntry e a each) (All-tail IsEntry f b each_too) i

  pub one : (file : List ℕ) (a b : List Entry) → Recovers a file → Recovers b file → a ≡ b
  unfolding Recovers
  one file a b (inl new) second = new.1 ∙ sym (recovers_empty b file new.0 second)
  one file a b first (inl new) = recovers_empty a file new.0 first ∙ sym new.1
  one file a b (inr x) (inr y) = one_list a b x.gate y.gate x.rest y.rest (sym x.shape ∙ y.shape) x.closed y.closed x.each y.each

  pub sound : (file : List ℕ) (a : List Entry) (place : ℕ) → Recovers a file → IsBadAt file place → ⊥
  unfolding Recovers
  sound file a place (inl new) bad = let small = new.0 in omega (arith, bad.not_new)
  sound file a place (inr is) bad = no_bad a bad.entries is.gate is.rest bad.rest (sym is.shape ∙ bad.shape) is.closed bad.lacks is.each bad.each

  pub place : (file : List ℕ) (p q : ℕ) → IsBadAt file p → IsBadAt file q → p ≡ q
  place file p q x y =
      let same = one_place x.entries y.entries x.rest y.rest (sym x.shape ∙ y.shape) x.lacks y.lacks x.each y.each in
      x.at ∙ ap (λ (l : List Entry). length (blocks l) + 1) same ∙ sym y.at

pub short : (file : List ℕ) (a : List Entry) → Recovers a file → length file ≤ MAX_JOURNAL
unfolding Recovers
short file a (inl new) = let small = new.0 in omega arith
short file a (inr is) = is.within
