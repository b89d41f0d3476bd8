-- What stands in front of bytes, as an entry.
use Rattle.std.proofs.Common.{◌≡◌, ◌≢◌, ◌⊎◌, inl, inr, ℕ, ◌≤◌, Bool, true, false, List, ◌∷◌, ◌++◌, length, drop, Some, None, refl, sym, ◌∙◌, ap, subst, arith, length-append}
use Rattle.hy_record.specs.declared.message.MetaAsk.{MetaAsk}
use Rattle.hy_record.specs.declared.message.MetaAsk.TheVariants as asks
use Rattle.hy_mwire.specs.declared.message.Message.{Message}
use Rattle.hy_mwire.specs.declared.message.Message.TheVariants as messages
use Rattle.hy_mwire.specs.declared.fault.FrameFault.{FrameFault}
use Rattle.hy_mwire.specs.declared.fault.FrameFault.TheVariants.{BadKind}
use Rattle.hy_mwire.specs.Message.{IsAsk, IsMessage}
use Rattle.hy_mwire.specs.Frames.{frame_of}
use Rattle.hy_mwire.specs.Front.{partial, message, fault, front_at, AreBytes}
use Rattle.hy_journal.specs.declared.entry.Entry.{Entry}
use Rattle.hy_journal.specs.declared.entry.Entry.TheVariants.{Join, Ask}
use Rattle.hy_journal.specs.Entry.{is_kept, IsEntry, entry_bytes, entry_in, entry_if_kept, message_of, HasEntry, LacksEntry}
use Rattle.hy_journal.specs.Swap.{LacksSwap}
use Rattle.hy_journal.proofs.Swaps.{swap_front}
use Rattle.hy_journal.proofs.Unique.{IsFrame, IsOfSwap, shape}

-- an entry is that of its message
pub entry_again : (entry : Entry) → IsEntry entry → entry_in (message_of entry) ≡ Some entry
unfolding IsEntry
entry_again Join is = refl
entry_again (Ask ask) is = let kept : is_kept ask ≡ true = is.0 in ap (λ (b : Bool). entry_if_kept b ask) kept

if_kept : (b : Bool) (ask : MetaAsk) (entry : Entry) → entry_if_kept b ask ≡ Some entry → (b ≡ true) × (entry ≡ Ask ask)
if_kept true ask entry is = (refl, cc)
if_kept false ask entry is = absurd (cc)

-- what a message says that is an entry
pub record IsEntryOf (said : Message) (entry : Entry) : Type 0 where
  pub same : said ≡ message_of entry
  pub known : IsEntry entry
  pub bytes : entry_bytes entry ≡ frame_of said

asked : (ask : MetaAsk) → IsAsk ask → is_kept ask ≡ true → IsEntryOf (messages.Ask ask) (Ask ask)
unfolding IsEntry entry_bytes
asked (asks.Read client op key) known kept = record { same = refl; known = (kept, known); bytes = refl }
asked (asks.Update client op key rec) known kept = record { same = refl; known = (kept, known); bytes = refl }
asked (asks.Watch client op key stamp) known kept = record { same = refl; known = (kept, known); bytes = refl }
asked (asks.Olds client op key) known kept = record { same = refl; known = (kept, known); bytes = refl }
asked (asks.Forget client op key stamps) known kept = record { same = refl; known = (kept, known); bytes = refl }
asked (asks.Swap client op key expected rec) known kept = absurd known

-- a message that is an entry is that entry's
pub message_again : (said : Message) (entry : Entry) → entry_in said ≡ Some entry → IsMessage said → IsEntryOf said entry
unfolding IsEntry entry_bytes
message_again messages.Join entry is known = let same : entry ≡ Join = cc in
    subst (λ (e : Entry). IsEntryOf messages.Join e) (sym same) (record { same = refl; known = tt; bytes = refl })
message_again (messages.Joined client) entry is known = absurd (cc)
message_again messages.Full entry is known = absurd (cc)
message_again (messages.Ask ask) entry is known =
    let both = if_kept (is_kept ask) ask entry is in
    subst (λ (e : Entry). IsEntryOf (messages.Ask ask) e) (sym both.1) (asked ask known both.0)
message_again (messages.Say say) entry is known = absurd (cc)

-- frames are read back
module _ (again : (place : ℕ) (said : Message) (rest : List ℕ) → IsMessage said
    → front_at place (frame_of said ++ rest) ≡ message said (length (frame_of said))) where
  -- what is seen in front of bytes that begin with an entry
  Seen : List ℕ → Entry → Type 0
  Seen bytes entry = (front_at 0 bytes ≡ message (message_of entry) (length (entry_bytes entry))) ⊎ (front_at 0 bytes ≡ fault (BadKind 7 0))

  by_shape : (bytes : List ℕ) (entry : Entry) (x : List ℕ) → bytes ≡ entry_bytes entry ++ x → IsFrame entry ⊎ IsOfSwap entry → Seen bytes entry
  unfolding Seen
  by_shape bytes entry x is (inl frame) =
      inl (ap (front_at 0) is ∙ ap (λ (l : List ℕ). front_at 0 (l ++ x)) frame.bytes ∙ again 0 (message_of entry) x frame.known
      ∙ ap (λ (l : List ℕ). message (message_of entry) (length l)) (sym frame.bytes))
  by_shape bytes entry x is (inr swap) =
      inr (ap (front_at 0) is ∙ ap (λ (l : List ℕ). front_at 0 (l ++ x)) swap.bytes
      ∙ swap_front swap.client swap.op swap.key swap.expected swap.rec x swap.known)

  sees : (bytes : List ℕ) (entry : Entry) (gate : ℕ) (more : List ℕ) → IsEntry entry → bytes ≡ entry_bytes entry ++ gate ∷ more → Seen bytes entry
  sees bytes entry gate more known is = by_shape bytes entry (gate ∷ more) is (shape entry known)

  -- nothing whole stands in front
  pub lacks_partial : (bytes : List ℕ) → front_at 0 bytes ≡ partial → LacksEntry bytes
  unfolding Seen
  lacks_partial bytes front entry gate more known is = elim (sees bytes entry gate more known is) [
    | inl seen ↦ let no = sym front ∙ seen in cc
    | inr seen ↦ let no = sym front ∙ seen in cc
  ]

  -- the frame is all of the bytes
  pub lacks_gate : (bytes : List ℕ) (said : Message) (size : ℕ) → front_at 0 bytes ≡ message said size → size ≡ length bytes → LacksEntry bytes
  unfolding Seen
  lacks_gate bytes said size front all entry gate more known is = elim (sees bytes entry gate more known is) [
    | inl seen ↦
        let same = sym front ∙ seen in
        let long : size ≡ length (entry_bytes entry) = cc in
        omega (arith, all, ap (length {A = ℕ}) is, length-append (entry_bytes entry) (gate ∷ more))
    | inr seen ↦ let no = sym front ∙ seen in cc
  ]

  -- the message is no entry
  pub lacks_kind : (bytes : List ℕ) (said : Message) (size : ℕ) → front_at 0 bytes ≡ message said size → entry_in said ≡ None → LacksEntry bytes
  unfolding Seen
  lacks_kind bytes said size front none entry gate more known is = elim (sees bytes entry gate more known is) [
    | inl seen ↦
        let same = sym front ∙ seen in
        let said_is : said ≡ message_of entry = cc in
        let some = ap entry_in said_is ∙ entry_again entry known in
        let no : None ≡ Some entry = sym none ∙ some in
        cc
    | inr seen ↦ let no = sym front ∙ seen in cc
  ]

  -- a frame that says nothing, and no swap
  pub lacks_swap : (bytes : List ℕ) (wrong : FrameFault) → front_at 0 bytes ≡ fault wrong → LacksSwap bytes → LacksEntry bytes
  lacks_swap bytes wrong front lacks entry gate more known is = either (shape entry known)
    where
      either : IsFrame entry ⊎ IsOfSwap entry → ⊥
      either (inl frame) =
          let no = sym front ∙ ap (front_at 0) is ∙ ap (λ (l : List ℕ). front_at 0 (l ++ gate ∷ more)) frame.bytes
          ∙ again 0 (message_of entry) (gate ∷ more) frame.known in
          cc
      either (inr swap) =
          lacks swap.client swap.op swap.key swap.expected swap.rec gate more swap.known
          (is ∙ ap (λ (l : List ℕ). l ++ gate ∷ more) swap.bytes)

pub has_entry : (only : (place : ℕ) (bytes : List ℕ) (said : Message) (size : ℕ) → AreBytes bytes → front_at place bytes ≡ message said size
    → IsMessage said × (size ≡ length (frame_of said)) × (bytes ≡ frame_of said ++ drop size bytes))
    → (bytes : List ℕ) (said : Message) (size : ℕ) (entry : Entry) → AreBytes bytes → front_at 0 bytes ≡ message said size → size ≢ length bytes
    → size ≤ length bytes → entry_in said ≡ Some entry → HasEntry bytes entry size
has_entry only bytes said size entry are front not_all within is =
    let whole = only 0 bytes said size are front in
    let of = message_again said entry is whole.0 in
    record {
      known = of.known;
      long = whole.1 ∙ ap (length {A = ℕ}) (sym of.bytes);
      front = whole.2 ∙ ap (λ (l : List ℕ). l ++ drop size bytes) (sym of.bytes);
      gate = omega (arith, not_all, within);
    }
