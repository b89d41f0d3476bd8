-- What stands in front of bytes, as a request, and the frames read so far.
use Rattle.std.proofs.Common.{◌≡◌, ℕ, ◌+◌, ◌<◌, ◌≤◌, true, false, List, [], ◌∷◌, ◌++◌, length, drop, All, refl, sym, ◌∙◌, ap, arith, length-append, append_assoc}
use Rattle.std.proofs.lemmas.List.{drop-drop, length-drop, flat_map_more}
use Rattle.std.proofs.lemmas.List.Elements.{All-head, All-tail, All-push}
use Rattle.byteorder.specs.Endian.{big_bytes}
use Rattle.byteorder.specs.Numbers.{length-bytes_high_first}
use Rattle.hy_mwire.specs.declared.message.Message.{Message}
use Rattle.hy_mwire.specs.declared.fault.FrameFault.{FrameFault}
use Rattle.hy_mwire.specs.Message.{IsMessage}
use Rattle.hy_mwire.specs.Frames.{frame_of, frames_of, body_of}
use Rattle.hy_mwire.specs.Front.{partial, message, fault, front_at, AreBytes}
use Rattle.hy_journal.specs.Requests.{is_request, IsRequest, HasRequest, LacksRequest, AreRequests, IsBadFrameAt, IsReadTo}

frame_some : (said : Message) → 0 < length (frame_of said)
unfolding frame_of
frame_some said =
    omega (arith, length-append (big_bytes 4 (length (body_of said))) (body_of said), length-bytes_high_first 4 (length (body_of said)))

module _ (again : (place : ℕ) (said : Message) (rest : List ℕ) → IsMessage said
    → front_at place (frame_of said ++ rest) ≡ message said (length (frame_of said))) where
  sees : (bytes : List ℕ) (said : Message) (more : List ℕ) → IsRequest said → bytes ≡ frame_of said ++ more
      → front_at 0 bytes ≡ message said (length (frame_of said))
  sees bytes said more known is = ap (λ (l : List ℕ). front_at 0 l) is ∙ again 0 said more known.1

  -- no whole frame
  pub lacks_partial : (bytes : List ℕ) → front_at 0 bytes ≡ partial → LacksRequest bytes
  lacks_partial bytes front said more known is = let no = sym front ∙ sees bytes said more known is in cc

  pub lacks_fault : (bytes : List ℕ) (wrong : FrameFault) → front_at 0 bytes ≡ fault wrong → LacksRequest bytes
  lacks_fault bytes wrong front said more known is = let no = sym front ∙ sees bytes said more known is in cc

  -- the frame of another message
  pub lacks_kind : (bytes : List ℕ) (seen : Message) (size : ℕ) → front_at 0 bytes ≡ message seen size → is_request seen ≡ false → LacksRequest bytes
  lacks_kind bytes seen size front other said more known is =
      let same = sym front ∙ sees bytes said more known is in
      let seen_is : seen ≡ said = cc in
      let no : true ≡ false = sym known.0 ∙ sym (ap is_request seen_is) ∙ other in
      cc

pub has_request : (only : (place : ℕ) (bytes : List ℕ) (said : Message) (size : ℕ) → AreBytes bytes → front_at place bytes ≡ message said size
    → IsMessage said × (size ≡ length (frame_of said)) × (bytes ≡ frame_of said ++ drop size bytes))
    → (bytes : List ℕ) (said : Message) (size : ℕ) → AreBytes bytes → front_at 0 bytes ≡ message said size → size ≤ length bytes → is_request said ≡ true
    → HasRequest bytes said size
has_request only bytes said size are front within is =
    let whole = only 0 bytes said size are front in
    record { known = (is, whole.0); long = whole.1; front = whole.2; some = omega (arith, whole.1, frame_some said); within = within }

pub one_more : (bytes : List ℕ) (said : List Message) (end : ℕ) (next : Message) (size : ℕ) → IsReadTo bytes said end → HasRequest (drop end bytes) next size
    → IsReadTo bytes (said ++ next ∷ []) (end + size)
one_more bytes said end next size so_far has =
    let frames : frames_of said ++ frame_of next ≡ frames_of (said ++ next ∷ []) = flat_map_more frame_of [] said next in
    record {
      front = so_far.front
          ∙ ap (λ (l : List ℕ). frames_of said ++ l) has.front
          ∙ sym (append_assoc (frames_of said) (frame_of next) (drop size (drop end bytes)))
          ∙ ap (λ (l : List ℕ). l ++ drop size (drop end bytes)) frames
          ∙ ap (λ (l : List ℕ). frames_of (said ++ next ∷ []) ++ l) (drop-drop size end bytes);
      at = omega (arith, so_far.at, has.long, length-append (frames_of said) (frame_of next), ap (length {A = ℕ}) frames);
      each = All-push IsRequest said next so_far.each has.known;
      within = omega (arith, has.within, length-drop end bytes, so_far.within);
    }

-- no frame begins another
module _ (apart : (a b : Message) (x y : List ℕ) → IsMessage a → IsMessage b → frame_of a ++ x ≡ frame_of b ++ y → (a ≡ b) × (x ≡ y)) where
  same_list : (a b : List Message) → All IsRequest a → All IsRequest b → frames_of a ≡ frames_of b → a ≡ b
  same_list [] [] each each_too same = refl
  same_list [] (n ∷ b) each each_too same =
      absurd (omega (arith, ap (length {A = ℕ}) same, length-append (frame_of n) (frames_of b), frame_some n))
  same_list (m ∷ a) [] each each_too same =
      absurd (omega (arith, ap (length {A = ℕ}) same, length-append (frame_of m) (frames_of a), frame_some m))
  same_list (m ∷ a) (n ∷ b) each each_too same =
      let first = All-head IsRequest m a each in
      let first_too = All-head IsRequest n b each_too in
      let both = apart m n (frames_of a) (frames_of b) first.1 first_too.1 same in
      λ i. both.0 i ∷ same_list a b (All-tail IsRequest m a each) (All-tail IsRequest n b each_too) both.1 i

  no_bad : (a b : List Message) (rest : List ℕ) → All IsRequest a → All IsRequest b → frames_of a ≡ frames_of b ++ rest → 0 < length rest
      → LacksRequest rest → ⊥
  no_bad [] [] rest each each_too same left lacks = omega (arith, ap (length {A = ℕ}) same)
  no_bad [] (n ∷ b) rest each each_too same left lacks =
      omega (arith, ap (length {A = ℕ}) same, length-append (frame_of n ++ frames_of b) rest)
  no_bad (m ∷ a) [] rest each each_too same left lacks =
      lacks m (frames_of a) (All-head IsRequest m a each) (sym same)
  no_bad (m ∷ a) (n ∷ b) rest each each_too same left lacks =
      let first = All-head IsRequest m a each in
      let first_too = All-head IsRequest n b each_too in
      let both = apart m n (frames_of a) (frames_of b ++ rest) first.1 first_too.1 (same ∙ append_assoc (frame_of n) (frames_of b) rest) in
      no_bad a b rest (All-tail IsRequest m a each) (All-tail IsRequest n b each_too) both.1 left lacks

  one_place : (a b : List Message) (x y : List ℕ) → All IsRequest a → All IsRequest b → frames_of a ++ x ≡ frames_of b ++ y → LacksRequest x
      → LacksRequest y → a ≡ b
  one_place [] [] x y each each_too same lacks lacks_too = refl
  one_place [] (n ∷ b) x y each each_too same lacks lacks_too =
      absurd (lacks n (frames_of b ++ y) (All-head IsRequest n b each_too) (same ∙ append_assoc (frame_of n) (frames_of b) y))
  one_place (m ∷ a) [] x y each each_too same lacks lacks_too =
      absurd (lacks_too m (frames_of a ++ x) (All-head IsRequest m a each) (sym same ∙ append_assoc (frame_of m) (frames_of a) x))
  one_place (m ∷ a) (n ∷ b) x y each each_too same lacks lacks_too =
      let first = All-head IsRequest m a each in
      let first_too = All-head IsRequest n b each_too in
      let both = apart m n (frames_of a ++ x) (frames_of b ++ y) first.1 first_too.1
      (sym (append_assoc (frame_of m) (frames_of a) x) ∙ same ∙ append_assoc (frame_of n) (frames_of b) y) in
      λ i. both.0 i ∷ one_place a b x y (All-tail IsRequest m a each) (All-tail IsRequest n b each_too) both.1 lacks lacks_too i

  pub one : (bytes : List ℕ) (a b : List Message) → AreRequests bytes a → AreRequests bytes b → a ≡ b
  one bytes a b x y = same_list a b x.each y.each (sym x.frames ∙ y.frames)

  pub sound : (bytes : List ℕ) (a : List Message) (place : ℕ) → AreRequests bytes a → IsBadFrameAt bytes place → ⊥
  sound bytes a place x bad = no_bad a bad.said bad.rest x.each bad.each (sym x.frames ∙ bad.shape) bad.left bad.lacks

  pub place : (bytes : List ℕ) (p q : ℕ) → IsBadFrameAt bytes p → IsBadFrameAt bytes q → p ≡ q
  place bytes p q x y =
      let same = one_place x.said y.said x.rest y.rest x.each y.each (sym x.shape ∙ y.shape) x.lacks y.lacks in
      x.at ∙ ap (λ (l : List Message). length (frames_of l)) same ∙ sym y.at
