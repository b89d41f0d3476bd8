-- What a reader stands for after each of its calls, and that one stream is read in one way.
use Rattle.std.proofs.Common.{◌≡◌, ℕ, ◌+◌, ◌-◌, ◌^◌, ◌<◌, ◌≤◌, min, List, [], ◌∷◌, ◌++◌, length, take, drop, All, Option, Some, None, refl, sym, ap, subst, ◌∙◌, append_assoc, arith}
use Rattle.std.proofs.lemmas.List.{append-nil, append_cancel_left, drop_at, length-append}
use Rattle.std.proofs.lemmas.List.Concat.{flat_map-append}
use Rattle.std.proofs.lemmas.List.Elements.{All-nil, All-head, All-tail, All-push, All-append, All-drop}
use Rattle.hy_mwire.specs.declared.message.Message.{Message}
use Rattle.hy_mwire.specs.declared.fault.FrameFault.{FrameFault}
use Rattle.hy_mwire.specs.Message.{IsMessage}
use Rattle.hy_mwire.specs.Frames.{frame_of, frames_of, place_behind}
use Rattle.hy_mwire.specs.Front.{Front, partial, message, fault, front_at, AreBytes}
use Rattle.hy_mwire.specs.Stream.{Unread, fresh_stream, front, fault_in, fault_due, judged_stream, longer, with_piece, next_of, next_answer, passed, after_next, said_in, StandsFor}
use Rattle.hy_mwire.proofs.Fronts.{message_front, fault-append, frames-apart}

-- before the first byte
pub stands-fresh : StandsFor [] [] fresh_stream
stands-fresh = record { bytes = All-nil (λ byte. byte < 256); messages = All-nil IsMessage; parts = refl; place = refl; answered = λ wrong e. absurd cc }

-- the bytes that are left are bytes
rest_bytes : (taken : List ℕ) (said : List Message) (unread : Unread) → StandsFor taken said unread → AreBytes unread.rest
rest_bytes taken said unread stands =
    let rest : drop (length (frames_of said)) taken ≡ unread.rest = ap (drop (length (frames_of said))) stands.parts ∙ drop_at (frames_of said) unread.rest (length (frames_of said)) refl in
    subst AreBytes rest (All-drop (λ byte. byte < 256) (length (frames_of said)) taken stands.bytes)

-- a piece that is taken
longer_front : (unread : Unread) (piece : List ℕ) (wrong : FrameFault) → front unread ≡ fault wrong → front_at unread.place (unread.rest ++ piece) ≡ fault wrong
longer_front unread piece wrong is = fault-append unread.place unread.rest piece wrong is

judged_answers : (unread : Unread) (answered : Option FrameFault) (wrong : FrameFault) → answered ≡ None → fault_due unread answered ≡ Some wrong → front unread ≡ fault wrong
judged_answers unread (Some other) wrong none due = absurd cc
judged_answers unread None wrong none due = at (front unread) due refl
  where
    at : (f : Front) → fault_in f ≡ Some wrong → front unread ≡ f → front unread ≡ fault wrong
    at partial due is = absurd cc
    at (message said size) due is = absurd cc
    at (fault other) due is = let same : other ≡ wrong = cc in is ∙ ap fault same

pub stands-fed : (taken piece : List ℕ) (said : List Message) (unread : Unread) → unread.answered ≡ None → AreBytes piece → StandsFor taken said unread → StandsFor (taken ++ piece) said (judged_stream (with_piece unread piece))
stands-fed taken piece said unread none are stands =
    let rest : with_piece unread piece ≡ record { rest = unread.rest ++ piece; place = unread.place; answered = None } = ap (longer unread piece) none in
    subst (λ (u : Unread). StandsFor (taken ++ piece) said (judged_stream u)) (sym rest) record {
      bytes = All-append (λ byte. byte < 256) taken piece stands.bytes are;
      messages = stands.messages;
      parts = ap (λ (t : List ℕ). t ++ piece) stands.parts ∙ append_assoc (frames_of said) unread.rest piece;
      place = stands.place;
      answered = λ wrong e. judged_answers (record { rest = unread.rest ++ piece; place = unread.place; answered = None }) None wrong refl e;
    }

-- one more message
frames-push : (said : List Message) (one : Message) → frames_of (said ++ one ∷ []) ≡ frames_of said ++ frame_of one
frames-push said one = flat_map-append frame_of said (one ∷ []) ∙ ap (λ (t : List ℕ). frames_of said ++ t) (append-nil (frame_of one))

place-push : (said : List Message) (one : Message) (size : ℕ) → size ≡ length (frame_of one) → min (place_behind said + size) (2 ^ 64 - 1) ≡ place_behind (said ++ one ∷ [])
place-push said one size sized =
    let total : length (frames_of (said ++ one ∷ [])) ≡ length (frames_of said) + size = ap (length {A = ℕ}) (frames-push said one) ∙ length-append (frames_of said) (frame_of one) ∙ ap (λ (n : ℕ). length (frames_of said) + n) (sym sized) in
    rw total (omega arith)

pub stands-said : (taken : List ℕ) (said : List Message) (old new : Unread) (one : Message) (size : ℕ) → front old ≡ message one size → new.rest ≡ drop size old.rest → new.place ≡ min (old.place + size) (2 ^ 64 - 1) → new.answered ≡ None
    → StandsFor taken said old → StandsFor taken (said ++ one ∷ []) new
stands-said taken said old new one size is rest place none stands =
    let m = message_front old.place old.rest one size (rest_bytes taken said old stands) is in
    let behind : drop size old.rest ≡ new.rest = sym rest in
    let parts : taken ≡ frames_of (said ++ one ∷ []) ++ drop size old.rest =
    stands.parts ∙ ap (λ (t : List ℕ). frames_of said ++ t) m.2 ∙ sym (append_assoc (frames_of said) (frame_of one) (drop size old.rest)) ∙ ap (λ (t : List ℕ). t ++ drop size old.rest) (sym (frames-push said one)) in
    record {
      bytes = stands.bytes;
      messages = All-push IsMessage said one stands.messages m.0;
      parts = parts ∙ ap (λ (t : List ℕ). frames_of (said ++ one ∷ []) ++ t) behind;
      place = place ∙ ap (λ (p : ℕ). min (p + size) (2 ^ 64 - 1)) stands.place ∙ place-push said one size m.1;
      answered = λ wrong e. absurd (let clash = sym none ∙ e in cc);
    }

none_said : (taken : List ℕ) (said : List Message) (unread : Unread) → StandsFor taken said unread → StandsFor taken (said ++ []) unread
none_said taken said unread stands = subst (λ (s : List Message). StandsFor taken s unread) (sym (append-nil said)) stands

stands-answered : (taken : List ℕ) (said : List Message) (unread : Unread) (wrong : FrameFault) → front unread ≡ fault wrong → StandsFor taken said unread → StandsFor taken said (record { rest = unread.rest; place = unread.place; answered = Some wrong })
stands-answered taken said unread wrong is stands =
    record { bytes = stands.bytes; messages = stands.messages; parts = stands.parts; place = stands.place; answered = λ other e. let same : wrong ≡ other = cc in is ∙ ap fault same }

stands-passed : (taken : List ℕ) (said : List Message) (unread : Unread) (f : Front) (answered : Option FrameFault) → front unread ≡ f → StandsFor taken said unread → StandsFor taken (said ++ said_in (next_of f answered)) (passed unread f answered)
stands-passed taken said unread f (Some wrong) is stands = none_said taken said unread stands
stands-passed taken said unread partial None is stands = none_said taken said unread stands
stands-passed taken said unread (message one size) None is stands = stands-said taken said unread _ one size is refl refl refl stands
stands-passed taken said unread (fault wrong) None is stands = none_said taken said _ (stands-answered taken said unread wrong is stands)

-- what is given next, and what the reader stands for then
pub stands-next : (taken : List ℕ) (said : List Message) (unread : Unread) → StandsFor taken said unread → StandsFor taken (said ++ said_in (next_answer unread)) (after_next unread)
stands-next taken said unread stands = stands-passed taken said unread (front unread) unread.answered refl stands

-- ---- one stream, read twice

apart : (a b : List Message) (x y : List ℕ) → All IsMessage a → All IsMessage b → frames_of a ++ x ≡ frames_of b ++ y → length a ≤ length b → a ≡ take (length a) b
apart [] b x y one other same few = refl
apart (m ∷ a) [] x y one other same few = absurd (omega (arith, few))
apart (m ∷ a) (n ∷ b) x y one other same few =
    let regrouped : frame_of m ++ (frames_of a ++ x) ≡ frame_of n ++ (frames_of b ++ y) = sym (append_assoc (frame_of m) (frames_of a) x) ∙ same ∙ append_assoc (frame_of n) (frames_of b) y in
    let first = frames-apart m n (frames_of a ++ x) (frames_of b ++ y) (All-head IsMessage m a one) (All-head IsMessage n b other) regrouped in
    let later = apart a b x y (All-tail IsMessage m a one) (All-tail IsMessage n b other) first.1 (omega (arith, few)) in
    ap (λ (k : Message). k ∷ a) first.0 ∙ ap (λ (l : List Message). n ∷ l) later

-- the reader that gave fewer messages gave the first of those that the other gave
pub messages-same : (taken : List ℕ) (a b : List Message) (x y : Unread) → StandsFor taken a x → StandsFor taken b y → length a ≤ length b → a ≡ take (length a) b
messages-same taken a b x y one other few = apart a b x.rest y.rest one.messages other.messages (sym one.parts ∙ other.parts) few

unanswered : (unread : Unread) (answered : Option FrameFault) → ((wrong : FrameFault) → answered ≡ Some wrong → front unread ≡ fault wrong) → next_of (front unread) answered ≡ next_of (front unread) None
unanswered unread (Some wrong) stands = sym (ap (λ (f : Front). next_of f None) (stands wrong refl))
unanswered unread None stands = refl

-- after the same messages readers of one stream answer the same
pub answers-same : (taken : List ℕ) (said : List Message) (x y : Unread) → StandsFor taken said x → StandsFor taken said y → next_answer x ≡ next_answer y
answers-same taken said x y one other =
    let rest : x.rest ≡ y.rest = append_cancel_left (frames_of said) x.rest y.rest (sym one.parts ∙ other.parts) in
    let fronts : front x ≡ front y = ap (λ (p : ℕ). front_at p x.rest) (one.place ∙ sym other.place) ∙ ap (front_at y.place) rest in
    unanswered x x.answered one.answered ∙ ap (λ (f : Front). next_of f None) fronts ∙ sym (unanswered y y.answered other.answered)
