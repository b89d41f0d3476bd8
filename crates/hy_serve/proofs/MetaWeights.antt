-- Lemmas on how much is to be read on the connections of the metadata server.
use Rattle.std.proofs.Common.{◌≡◌, ◌≢◌, ◌==◌, ◌<◌, ◌≤◌, ◌+◌, ℕ, Bool, true, false, List, [], ◌∷◌, length, take, drop, Option, Some, None, Result, Ok, Err, refl, sym, ap, subst, ◌∙◌, arith, length-drop, eq-eqb}
use Rattle.std.proofs.lemmas.Bool.{cases_Bool, cond-true, cond-false, eqb-true}
use Rattle.std.proofs.Math.Logic.{⊎_elim}
use Rattle.std.specs.Prelude.{nat_lt, if◌then◌else◌}
use Rattle.byteorder.specs.Endian.{big_number}
use Rattle.hy_mwire.specs.declared.fault.FrameFault.{FrameFault}
use Rattle.hy_mwire.specs.declared.fault.FrameFault.TheVariants.{TooLong, BadKind, BadBody}
use Rattle.hy_mwire.specs.declared.front.TheConstants.{MAX_FRAME}
use Rattle.hy_mwire.specs.Kind.{kind_of}
use Rattle.hy_mwire.specs.Reading.{message_in}
use Rattle.hy_mwire.specs.declared.message.Message.{Message}
use Rattle.hy_mwire.specs.Front.{Front, partial, message, fault, front_at, frame_at, judged, kind_or, message_or}
use Rattle.hy_mwire.specs.Stream.{Unread, front, next_of, next_answer, passed, after_next}
use Rattle.hy_serve.specs.declared.letter.Turn.{Turn}
use Rattle.hy_serve.specs.declared.letter.Turn.TheVariants.{Rests, Closes, Sends}
use Rattle.hy_serve.specs.declared.meta_lines.Session.{Session}
use Rattle.hy_serve.specs.declared.meta_lines.Step.{Step}
use Rattle.hy_serve.specs.declared.meta_lines.Step.TheVariants.{Waits, Ends, Joins, Asks}
use Rattle.hy_serve.specs.declared.meta_server.MetaServer.{MetaServer}
use Rattle.hy_serve.specs.MetaRole.{Line, unopened, talking, over, closed, in_session, step_of, next_step, next_line, line_behind}
use Rattle.hy_mwire.proofs.Fronts.{message_fits}
use Rattle.hy_serve.specs.MetaStanding.{line_of, SetsLine, weight_of, weight_at, Falls}

-- the weight of a connection that was set
weight-set : (old new : MetaServer) (conn : ℕ) (line : Line) → SetsLine old new conn line → (c : ℕ) → (R : ℕ → ℕ → Type 0) → R (weight_of line) (weight_at old conn)
    → ((n : ℕ) → R n n) → R (weight_at new c) (weight_at old c)
weight-set old new conn line sets c R here same = ⊎_elim
    (λ y. subst (λ (l : Line). R (weight_of l) (weight_at old c)) (sym (sets.lines c ∙ cond-true (conn == c) line (line_of old c) y))
    (subst (λ (n : ℕ). R (weight_of line) (weight_at old n)) (eqb-true conn c y) here))
    (λ n. subst (λ (l : Line). R (weight_of l) (weight_at old c)) (sym (sets.lines c ∙ cond-false (conn == c) line (line_of old c) n)) (same (weight_at old c)))
    (cases_Bool (conn == c))

session-weight : (session : Session) (line : Line) → weight_of (in_session session line) ≡ weight_of line
session-weight session unopened = refl
session-weight session (talking was stream) = refl
session-weight session over = refl

pub weights-session : (old mid new : MetaServer) (conn : ℕ) (session : Session) → mid.lines ≡ old.lines → SetsLine mid new conn (in_session session (line_of mid conn))
    → (c : ℕ) → weight_at new c ≡ weight_at old c
unfolding line_of
weights-session old mid new conn session lines sets c =
    weight-set mid new conn (in_session session (line_of mid conn)) sets c (λ a b. a ≡ b) (session-weight session (line_of mid conn)) (λ n. refl)
    ∙ ap (λ table. weight_at (record { lines = table; homes = mid.homes; service = mid.service }) c) lines

pub weights-same : (old new : MetaServer) → new.lines ≡ old.lines → (c : ℕ) → weight_at new c ≡ weight_at old c
unfolding line_of
weights-same old new lines c = ap (λ table. weight_at (record { lines = table; homes = new.homes; service = new.service }) c) lines

closed-weight : (line : Line) → weight_of (closed line) ≤ weight_of line
closed-weight unopened = omega arith
closed-weight (talking session stream) = omega arith
closed-weight over = omega arith

pub weights-closed : (old new : MetaServer) (conn : ℕ) → SetsLine old new conn (closed (line_of old conn)) → (c : ℕ) → weight_at new c ≤ weight_at old c
weights-closed old new conn sets c =
    weight-set old new conn (closed (line_of old conn)) sets c (λ a b. a ≤ b) (closed-weight (line_of old conn)) (λ n. omega arith)

-- ---- a message is read

read-size : (place size n : ℕ) (read : Option Message) (said : Message) → message_or place size read ≡ message said n → n ≡ size
read-size place size n (Some one) said is = let same : size ≡ n = cc in sym same
read-size place size n None said is = absurd (let no : fault (BadBody place) ≡ message said n = is in cc)

judged-size : (place size n : ℕ) (body : List ℕ) (said : Message) → judged place size body ≡ message said n → n ≡ size
judged-size place size n [] said is = absurd (let no : fault (BadBody place) ≡ message said n = is in cc)
judged-size place size n (byte ∷ fields) said is = named (kind_of byte) is
  where
    named : (kind : _) → kind_or place size byte fields kind ≡ message said n → n ≡ size
    named (Some kind) is = read-size place size n (message_in kind fields) said is
    named None is = absurd (let no : fault (BadKind byte place) ≡ message said n = is in cc)

frame-size : (long short : Bool) (place size n : ℕ) (body : List ℕ) (said : Message)
    → (if long then fault (TooLong size) else (if short then partial else judged place (size + 4) body)) ≡ message said n → n ≡ size + 4
frame-size true short place size n body said is = absurd (let no : fault (TooLong size) ≡ message said n = is in cc)
frame-size false true place size n body said is = absurd (let no : partial ≡ message said n = is in cc)
frame-size false false place size n body said is = judged-size place (size + 4) n body said is

front-size : (few : Bool) (place size n : ℕ) (bytes : List ℕ) (said : Message) → (if few then partial else frame_at place size bytes) ≡ message said n → n ≡ size + 4
front-size true place size n bytes said is = absurd (let no : partial ≡ message said n = is in cc)
front-size false place size n bytes said is = frame-size (nat_lt MAX_FRAME size) (nat_lt (length bytes) size) place size n (take size bytes) said is

-- a frame has bytes
message-size : (place : ℕ) (bytes : List ℕ) (said : Message) (size : ℕ) → front_at place bytes ≡ message said size → size ≡ big_number 4 bytes + 4
unfolding front_at
message-size place bytes said size is = front-size (nat_lt (length bytes) 4) place (big_number 4 bytes) size (drop 4 bytes) said is

passed-shorter : (unread : Unread) (f : Front) (answered : Option FrameFault) (said : Message) → front unread ≡ f → next_of f answered ≡ Ok (Some said)
    → length (passed unread f answered).rest < length unread.rest
passed-shorter unread (message one size) None said is next =
    omega (arith, length-drop size unread.rest, message-size unread.place unread.rest one size is, message_fits unread.place unread.rest one size is)
passed-shorter unread partial None said is next = absurd (let no : Ok None ≡ Ok (Some said) = next in cc)
passed-shorter unread (fault wrong) None said is next = absurd (let no : Err wrong ≡ Ok (Some said) = next in cc)
passed-shorter unread f (Some wrong) said is next = absurd (let no : Err wrong ≡ Ok (Some said) = next in cc)

shorter : (unread : Unread) (said : Message) → next_answer unread ≡ Ok (Some said) → length (after_next unread).rest < length unread.rest
shorter unread said next = passed-shorter unread (front unread) unread.answered said refl next

behind-lighter : (session : Session) (stream : Unread) (step : Step) (n : ℕ) → length stream.rest < n → weight_of (line_behind session stream step) < n + 1
behind-lighter session stream Waits n less = omega arith
behind-lighter session stream Ends n less = omega arith
behind-lighter session stream Joins n less = omega arith
behind-lighter session stream (Asks ask) n less = omega arith

next-lighter : (session : Session) (stream : Unread) (answer : Result (Option Message) FrameFault) → next_answer stream ≡ answer → step_of session answer ≢ Waits
    → weight_of (line_behind session (after_next stream) (step_of session answer)) < length stream.rest + 1
next-lighter session stream (Ok None) is acts = absurd (acts refl)
next-lighter session stream (Ok (Some said)) is acts = behind-lighter session (after_next stream) (step_of session (Ok (Some said))) (length stream.rest) (shorter stream said is)
next-lighter session stream (Err wrong) is acts = omega arith

-- less is to be read behind what came next
line-lighter : (line : Line) → next_step line ≢ Waits → weight_of (next_line line) < weight_of line
line-lighter unopened acts = absurd (acts refl)
line-lighter (talking session stream) acts = next-lighter session stream (next_answer stream) refl acts
line-lighter over acts = absurd (acts refl)

here-set : (old new : MetaServer) (conn : ℕ) (line : Line) → SetsLine old new conn line → line_of new conn ≡ line
here-set old new conn line sets = sets.lines conn ∙ cond-true (conn == conn) line (line_of old conn) (eq-eqb conn conn refl)

pub falls-behind : (old mid new : MetaServer) (conn : ℕ) (step : Step) (turn : Turn) → step ≡ next_step (line_of old conn) → SetsLine old mid conn (next_line (line_of old conn))
    → (step ≡ Waits → turn ≡ Rests) → ((c : ℕ) → weight_at new c ≡ weight_at mid c) → Falls old new conn turn
falls-behind old mid new conn step turn is sets rests weights = by turn rests
  where
    lighter : step ≢ Waits → weight_at new conn < weight_at old conn
    lighter acts =
        let less : weight_of (next_line (line_of old conn)) < weight_at old conn = line-lighter (line_of old conn) (λ waits. acts (is ∙ waits)) in
        let same : weight_at new conn ≡ weight_of (next_line (line_of old conn)) = weights conn ∙ ap weight_of (here-set old mid conn (next_line (line_of old conn)) sets) in
        omega (arith, less, same)

    by : (t : Turn) → (step ≡ Waits → t ≡ Rests) → Falls old new conn t
    by Rests rested = tt
    by Closes rested = lighter (λ waits. let no : Closes ≡ Rests = rested waits in cc)
    by (Sends letters) rested = lighter (λ waits. let no : Sends letters ≡ Rests = rested waits in cc)
