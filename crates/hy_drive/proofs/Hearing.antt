-- Lemmas on the service's stream.
use Rattle.std.proofs.Common.{◌≡◌, ◌≢◌, ℕ, ◌+◌, ◌-◌, ◌^◌, min, List, [], ◌∷◌, ◌++◌, drop, Option, Some, None, Result, Ok, Err, refl, sym, ap, subst, ◌∙◌}
use Rattle.std.specs.Prelude.{All}
use Rattle.std.proofs.lemmas.List.Elements.{All-head, All-tail}
use Rattle.hy_mwire.specs.declared.fault.FrameFault.{FrameFault}
use Rattle.hy_mwire.specs.declared.fault.FrameFault.TheVariants.{NoMemory}
use Rattle.hy_mwire.specs.declared.message.Message.{Message}
use Rattle.hy_mwire.specs.Front.{Front, front_at, partial, message, fault}
use Rattle.hy_mwire.specs.Message.{IsMessage}
use Rattle.hy_mwire.specs.Stream.{Unread, front, judged_stream, with_piece, longer, next_answer, next_of, after_next, passed, StandsFor}
use Rattle.hy_drive.specs.declared.service_line.ServiceLine.{ServiceLine}
use Rattle.hy_drive.specs.declared.service_line.News.TheVariants.{Wrong}
use Rattle.hy_drive.specs.State.{Service, live}
use Rattle.hy_drive.specs.Held.{IsLive, HoldsService, StreamsOn, Reads, Gives, HearsNothing, faulty}

-- the parts of a live connection
abbrev pub conn_of : Service → ℕ → ℕ
conn_of (live conn rest place) other = conn
conn_of service other = other

abbrev pub rest_of : Service → List ℕ
rest_of (live conn rest place) = rest
rest_of service = []

abbrev pub place_of : Service → ℕ
place_of (live conn rest place) = place
place_of service = 0

-- a stream that waits for bytes has no fault
live-waits : (unread : Unread) (taken : List ℕ) (said : List Message) → StandsFor taken said unread → front_at unread.place unread.rest ≡ partial → unread.answered ≡ None
live-waits unread taken said stands waits = go unread.answered refl where
  go : (answered : Option FrameFault) → unread.answered ≡ answered → answered ≡ None
  go None is = refl
  go (Some wrong) is = absurd (let e : partial ≡ fault wrong = sym waits ∙ stands.answered wrong is in cc)

fed-rest : (unread : Unread) (piece : List ℕ) (answered : Option FrameFault) → unread.answered ≡ answered → answered ≡ None → (with_piece unread piece).rest ≡ unread.rest ++ piece
fed-rest unread piece None is none = ap (λ (a : Option FrameFault). (longer unread piece a).rest) is
fed-rest unread piece (Some wrong) is none = absurd (let e : ◌≡◌ {A = Option FrameFault} (Some wrong) None = none in cc)

fed-place : (unread : Unread) (piece : List ℕ) (answered : Option FrameFault) → unread.answered ≡ answered → answered ≡ None → (with_piece unread piece).place ≡ unread.place
fed-place unread piece None is none = ap (λ (a : Option FrameFault). (longer unread piece a).place) is
fed-place unread piece (Some wrong) is none = absurd (let e : ◌≡◌ {A = Option FrameFault} (Some wrong) None = none in cc)

-- a piece was taken
pub streams-on : (old new : ServiceLine) (piece : List ℕ) → new.conn ≡ old.conn → new.reader ≡ judged_stream (with_piece old.reader piece)
    → (old.reader.answered ≡ None → (taken : List ℕ) (said : List Message) → StandsFor taken said old.reader → StandsFor (taken ++ piece) said new.reader)
    → StreamsOn (Some old) (Some new) piece
streams-on old new piece same after stands conn rest place holds waits =
    let place-is : place ≡ old.reader.place = ap place_of holds.is in
    let rest-is : rest ≡ old.reader.rest = ap rest_of holds.is in
    let waits-here : front_at old.reader.place old.reader.rest ≡ partial = subst (λ (p : ℕ). front_at p old.reader.rest ≡ partial) place-is (subst (λ (r : List ℕ). front_at place r ≡ partial) rest-is waits) in
    let none = live-waits old.reader holds.taken holds.said holds.stands waits-here in
    let r : new.reader.rest ≡ rest ++ piece = ap (λ (u : Unread). u.rest) after ∙ fed-rest old.reader piece old.reader.answered refl none ∙ ap (λ (l : List ℕ). l ++ piece) (sym rest-is) in
    let p : new.reader.place ≡ place = ap (λ (u : Unread). u.place) after ∙ fed-place old.reader piece old.reader.answered refl none ∙ sym place-is in
    let c : new.conn ≡ conn = same ∙ sym (ap (λ (s : Service). conn_of s conn) holds.is) in
    record {
      is = let e : live conn (rest ++ piece) place ≡ live new.conn new.reader.rest new.reader.place = cc in e;
      taken = holds.taken ++ piece;
      said = holds.said;
      stands = stands none holds.taken holds.said holds.stands;
    }

-- a message that stood in front
pub record StoodInFront (unread : Unread) (said : Message) : Type 0 where
  pub size : ℕ
  pub front : front_at unread.place unread.rest ≡ message said size
  pub sound : unread.answered ≡ None

stood : (unread : Unread) (said : Message) (f : Front) (answered : Option FrameFault) → front unread ≡ f → unread.answered ≡ answered → Ok (Some said) ≡ next_of f answered → StoodInFront unread said
stood unread said f (Some wrong) is sound next = absurd (let e : ◌≡◌ {A = Result (Option Message) FrameFault} (Ok (Some said)) (Err wrong) = next in cc)
stood unread said partial None is sound next = absurd (let e : ◌≡◌ {A = Result (Option Message) FrameFault} (Ok (Some said)) (Ok None) = next in cc)
stood unread said (message other size) None is sound next = record {
  size = size;
  front = is ∙ ap (λ (m : Message). message m size) (sym (let e : ◌≡◌ {A = Result (Option Message) FrameFault} (Ok (Some said)) (Ok (Some other)) = next in let m : said ≡ other = cc in m));
  sound = sound;
}
stood unread said (fault wrong) None is sound next = absurd (let e : ◌≡◌ {A = Result (Option Message) FrameFault} (Ok (Some said)) (Err wrong) = next in cc)

passed-by : (unread : Unread) (said : Message) (f : Front) (answered : Option FrameFault) (size : ℕ) → f ≡ message said size → answered ≡ None
    → passed unread f answered ≡ record { rest = drop size unread.rest; place = min (unread.place + size) (2 ^ 64 - 1); answered = None }
passed-by unread said f answered size is none = ap (λ (g : Front). passed unread g answered) is ∙ ap (λ (a : Option FrameFault). passed unread (message said size) a) none

last-known : (told : List Message) (said : Message) → All IsMessage (told ++ said ∷ []) → IsMessage said
last-known [] said all = All-head IsMessage said [] all
last-known (m ∷ told) said all = last-known told said (All-tail IsMessage m (told ++ said ∷ []) all)

-- a message was given
pub gives-said : (old new : ServiceLine) (said : Message) → new.conn ≡ old.conn → Ok (Some said) ≡ next_answer old.reader → new.reader ≡ after_next old.reader
    → ((taken : List ℕ) (told : List Message) → StandsFor taken told old.reader → StandsFor taken (told ++ said ∷ []) new.reader)
    → (conn : ℕ) (rest : List ℕ) (place : ℕ) → IsLive old (live conn rest place) → Gives conn rest place (Some new) said
gives-said old new said same next after stands conn rest place holds =
    let place-is : place ≡ old.reader.place = ap place_of holds.is in
    let rest-is : rest ≡ old.reader.rest = ap rest_of holds.is in
    let s = stood old.reader said (front old.reader) old.reader.answered refl refl next in
    let behind-it = after ∙ passed-by old.reader said (front old.reader) old.reader.answered s.size s.front s.sound in
    let r : new.reader.rest ≡ drop s.size rest = ap (λ (u : Unread). u.rest) behind-it ∙ ap (λ (l : List ℕ). drop s.size l) (sym rest-is) in
    let p : new.reader.place ≡ min (place + s.size) (2 ^ 64 - 1) = ap (λ (u : Unread). u.place) behind-it ∙ ap (λ (n : ℕ). min (n + s.size) (2 ^ 64 - 1)) (sym place-is) in
    let c : new.conn ≡ conn = same ∙ sym (ap (λ (v : Service). conn_of v conn) holds.is) in
    let now = stands holds.taken holds.said holds.stands in
    record {
      size = s.size;
      front = ap (λ (n : ℕ). front_at n rest) place-is ∙ ap (λ (l : List ℕ). front_at old.reader.place l) rest-is ∙ s.front;
      known = last-known holds.said said now.messages;
      holds = record {
        is = let e : live conn (drop s.size rest) (min (place + s.size) (2 ^ 64 - 1)) ≡ live new.conn new.reader.rest new.reader.place = cc in e;
        taken = holds.taken;
        said = holds.said ++ said ∷ [];
        stands = now;
      };
    }

-- what is answered is not want of memory
pub ok-fed : (result : Result Unit FrameFault) (u : Unit {0}) → result ≡ Ok u → result ≢ Err NoMemory
ok-fed result u is not = absurd (let e : ◌≡◌ {A = Result Unit FrameFault} (Ok u) (Err NoMemory) = sym is ∙ not in cc)

pub err-fed : (result : Result Unit FrameFault) (wrong : FrameFault) → result ≡ Err wrong → wrong ≢ NoMemory → result ≢ Err NoMemory
err-fed result wrong is other not = other (let e : ◌≡◌ {A = Result Unit FrameFault} (Err wrong) (Err NoMemory) = sym is ∙ not in cc)

pub ok-next : (result : Result (Option Message) FrameFault) (said : Option Message) → result ≡ Ok said → result ≢ Err NoMemory
ok-next result said is not = absurd (let e : ◌≡◌ {A = Result (Option Message) FrameFault} (Ok said) (Err NoMemory) = sym is ∙ not in cc)

-- a fault was met, and the connection counts no more
pub breaks-off : (held new : ServiceLine) (wrong : FrameFault) → Reads held new (Wrong wrong) → (service : Service) → HoldsService (Some held) service → HearsNothing service None
breaks-off held new wrong reads service holds =
    faulty held.conn held.reader.rest held.reader.place wrong holds.is
    (reads held.conn held.reader.rest held.reader.place (record { is = refl; taken = holds.taken; said = holds.said; stands = holds.stands })) refl
