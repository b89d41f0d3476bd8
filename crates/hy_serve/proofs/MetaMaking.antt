-- Lemmas on the calls that the metadata server makes one after the other.
use Rattle.std.proofs.Common.{◌≡◌, ℕ, ◌+◌, ◌<◌, ◌≤◌, suc, List, [], ◌∷◌, ◌++◌, length, drop, get_or, refl, sym, ap, subst, ◌∙◌, append_assoc, add-one}
use Rattle.std.proofs.Math.Seq.{drop-cons}
use Rattle.std.proofs.lemmas.List.{drop_all}
use Rattle.hy_base.specs.Moves.{Move, Request, called, close, to_close}
use Rattle.hy_serve.specs.declared.letter.Letter.{Letter}
use Rattle.hy_serve.specs.declared.meta_server.MetaServer.{MetaServer}
use Rattle.hy_serve.specs.Course.{calls}
use Rattle.hy_serve.specs.MetaRole.{MetaLeads}
use Rattle.hy_serve.specs.MetaStanding.{request_for, requests_for}
use Rattle.hy_serve.specs.MetaPlaying.{Called, Makes, MakesFirst}
use Rattle.hy_serve.proofs.MetaSends.{with_due}

-- no call
pub makes-none : (server : MetaServer) (requests : List Request) → Makes server server requests requests []
makes-none server requests port arrivals before state course stands due =
    record { after = state; course = course; stands = stands; due = due; continues = record { left = refl; broken = refl; reading = refl } }

-- some calls, and then some more
pub makes-more : (old mid new : MetaServer) (requests between later : List Request) (first second : List Move) → Makes old mid requests between first
    → Makes mid new between later second → Makes old new requests later (second ++ first)
makes-more old mid new requests between later first second one two port arrivals before state course stands due =
    let a = one port arrivals before state course stands due in
    let b = two port arrivals (first ++ before) a.after a.course a.stands a.due in
    record {
      after = b.after;
      course = subst (λ (moves : List Move). MetaLeads port arrivals moves b.after) (sym (append_assoc second first before)) b.course;
      stands = b.stands;
      due = b.due;
      continues = record {
        left = b.continues.left ∙ a.continues.left;
        broken = b.continues.broken ∙ a.continues.broken;
        reading = b.continues.reading ∙ a.continues.reading;
      };
    }

-- a connection is closed
pub makes-close : (server : MetaServer) (conn : ℕ) (moves : List Move) → moves ≡ called (close conn) ∷ [] → Makes server server (to_close conn ∷ []) [] moves
makes-close server conn moves is port arrivals before state course stands due =
    subst (λ (m : List Move). Called port arrivals server state [] (m ++ before)) (sym is)
    (record {
      after = with_due state [];
      course = calls before state (with_due state []) (close conn) course (record { later = []; due = due; is = refl });
      stands = record { lines = stands.lines; homes = stands.homes; given = stands.given; serves = stands.serves };
      due = refl;
      continues = record { left = refl; broken = refl; reading = refl };
    })

-- the frames from this place on
front-first : (letters : List Letter) (place : ℕ) (letter : Letter) → place < length letters → letter ≡ get_or letters place letter
    → requests_for (drop place letters) ≡ request_for letter ∷ requests_for (drop (place + 1) letters)
front-first letters place letter within is =
    ap requests_for (drop-cons letters place letter within ∙ ap (λ (l : Letter). l ∷ drop (suc place) letters) (sym is))
    ∙ ap (λ (n : ℕ). request_for letter ∷ requests_for (drop n letters)) (sym (add-one place))

pub makes-next : (old mid new : MetaServer) (letters : List Letter) (place : ℕ) (letter : Letter) (first second : List Move) → place < length letters
    → letter ≡ get_or letters place letter → Makes old mid (requests_for letters) (requests_for (drop place letters)) first
    → MakesFirst mid new (request_for letter) second → Makes old new (requests_for letters) (requests_for (drop (place + 1) letters)) (second ++ first)
makes-next old mid new letters place letter first second within is one two =
    makes-more old mid new (requests_for letters) (request_for letter ∷ requests_for (drop (place + 1) letters)) (requests_for (drop (place + 1) letters)) first second
    (subst (λ (r : List Request). Makes old mid (requests_for letters) r first) (front-first letters place letter within is) one)
    (two (requests_for (drop (place + 1) letters)))

pub makes-all : (old new : MetaServer) (letters : List Letter) (place : ℕ) (moves : List Move) → length letters ≤ place
    → Makes old new (requests_for letters) (requests_for (drop place letters)) moves → Makes old new (requests_for letters) [] moves
makes-all old new letters place moves past makes =
    subst (λ (l : List Letter). Makes old new (requests_for letters) (requests_for l) moves) (drop_all place letters past) makes
