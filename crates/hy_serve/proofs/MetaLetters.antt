-- Lemmas on the frames that are to be sent.
use Rattle.std.proofs.Common.{◌≡◌, ℕ, List, [], ◌∷◌, ◌++◌, Option, Some, None, refl, sym, ap, ◌∙◌, append-nil}
use Rattle.std.proofs.lemmas.List.Concat.{flat_map-append}
use Rattle.std.proofs.lemmas.List.{map-append}
use Rattle.hy_record.specs.declared.message.MetaSay.{MetaSay}
use Rattle.hy_mwire.specs.declared.message.Message.TheVariants.{Say}
use Rattle.hy_mwire.specs.Frames.{frame_of}
use Rattle.hy_meta.specs.Run.{addressee_of}
use Rattle.hy_base.specs.Moves.{Request, to_send}
use Rattle.hy_serve.specs.declared.letter.Letter.{Letter}
use Rattle.hy_serve.specs.MetaRole.{letter_to, letters_for}
use Rattle.hy_serve.specs.MetaStanding.{request_for, requests_for}

-- a frame for a client that joined
pub posts-one : (old new : List Letter) (letter : Letter) (home : Option ℕ) (say : MetaSay) → new ≡ old ++ letter ∷ [] → letter.bytes ≡ frame_of (Say say)
    → home ≡ Some letter.conn → requests_for new ≡ requests_for old ++ letter_to home say
posts-one old new letter home say is frame joined =
    ap requests_for is ∙ map-append request_for old (letter ∷ [])
    ∙ ap (λ (r : List Request). requests_for old ++ r) (ap (λ (bytes : List ℕ). to_send letter.conn bytes ∷ []) frame ∙ ap (λ (h : Option ℕ). letter_to h say) (sym joined))

-- none for a client that did not
pub posts-none : (letters : List Letter) (home : Option ℕ) (say : MetaSay) → home ≡ None → requests_for letters ≡ requests_for letters ++ letter_to home say
posts-none letters home say absent =
    sym (append-nil (requests_for letters)) ∙ ap (λ (h : Option ℕ). requests_for letters ++ letter_to h say) (sym absent)

-- one message more
pub letters-more : (homes : ℕ → Option ℕ) (before : List MetaSay) (say : MetaSay)
    → letters_for homes (before ++ say ∷ []) ≡ letters_for homes before ++ letter_to (homes (addressee_of say).client) say
letters-more homes before say =
    flat_map-append (λ (s : MetaSay). letter_to (homes (addressee_of s).client) s) before (say ∷ [])
    ∙ ap (λ (r : List Request). letters_for homes before ++ r) (append-nil (letter_to (homes (addressee_of say).client) say))

-- it is where each client joined that counts
pub letters-same : (f g : ℕ → Option ℕ) (says : List MetaSay) → ((client : ℕ) → f client ≡ g client) → letters_for f says ≡ letters_for g says
letters-same f g [] same = refl
letters-same f g (say ∷ says) same =
    ap (λ (h : Option ℕ). letter_to h say ++ letters_for f says) (same (addressee_of say).client)
    ∙ ap (λ (r : List Request). letter_to (g (addressee_of say).client) say ++ r) (letters-same f g says same)
